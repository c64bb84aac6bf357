-- The loop's invariant: the sum is the length of the lines before place i.
-- Assumes nothing.
use Rattle.std.proofs.Common.{arith, length, ap}
use Rattle.state.specs.Inner.State.{flat_in}
use Rattle.listing.specs.Inner.Rows.{rows_of}
use Rattle.listing.proofs.Joined.{length_next}
use Rattle.listing.proofs.measure.rows_len.Goals as goal

pub loop-i-preserved : goal.loop-i-preserved
loop-i-preserved c =
    let next = length_next (rows_of (flat_in c.args.image.now)) c.loop-i.i (omega arith) in
    (omega arith, omega (arith, next, ap length c.row_at.ensures))
