-- The loop's invariant: the lines before place i are written.
-- Assumes nothing.
use Rattle.std.proofs.Common.{arith, length, ap}
use Rattle.text.proofs.Pasting.{written_none}
use Rattle.state.specs.Inner.State.{flat_in}
use Rattle.listing.specs.Inner.Rows.{rows_of}
use Rattle.listing.proofs.Joined.{written_as, row_room, row_more}
use Rattle.listing.proofs.write.put_rows.Goals as goal

pub loop-i-init : goal.loop-i-init
loop-i-init c = written_none _ _

pub put_row-p-requires : goal.put_row-p-requires
put_row-p-requires c =
    omega (arith, ap length c.row_at.ensures, row_room (rows_of (flat_in c.args.image.now)) c.loop-i.i (omega arith) c.requires.1 c.loop-i.invariant)

pub loop-i-preserved : goal.loop-i-preserved
loop-i-preserved c =
    row_more (rows_of (flat_in c.args.image.now)) c.loop-i.i (omega arith) c.requires.1 c.loop-i.invariant (written_as c.row_at.ensures c.put_row-p.ensures)
