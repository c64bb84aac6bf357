-- The loop's invariant: the lines before place i are written.
-- Assumes nothing.
use lib.ListN.{take}
use Rattle.text.specs.Inner.Put.{TextPut}
use Rattle.state.specs.Inner.State.{flat_in}
use Rattle.listing.specs.Inner.Rows.{rows_of, joined}
use Rattle.listing.proofs.write.put_rows.Given as goal

abbrev pub invariant-loop-i : goal.invariant-loop-i
invariant-loop-i l = TextPut l.initial.out l.at (joined (take l.i (rows_of (flat_in l.image)))) l.out l.p
