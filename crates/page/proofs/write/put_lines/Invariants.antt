-- The loop's invariant: the lines of the nodes from place i on are written.
-- Assumes nothing.
use Rattle.std.proofs.Common.{length, take, ◌-◌}
use Rattle.text.specs.Inner.Put.{TextPut}
use Rattle.listing.specs.Inner.Rows.{joined}
use Rattle.page.proofs.ImagePages.{lines_in}
use Rattle.page.proofs.write.put_lines.Given as goal

abbrev pub invariant-loop-i : goal.invariant-loop-i
invariant-loop-i l = TextPut l.initial.out l.at (joined (take (length (lines_in l.image) - l.i) (lines_in l.image))) l.out l.p
