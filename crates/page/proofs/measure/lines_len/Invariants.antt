-- The loop's invariant: the lines from line i on are read, and their keys are marked.
-- Assumes nothing.
use Rattle.page.proofs.Scanning.{Scanned}
use Rattle.page.proofs.measure.lines_len.Given as goal

abbrev pub invariant-loop-i : goal.invariant-loop-i
invariant-loop-i l = Scanned l.page l.seen l.sum l.i
