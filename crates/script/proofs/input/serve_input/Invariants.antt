-- The kept bytes lie within the buffer.
-- Assumes nothing.
use Rattle.std.proofs.Common.{◌≤◌, ◌≡◌, length}
use Rattle.script.specs.Inner.Running.{LinesRun}
use Rattle.script.proofs.input.serve_input.Given as goal

abbrev pub invariant-loop : goal.invariant-loop
invariant-loop g l =
    (l.s.kept ≤ length l.buffer)
    × (length l.image ≡ length l.initial.image)
    × (length l.buffer ≡ length l.initial.buffer)
    × (length l.out ≡ length l.initial.out)
    × LinesRun l.initial.image 1 l.image l.s.line
