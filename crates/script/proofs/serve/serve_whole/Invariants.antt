-- The places rise within the frame, and the numbers no faster.
-- Assumes nothing.
use Rattle.std.proofs.Common.{◌+◌, ◌≤◌, ◌-◌, ◌≡◌, length}
use Rattle.script.specs.Inner.Running.{LinesRun}
use Rattle.script.proofs.serve.serve_whole.Given as goal

abbrev pub invariant-loop-rest : goal.invariant-loop-rest
invariant-loop-rest g l =
    (l.at ≤ l.rest.at)
    × (l.rest.at ≤ length l.frame)
    × (l.rest.line + l.at ≤ l.line + l.rest.at)
    × (length l.image ≡ length l.initial.image)
    × (length l.out ≡ length l.initial.out)
    × LinesRun l.initial.image l.line l.image l.rest.line

abbrev pub decreases-loop-rest : goal.decreases-loop-rest
decreases-loop-rest g l = length l.frame - l.rest.at
