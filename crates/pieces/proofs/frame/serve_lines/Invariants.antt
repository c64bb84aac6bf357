-- The loop's invariant: the lines so far were served.
-- Assumes nothing.
use mathlib.Core.Path.{◌≡◌}
use Prim.Native.Nat.{◌-◌}
use lib.ListN.{length}
use Rattle.pieces.specs.Inner.Frames.{LinesServed}
use Rattle.pieces.proofs.frame.serve_lines.Given as goal

abbrev pub invariant-loop-image : goal.invariant-loop-image
invariant-loop-image l = LinesServed l.initial.image l.frame l.initial.p l.initial.out l.image l.out l.p × (length l.image ≡ length l.initial.image) × (length l.out ≡ length l.initial.out)

abbrev pub decreases-loop-image : goal.decreases-loop-image
decreases-loop-image l = length l.frame - l.p.at
