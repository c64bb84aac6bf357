-- The loop's invariant: the operations from h up to i are at the next station.
-- Assumes nothing.
use Prim.Native.Nat.{◌-◌}
use Rattle.flat.specs.Inner.FlatSteps.{move_on}
use Rattle.headsteps.proofs.Parts.{Moved}
use Rattle.headsteps.proofs.move_unit.Given as goal

abbrev pub invariant-loop-i : goal.invariant-loop-i
invariant-loop-i l = Moved l.initial.image (move_on (l.k - 1)) l.h l.i l.image
