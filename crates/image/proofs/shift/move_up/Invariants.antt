-- `shift::move_up` meets its contract.
-- Assumes nothing.
use Prim.Native.Nat.{◌≤◌}
use Rattle.image.specs.Inner.Moves.{MovedUp}
use Rattle.image.proofs.shift.move_up.Given as goal

abbrev pub invariant-loop-i : goal.invariant-loop-i
invariant-loop-i l = (l.at ≤ l.i) × (l.i ≤ l.end) × MovedUp l.i l.end l.by l.initial.s l.s
