-- `shift::move_down` meets its contract.
-- Assumes nothing.
use Prim.Native.Nat.{◌+◌, ◌≤◌}
use Rattle.image.specs.Inner.Moves.{MovedDown}
use Rattle.image.proofs.shift.move_down.Given as goal

abbrev pub invariant-loop-i : goal.invariant-loop-i
invariant-loop-i l = (l.at ≤ l.i) × (l.i + l.by ≤ l.end) × MovedDown l.at (l.i + l.by) l.by l.initial.s l.s
