-- `keylists::sofar::ListSoFar::with_bytes` meets its contract. The loop's invariant: the bytes passed are read.
-- Assumes nothing.
use mathlib.Core.List.{List, ◌++◌}
use Prim.Native.Nat.{ℕ}
use lib.ListN.{take}
use Rattle.keylists.specs.Inner.ListsRead.{Begun}
use Rattle.keylists.proofs.sofar.ListSoFar.with_bytes.Given as goal

abbrev pub invariant-loop-b : goal.invariant-loop-b
invariant-loop-b l = (s : List ℕ) → Begun s l.initial.f → Begun (s ++ take l.b-index l.piece) l.f
