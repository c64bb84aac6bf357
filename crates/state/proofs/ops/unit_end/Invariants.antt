-- The loop's invariant: what stands after p and before i goes on with the unit.
-- Assumes nothing.
use mathlib.Core.Path.{◌≡◌}
use Prim.Native.Nat.{◌+◌, ◌≤◌}
use lib.ListN.{drop}
use Rattle.flat.specs.Inner.Queues.{first_index, breaks, end_of}
use Rattle.state.specs.Inner.State.{flat_in}
use Rattle.state.proofs.ops.unit_end.Given as goal

abbrev pub invariant-loop-i : goal.invariant-loop-i
invariant-loop-i l = (l.i ≤ l.n) × (l.i + first_index (breaks l.k) (drop l.i (flat_in l.image).queue) ≡ end_of l.k l.p (flat_in l.image).queue)
