-- The loop's invariant: what stands before i is not at the station.
-- Assumes nothing.
use mathlib.Core.Path.{◌≡◌}
use Prim.Native.Nat.{◌+◌, ◌≤◌}
use lib.ListN.{drop}
use Rattle.flat.specs.Inner.Queues.{first_index}
use Rattle.flat.specs.Inner.Nested.{at_place}
use Rattle.state.specs.Inner.State.{flat_in}
use Rattle.state.proofs.ops.first_at.Given as goal

abbrev pub invariant-loop-i : goal.invariant-loop-i
invariant-loop-i l = (l.i ≤ l.n) × (l.i + first_index (at_place l.k) (drop l.i (flat_in l.image).queue) ≡ first_index (at_place l.k) (flat_in l.image).queue)
