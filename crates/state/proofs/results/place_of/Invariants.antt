-- The loop's invariant: no result before i has a label above.
-- Assumes nothing.
use mathlib.Core.Path.{◌≡◌}
use Prim.Native.Nat.{◌+◌, ◌≤◌}
use lib.ListN.{drop}
use Rattle.flat.specs.Inner.Queues.{first_index}
use Rattle.state.specs.Inner.State.{flat_in}
use Rattle.state.specs.Inner.Results.{is_above}
use Rattle.state.proofs.results.place_of.Given as goal

abbrev pub invariant-loop-i : goal.invariant-loop-i
invariant-loop-i l = (l.i ≤ l.n) × (l.i + first_index (is_above l.label) (drop l.i (flat_in l.image).results) ≡ first_index (is_above l.label) (flat_in l.image).results)
