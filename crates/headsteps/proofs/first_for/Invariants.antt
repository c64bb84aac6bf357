-- The loop's invariant: from h up to i stands none that the step looks for.
-- Assumes nothing.
use Prim.Native.Nat.{◌≤◌}
use Rattle.flat.specs.Inner.FlatSteps.{sought_at}
use Rattle.state.specs.Inner.State.{flat_in}
use Rattle.headsteps.proofs.Parts.{Searched}
use Rattle.headsteps.proofs.first_for.Given as goal

abbrev pub invariant-loop-i : goal.invariant-loop-i
invariant-loop-i l = (l.i ≤ l.e) × (l.h ≤ l.i) × Searched (sought_at l.sought l.k) (flat_in l.image).queue l.h l.e l.i
