-- The loop's invariant: counted from p, what is left of the number is the unit that is looked for.
-- Assumes nothing.
use Rattle.std.proofs.Common.{◌≡◌, length, ◌+◌, ◌-◌, ◌≤◌}
use Rattle.flat.specs.Inner.Queues.{first_index}
use Rattle.flat.specs.Inner.Nested.{at_place}
use Rattle.flat.specs.Inner.FlatSteps.{unit_start}
use Rattle.state.specs.Inner.State.{flat_in}
use Rattle.units.proofs.unit_start.Given as goal

abbrev pub invariant-loop : goal.invariant-loop
invariant-loop l =
    (l.p ≤ length (flat_in l.image).queue)
    × (unit_start l.k (l.unit + 1 - l.counter) l.p (flat_in l.image).queue ≡ unit_start l.k l.unit (first_index (at_place l.k) (flat_in l.image).queue) (flat_in l.image).queue)
