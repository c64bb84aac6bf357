-- What the steps on a head unit state, part by part.
-- Assumes nothing.
use Rattle.std.specs.Prelude.{◌≡◌, ℕ, ◌≤◌, ◌<◌, true, cond, List, ltb, get_or}
use Rattle.graph.specs.declared.task.Sought.{Sought}
use Rattle.graph.specs.Refusals.{Answer, refused, done, and_then}
use Rattle.graph.specs.Nodes.{Node}
use Rattle.graph.specs.Packed.{listed}
use Rattle.flat.specs.Flat.{Tagged, Flat}
use Rattle.graph.specs.OneAtATime.{is_op}
use Rattle.flat.specs.Inner.FlatSteps.{no_op, first_in, sought_at}
use Rattle.state.specs.declared.nodes.Body.{Body}
use Rattle.units.specs.Inner.Numbered.{Span, locate}

-- the node of a struct
abbrev pub body_value : Body → Node
body_value b = record { key = b.key; value = b.value; links = listed b.links }

-- from h up to, not including, e stands no add
abbrev pub NoAdds : ℕ → ℕ → List Tagged → Type 0
NoAdds h e q = (i : ℕ) → h ≤ i → i < e → is_op (get_or q i no_op).call ≡ true

-- in the head unit of station k, the first operation that a step looks for, and where the unit ends
abbrev pub found_before : ℕ → ℕ → Answer Span
found_before e p = cond (ltb p e) (done (record { start = p; end = e })) (refused 22)

abbrev pub first_for : Sought → ℕ → List Tagged → Span → Answer Span
first_for sought k q u = found_before u.end (first_in (sought_at sought k) u.start u.end q)

abbrev pub locate_first : Sought → ℕ → Flat → Answer Span
locate_first sought k f = and_then (locate k 1 f) (first_for sought k f.queue)
