-- Units by number: where one starts and ends, and two neighbours that are alone in their units.
-- Assumes nothing.
use Rattle.std.specs.Prelude.{ℕ, suc, cond, ◌&&◌, List, eqb, Result}
use Rattle.graph.specs.Refused.{answered}
use Rattle.graph.specs.declared.refusal.Refusal.{Refusal}
use Rattle.graph.specs.Refusals.{Answer, refused, done, and_then}
use Rattle.flat.specs.Flat.{Tagged, Flat}
use Rattle.flat.specs.Inner.Queues.{first_index, is_at, end_of}
use Rattle.flat.specs.Inner.Nested.{at_place}
use Rattle.flat.specs.Inner.FlatSteps.{unit_start, known}
use Rattle.units.specs.declared.UnitPlace.{UnitPlace}

-- where a unit starts, and where it ends: where the next one starts, if there is one
pub record Span : Type 0 where
  pub start : ℕ
  pub end : ℕ

abbrev pub span_at : ℕ → ℕ → List Tagged → Answer Span
span_at k p q = cond (is_at k p q) (done (record { start = p; end = end_of k p q })) (refused 21)

-- unit number i of station k
abbrev pub locate : ℕ → ℕ → Flat → Answer Span
locate k i f = cond (known k f) (span_at k (unit_start k i (first_index (at_place k) f.queue) f.queue) f.queue) (refused 20)

-- a unit of one operation, before another such unit
abbrev pub alone : ℕ → List Tagged → Span → Answer Span
alone k q s = cond (is_at k s.end q) (cond (eqb s.end (suc s.start) && eqb (end_of k s.end q) (suc s.end)) (done s) (refused 22)) (refused 21)

abbrev pub locate_two : ℕ → ℕ → Flat → Answer Span
locate_two k i f = and_then (locate k i f) (alone k f.queue)

-- what the functions of src/lib.rt answer
abbrev pub span_of : UnitPlace → Span
span_of u = record { start = u.start; end = u.end }

abbrev pub spotted : Result UnitPlace Refusal → Answer Span
spotted = answered span_of
