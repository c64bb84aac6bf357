-- Acceptance, claims and drain on the flat session, in the shape that the code has.
-- Assumes nothing.
use Rattle.std.specs.Prelude.{ℕ, suc, ◌+◌, true, cond, ◌&&◌, List, [], ◌∷◌, ◌++◌, eqb, leb, length}
use Rattle.std.proofs.Math.Option.{Option, none, some}
use Rattle.graph.specs.Refusals.{Answer, refused, map_done, Test, unless}
use Rattle.graph.specs.KeyLists.{contains}
use Rattle.graph.specs.Calls.{Call, form_tests}
use Rattle.graph.specs.OneAtATime.{is_add, Labelled, labelled}
use Rattle.graph.specs.Steps.{Step, admit, realise, move, finish}
use Rattle.graph.specs.Acceptance.{Room, room_tests, Claimed, take_result}
use Rattle.graph.specs.Drain.{or_else}
use Rattle.flat.specs.Flat.{Tagged, Flat}
use Rattle.flat.specs.Inner.Queues.{queued, adds_queued, live_in}
use Rattle.flat.specs.Inner.FlatSteps.{flat_step}

abbrev pub flat_room : Flat → Room
flat_room f = record { adds = length f.nodes + adds_queued f.queue; live = length (live_in f); given = f.last }

abbrev pub flat_tests : Call → Flat → List Test
flat_tests c f = form_tests c ++ room_tests (is_add c) (flat_room f)

-- x at the end of the top stream, with the next label given
abbrev pub accepted_as : Labelled → Flat → Flat
accepted_as x f =
    record { nodes = f.nodes; queue = f.queue ++ (record { place = 65; opens = true; call = x } ∷ []); results = f.results; last = suc f.last }

abbrev pub flat_accepted : Call → Flat → Flat
flat_accepted c f = accepted_as (labelled c (suc f.last)) f

abbrev pub flat_accept : Call → Flat → Answer Flat
flat_accept c f = unless (flat_tests c f) (flat_accepted c f)

abbrev pub flat_claim : ℕ → Flat → Answer Claimed
flat_claim l f = cond (leb 1 l && leb l f.last) (cond (contains l (queued f.queue)) (refused 31) (take_result l f.results)) (refused 30)

-- drain: the queue's first operation stands at the back station that has one
abbrev pub first_place : List Tagged → Option ℕ
first_place [] = none
first_place (x ∷ xs) = cond (eqb x.place 65) none (some x.place)

pub record FlatTaken : Type 0 where
  pub what : Step
  pub to : Flat

abbrev pub flat_taking : Step → Flat → Answer FlatTaken
flat_taking t f = map_done (λ u. record { what = t; to = u }) (flat_step t f)

abbrev pub flat_drain_step_at : Option ℕ → Flat → Answer FlatTaken
flat_drain_step_at none f = flat_taking admit f
flat_drain_step_at (some k) f = or_else (flat_taking (realise k) f) (or_else (flat_taking (finish k) f) (flat_taking (move k) f))

abbrev pub flat_drain_step : Flat → Answer FlatTaken
flat_drain_step f = flat_drain_step_at (first_place f.queue) f
