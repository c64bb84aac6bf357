-- The step that drain takes on a flat session, by what stands at the queue's head.
-- Assumes nothing.
use mathlib.Core.Path.{◌≡◌, sym, ◌∙◌, ap}
use Prim.Native.Nat.{ℕ, ◌-◌, ◌≤◌, ◌<◌}
use native.Mathlib.Omega.{arith}
use mathlib.Core.Bool.{true, false, or-true, true≢false}
use mathlib.Core.List.{List, [], ◌∷◌}
use mathlib.Core.Option.{Option, some}
use lib.Dec.{eqb}
use lib.ListN.{length, get_or}
use lib.Seq.{slice}
use borrow.Author.Tests.{lt-ltb, le-ltb}
use Rattle.graph.specs.Refusals.{Answer, refused, done, map_done}
use Rattle.graph.specs.Targets.{none_left}
use Rattle.graph.specs.declared.task.TaskRule.TheVariants.{Propagate}
use Rattle.graph.specs.declared.task.Sought.TheVariants.{Acts, Finishes}
use Rattle.graph.specs.Nodes.{Node}
use Rattle.graph.specs.Tasks.{rule_for, rule_acts, rule_finishes}
use Rattle.graph.proofs.Tasks.{acts_exactly, finishes_exactly}
use Rattle.graph.specs.OneAtATime.{Labelled, add_of, op_of, is_op}
use Rattle.graph.specs.Steps.{Step, realise, move, finish, any}
use Rattle.graph.specs.Drain.{or_else}
use Rattle.graph.proofs.Answers.{eqb_same, by_bool}
use Rattle.flat.specs.Flat.{Tagged, Flat}
use Rattle.flat.specs.Inner.Nested.{of_op, at_place}
use Rattle.flat.specs.Inner.Queues.{first_index, is_at, end_of}
use Rattle.flat.specs.Inner.FlatSteps.{map_from, first_in, no_op, no_node, move_on, with_queue, sought_at, head_unit, on_place, move_flat, act_at, act_flat, realise_flat, finish_place, leave_flat, finish_flat, known, flat_step}
use Rattle.flat.specs.Inner.FlatEvents.{first_place, FlatTaken, flat_taking, flat_drain_step_at, flat_drain_step}
use Rattle.flat.proofs.Turns.{any_first, first_stop}

abbrev pub taken : Step → Flat → FlatTaken
taken t f = record { what = t; to = f }

-- an operation that doesn't act at the last station finishes there
finishes_last : (k : ℕ) (w : Labelled) → is_op w ≡ true → eqb k 1 ≡ true
    → rule_acts (of_op Propagate (λ o. rule_for o k (eqb k 1)) w) ≡ false → rule_finishes (of_op Propagate (λ o. rule_for o k (eqb k 1)) w) ≡ true
finishes_last k (add_of l v) op e h = absurd (true≢false (sym op))
finishes_last k (op_of o) op e h =
    let n : Node = record { key = k; value = 0; links = [] } in
    finishes_exactly o n (eqb k 1) ∙ rw (e, sym (acts_exactly o n (eqb k 1)) ∙ h) (or-true (none_left o.targets))

-- nothing waits
pub drain_empty : (f : Flat) → f.queue ≡ [] → flat_drain_step f ≡ refused 21
drain_empty f e = rw e

module _ (f : Flat) (k : ℕ) (x : Tagged) (xs : List Tagged) (stands : f.queue ≡ x ∷ xs) (place : x.place ≡ k) (station : eqb k 65 ≡ false) (node : known k f ≡ true) where
  abbrev e : ℕ
  e = end_of k 0 f.queue

  abbrev p : ℕ
  p = first_in (sought_at Acts k) 0 e f.queue

  abbrev r : ℕ
  r = first_in (sought_at Finishes k) 0 e f.queue

  -- the head unit of that station begins the queue
  head : (g : ℕ → ℕ → Flat → Answer Flat) → head_unit k g f ≡ g 0 e f
  head g =
      let first : first_index (at_place k) f.queue ≡ 0 = rw (stands, place, eqb_same k) in
      let at : is_at k 0 f.queue ≡ true = rw (stands, place) (eqb_same k) in
      rw (first, at)

  drain_is : flat_drain_step f ≡ or_else (flat_taking (realise k) f) (or_else (flat_taking (finish k) f) (flat_taking (move k) f))
  drain_is = let q : first_place f.queue ≡ some k = rw (stands, place, station) in ap (λ (b : Option ℕ). flat_drain_step_at b f) q

  realise_is : flat_step (realise k) f ≡ on_place (act_flat k) e p f
  realise_is = rw node (head (realise_flat k))

  finish_is : flat_step (finish k) f ≡ on_place leave_flat e r f
  finish_is = rw node (head (finish_flat k))

  move_is : flat_step (move k) f ≡ move_flat k 0 e f
  move_is = rw node (head (move_flat k))

  pub drain_realises : p < e → flat_drain_step f ≡ done (taken (realise k) (act_at k p (get_or f.queue p no_op) (get_or f.nodes (k - 1) no_node) f))
  drain_realises h =
      let s : flat_step (realise k) f ≡ done (act_at k p (get_or f.queue p no_op) (get_or f.nodes (k - 1) no_node) f) = realise_is ∙ rw (lt-ltb p e h) in
      drain_is ∙ ap (λ (y : Answer Flat). or_else (map_done (taken (realise k)) y) (or_else (flat_taking (finish k) f) (flat_taking (move k) f))) s

  no_realise : e ≤ p → flat_drain_step f ≡ or_else (flat_taking (finish k) f) (flat_taking (move k) f)
  no_realise h =
      let s : flat_step (realise k) f ≡ refused 22 = realise_is ∙ rw (le-ltb p e h) in
      drain_is ∙ ap (λ (y : Answer Flat). or_else (map_done (taken (realise k)) y) (or_else (flat_taking (finish k) f) (flat_taking (move k) f))) s

  pub drain_finishes : e ≤ p → r < e → flat_drain_step f ≡ done (taken (finish k) (finish_place r e (get_or f.queue r no_op) f))
  drain_finishes h j =
      let s : flat_step (finish k) f ≡ done (finish_place r e (get_or f.queue r no_op) f) = finish_is ∙ rw (lt-ltb r e j) in
      no_realise h ∙ ap (λ (y : Answer Flat). or_else (map_done (taken (finish k)) y) (flat_taking (move k) f)) s

  -- at the last station an operation that doesn't target the node finishes
  last_finishes : is_op (get_or f.queue 0 no_op).call ≡ true → e ≤ length f.queue → 0 < e → e ≤ p → eqb k 1 ≡ true → r ≡ 0
  last_finishes op w z h l =
      let hit : sought_at Acts k (get_or f.queue 0 no_op) ≡ false = by_bool (sought_at Acts k (get_or f.queue 0 no_op)) (λ t. absurd (omega (arith, first_stop (sought_at Acts k) f.queue e w 0 no_op z t))) (λ t. t) in
      first_stop (sought_at Finishes k) f.queue e w 0 no_op z (finishes_last k (get_or f.queue 0 no_op).call op l hit)

  pub drain_moves : is_op (get_or f.queue 0 no_op).call ≡ true → e ≤ length f.queue → 0 < e → e ≤ p → e ≤ r → flat_drain_step f ≡ done (taken (move k) (with_queue f (map_from (move_on (k - 1)) 0 e f.queue)))
  drain_moves op w z h j =
      let s : flat_step (finish k) f ≡ refused 22 = finish_is ∙ rw (le-ltb r e j) in
      let one : eqb k 1 ≡ false = by_bool (eqb k 1) (λ l. absurd (omega (arith, last_finishes op w z h l))) (λ l. l) in
      let none : any (sought_at Acts k) (slice 0 e f.queue) ≡ false = any_first (sought_at Acts k) f.queue e w 0 (omega arith) ∙ le-ltb p e h in
      let t : flat_step (move k) f ≡ done (with_queue f (map_from (move_on (k - 1)) 0 e f.queue)) = move_is ∙ rw (one, none) in
      no_realise h
      ∙ ap (λ (y : Answer Flat). or_else (map_done (taken (finish k)) y) (flat_taking (move k) f)) s
      ∙ ap (map_done (taken (move k))) t
