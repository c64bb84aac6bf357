-- The step that drain takes on an image that holds a valid session, by what begins the queue.
-- Assumes nothing.
use mathlib.Core.Path.{◌≡◌, refl, sym, ◌∙◌, ap, subst}
use Prim.Native.Nat.{ℕ, ◌-◌, ◌≤◌, ◌<◌}
use native.Mathlib.Omega.{arith}
use mathlib.Core.Bool.{Bool, true, false, true≢false}
use mathlib.Core.List.{List, [], ◌∷◌}
use lib.Dec.{eqb}
use lib.ListN.{length, get_or, drop}
use lib.Seq.{drop-cons}
use borrow.Author.Tests.{le-leb}
use Rattle.graph.specs.declared.task.Sought.TheVariants.{Acts, Finishes}
use Rattle.graph.specs.Refusals.{Answer, refused, done}
use Rattle.graph.specs.Sessions.{Session}
use Rattle.graph.specs.Steps.{realise, move, finish}
use Rattle.graph.specs.Valid.{Valid}
use Rattle.graph.proofs.Answers.{eqb_same}
use Rattle.graph.proofs.Limits.{each_at}
use Rattle.flat.specs.Flat.{Tagged, Flat, flat}
use Rattle.flat.specs.Inner.Nested.{nest}
use Rattle.graph.specs.OneAtATime.{is_op}
use Rattle.flat.specs.Inner.Queues.{end_of}
use Rattle.flat.proofs.Elements.{each_queued}
use Rattle.flat.specs.Inner.FlatSteps.{map_from, first_in, no_op, no_node, move_on, with_queue, sought_at, act_at, finish_place, known}
use Rattle.flat.specs.Inner.FlatEvents.{FlatTaken, flat_drain_step}
use Rattle.state.specs.Inner.State.{flat_in, Shows}
use Rattle.state.specs.Inner.ValidImage.{ValidImage}
use Rattle.units.proofs.Standing.{op_at_law, unit_place}
use Rattle.session.specs.declared.drain.StepTaken.{StepTaken}
use Rattle.session.specs.Inner.DrainStep.{IsKind, DrainsOne, Begins}
use Rattle.session.proofs.Draining.{taken, drain_empty, drain_realises, drain_finishes, drain_moves}

-- ANSWERS
pub drains_done : {x : Answer FlatTaken} {after : List ℕ} {t : FlatTaken} {r : StepTaken} → x ≡ done t → IsKind t.what r → Shows t.to after → DrainsOne x after r
drains_done {t = t} e k h = record { taken = t; did = e; kind = k; shows = h }

-- KEYS: outside the top stream an operation stands at a node
record Stands (n : ℕ) (x : Tagged) : Type 0 where
  known : eqb x.place 65 ≡ false → (1 ≤ x.place) × (x.place ≤ n)

stands_at : (s : Session) → Valid s → (i : ℕ) → i < length (flat s).queue → Stands (length (flat s).nodes) (get_or (flat s).queue i no_op)
stands_at s g i h =
    each_at (Stands (length (flat s).nodes)) (flat s).queue no_op
    (each_queued (Stands (length (flat s).nodes)) (λ c v. record { known = λ e. absurd (true≢false e) }) s g (λ k b o l m v. record { known = λ e. (l, m) })) i h

-- the head unit of station k begins the queue, and ends at e
pub record HeadUnit (image : List ℕ) (k e : ℕ) : Type 0 where
  pub node : known k (flat_in image) ≡ true
  pub ends : e ≡ end_of k 0 (flat_in image).queue
  pub fits : e ≤ length (flat_in image).queue

module _ (image : List ℕ) (l : ValidImage image) (k : ℕ) (b : Begins image k) where
  abbrev f : Flat
  f = flat_in image

  abbrev x : Tagged
  x = get_or (flat_in image).queue 0 no_op

  begins : (flat_in image).queue ≡ x ∷ drop 1 (flat_in image).queue
  begins = drop-cons (flat_in image).queue 0 no_op b.inside

  apart : eqb x.place 65 ≡ false
  apart = ap (λ (j : ℕ). eqb j 65) b.place ∙ b.station

  node_known : known k (flat_in image) ≡ true
  node_known =
      let s = nest (flat_in image) in
      let g : Stands (length (flat_in image).nodes) x = subst (λ (g : Flat). (0 < length g.queue) → Stands (length g.nodes) (get_or g.queue 0 no_op)) l.flat (λ h. stands_at s l.valid 0 h) b.inside in
      let w = g.known apart in
      rw (le-leb 1 k (omega (arith, b.place, w.0)), le-leb k (length (flat_in image).nodes) (omega (arith, b.place, w.1)))

  pub begins_head : (e : ℕ) → e ≡ end_of k 0 (flat_in image).queue → e ≤ length (flat_in image).queue → HeadUnit image k e
  begins_head e d h = record { node = node_known; ends = d; fits = h }

  -- the three steps at that station, and their order: its head unit ends at e
  module _ {e : ℕ} (at : HeadUnit image k e) where
    -- what stands in it is no add
    pub begins_op : {p : ℕ} → p < e → is_op (get_or (flat_in image).queue p no_op).call ≡ true
    begins_op {p} h = op_at_law image l k p node_known (unit_place k (flat_in image).queue 0 p (rw (begins, b.place) (eqb_same k)) (omega arith) (omega (arith, at.ends)))

    canon : (p : Tagged → Bool) → first_in p 0 e (flat_in image).queue ≡ first_in p 0 (end_of k 0 (flat_in image).queue) (flat_in image).queue
    canon p = ap (λ (n : ℕ). first_in p 0 n (flat_in image).queue) at.ends

    pub takes_realise : {p : ℕ} → p ≡ first_in (sought_at Acts k) 0 e (flat_in image).queue → p < e →
        flat_drain_step (flat_in image) ≡ done (taken (realise k) (act_at k p (get_or (flat_in image).queue p no_op) (get_or (flat_in image).nodes (k - 1) no_node) (flat_in image)))
    takes_realise s h =
        let is = s ∙ canon (sought_at Acts k) in
        subst (λ (n : ℕ). flat_drain_step (flat_in image) ≡ done (taken (realise k) (act_at k n (get_or (flat_in image).queue n no_op) (get_or (flat_in image).nodes (k - 1) no_node) (flat_in image)))) (sym is)
        (drain_realises (flat_in image) k x (drop 1 (flat_in image).queue) begins b.place b.station node_known (omega (arith, is, at.ends, h)))

    pub takes_finish : {p r : ℕ} → p ≡ first_in (sought_at Acts k) 0 e (flat_in image).queue → e ≤ p → r ≡ first_in (sought_at Finishes k) 0 e (flat_in image).queue → r < e →
        flat_drain_step (flat_in image) ≡ done (taken (finish k) (finish_place r e (get_or (flat_in image).queue r no_op) (flat_in image)))
    takes_finish s h t j =
        let is = t ∙ canon (sought_at Finishes k) in
        let hit = s ∙ canon (sought_at Acts k) in
        drain_finishes (flat_in image) k x (drop 1 (flat_in image).queue) begins b.place b.station node_known (omega (arith, hit, at.ends, h)) (omega (arith, is, at.ends, j))
        ∙ (λ i. done (taken (finish k) (finish_place (sym is i) (sym at.ends i) (get_or (flat_in image).queue (sym is i) no_op) (flat_in image))))

    pub takes_move : {p r : ℕ} → p ≡ first_in (sought_at Acts k) 0 e (flat_in image).queue → e ≤ p → r ≡ first_in (sought_at Finishes k) 0 e (flat_in image).queue → e ≤ r →
        flat_drain_step (flat_in image) ≡ done (taken (move k) (with_queue (flat_in image) (map_from (move_on (k - 1)) 0 e (flat_in image).queue)))
    takes_move s h t j =
        let is = t ∙ canon (sought_at Finishes k) in
        let hit = s ∙ canon (sought_at Acts k) in
        drain_moves (flat_in image) k x (drop 1 (flat_in image).queue) begins b.place b.station node_known (begins_op (omega (arith, at.ends))) (omega (arith, at.ends, at.fits)) (omega arith) (omega (arith, hit, at.ends, h)) (omega (arith, is, at.ends, j))
        ∙ (λ i. done (taken (move k) (with_queue (flat_in image) (map_from (move_on (k - 1)) 0 (sym at.ends i) (flat_in image).queue))))

pub none_waits : (image : List ℕ) → length (flat_in image).queue ≡ 0 → flat_drain_step (flat_in image) ≡ refused 21
none_waits image e = drain_empty (flat_in image) (nil (flat_in image).queue e)
  where
    nil : (q : List Tagged) → length q ≡ 0 → q ≡ []
    nil [] e = refl
    nil (y ∷ ys) e = absurd (omega arith)
