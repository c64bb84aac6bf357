-- The head unit of a station: the first operation in it that a step looks for, and what each step on it answers.
-- Assumes nothing.
use mathlib.Core.Path.{◌≡◌, refl, ◌∙◌, ap}
use Prim.Native.Nat.{ℕ, ◌-◌, ◌≤◌, ◌<◌}
use native.Mathlib.Omega.{arith}
use mathlib.Core.Bool.{Bool, true, false, cond}
use mathlib.Core.List.{List}
use lib.Dec.{leb, ltb}
use lib.ListN.{length, get_or}
use borrow.Author.Tests.{lt-ltb, le-ltb, eq-eqb, ne_eqb, leb-true, ltb-true}
use Rattle.graph.specs.declared.task.Sought.{Sought}
use Rattle.graph.specs.declared.task.Sought.TheVariants.{Acts}
use Rattle.graph.specs.Refusals.{Answer, refused, done, and_then}
use Rattle.graph.specs.Steps.{move}
use Rattle.graph.proofs.Answers.{and_left, and_right, Holds, refuses, holds, holds_cond, holds_at}
use Rattle.flat.specs.Flat.{Flat}
use Rattle.graph.specs.OneAtATime.{is_op}
use Rattle.flat.specs.Inner.Queues.{is_at}
use Rattle.flat.specs.Inner.FlatSteps.{first_in, map_from, no_op, move_on, with_queue, sought_at, head_unit, on_first_op, move_flat, known, at_key, flat_step}
use Rattle.flat.proofs.Turns.{any_first}
use Rattle.state.specs.Inner.State.{flat_in}
use Rattle.state.specs.Inner.ValidImage.{ValidImage}
use Rattle.units.specs.Inner.Numbered.{Span, locate}
use Rattle.units.proofs.Located.{at_within, end_within, head_located, Stands, located_stands, stands}
use Rattle.units.proofs.Standing.{op_at_law, unit_place}
use Rattle.headsteps.specs.Inner.Heads.{NoAdds, first_for, locate_first}

-- KEYS
pub record InNodes (k : ℕ) (f : Flat) : Type 0 where
  pub low : 1 ≤ k
  pub inside : k - 1 < length f.nodes
  pub high : k ≤ length f.nodes

pub in_nodes : (k : ℕ) (f : Flat) → known k f ≡ true → InNodes k f
in_nodes k f e =
    let l : 1 ≤ k = leb-true 1 k (and_left (leb 1 k) (leb k (length f.nodes)) e) in
    let h : k ≤ length f.nodes = leb-true k (length f.nodes) (and_right (leb 1 k) (leb k (length f.nodes)) e) in
    record { low = l; inside = omega arith; high = h }

-- A STEP ON THE FIRST that it looks for
module _ (sought : Sought) (k : ℕ) (f : Flat) where
  first_located : (g : ℕ → ℕ → Flat → Flat) → at_key k (head_unit k (on_first_op (sought_at sought k) g)) f ≡ and_then (locate_first sought k f) (λ s. done (g s.start s.end f))
  first_located g = head_located k f (on_first_op (sought_at sought k) g) ∙ go (locate k 1 f)
    where
      at : (e p : ℕ) (b : Bool) → cond b (done (g p e f)) (refused 22) ≡ and_then (cond b (done (record { start = p; end = e })) (refused 22)) (λ (s : Span). done (g s.start s.end f))
      at e p true = refl
      at e p false = refl

      go : (x : Answer Span) → and_then x (λ (s : Span). on_first_op (sought_at sought k) g s.start s.end f) ≡ and_then (and_then x (first_for sought k f.queue)) (λ (s : Span). done (g s.start s.end f))
      go (refused r) = refl
      go (done s) =
          let p = first_in (sought_at sought k) s.start s.end f.queue in
          at s.end p (ltb p s.end)

  module _ (g : ℕ → ℕ → Flat → Flat) where
    pub first_no : {n : ℕ} → locate_first sought k f ≡ refused n → at_key k (head_unit k (on_first_op (sought_at sought k) g)) f ≡ refused n
    first_no e = first_located g ∙ ap (λ (y : Answer Span). and_then y (λ s. done (g s.start s.end f))) e

    pub first_yes : {u : Span} → locate_first sought k f ≡ done u → at_key k (head_unit k (on_first_op (sought_at sought k) g)) f ≡ done (g u.start u.end f)
    first_yes e = first_located g ∙ ap (λ (y : Answer Span). and_then y (λ s. done (g s.start s.end f))) e

  pub first_none : {n : ℕ} → locate k 1 f ≡ refused n → locate_first sought k f ≡ refused n
  first_none e = ap (λ (y : Answer Span). and_then y (first_for sought k f.queue)) e

  -- what is known of the one that was found
  record Found (s : Span) : Type 0 where
    node : known k f ≡ true
    at : is_at k s.start f.queue ≡ true
    inside : s.start < s.end
    fits : s.end ≤ length f.queue

  found_there : Holds Found (locate_first sought k f)
  found_there = go (locate k 1 f) (located_stands k 1 f)
    where
      go : (x : Answer Span) → Holds (Stands k f) x → Holds Found (and_then x (first_for sought k f.queue))
      go (refused r) h = refuses
      go (done s) h =
          let p = first_in (sought_at sought k) s.start s.end f.queue in
          let u = holds_at h in
          holds_cond (ltb p s.end)
          (λ b.
          let l : p < s.end = ltb-true p s.end b in
          holds (record {
            node = u.node;
            at = unit_place k f.queue s.start p u.first (omega arith) (omega (arith, u.size));
            inside = l;
            fits = omega (arith, u.size, end_within k f.queue s.start (at_within k f.queue s.start u.first));
          }))
          (λ b. refuses)

pub record FoundOp (image : List ℕ) (k : ℕ) (u : Span) : Type 0 where
  pub node : known k (flat_in image) ≡ true
  pub inside : u.start < u.end
  pub fits : u.end ≤ length (flat_in image).queue
  pub op : is_op (get_or (flat_in image).queue u.start no_op).call ≡ true

pub found_op : (image : List ℕ) → ValidImage image → (sought : Sought) (k : ℕ) (u : Span) → locate_first sought k (flat_in image) ≡ done u → FoundOp image k u
found_op image holds-valid sought k u e =
    let w : Found sought k (flat_in image) u = holds_at (rw e at (found_there sought k (flat_in image))) in
    record { node = w.node; inside = w.inside; fits = w.fits; op = op_at_law image holds-valid k u.start w.node w.at }

-- the head unit has no add
pub head_ops : (image : List ℕ) → ValidImage image → (k : ℕ) (u : Span) → locate k 1 (flat_in image) ≡ done u → NoAdds u.start u.end (flat_in image).queue
head_ops image holds-valid k u e i lo hi =
    let w = stands k 1 (flat_in image) u e in
    op_at_law image holds-valid k i w.node (unit_place k (flat_in image).queue u.start i w.first lo (omega (arith, w.size)))

-- MOVE
module _ (k : ℕ) (f : Flat) where
  pub move_none : {n : ℕ} → locate k 1 f ≡ refused n → flat_step (move k) f ≡ refused n
  move_none e = head_located k f (move_flat k) ∙ ap (λ (y : Answer Span). and_then y (λ s. move_flat k s.start s.end f)) e

  module _ (u : Span) (e : locate k 1 f ≡ done u) where
    -- what is known of the head unit
    pub record Head : Type 0 where
      pub low : 1 ≤ k
      pub before : u.start ≤ u.end
      pub fits : u.end ≤ length f.queue

    pub head : Head
    head =
        let w = stands k 1 f u e in
        record { low = (in_nodes k f w.node).low; before = omega (arith, w.size); fits = omega (arith, w.size, end_within k f.queue u.start (at_within k f.queue u.start w.first)) }

    move_is : flat_step (move k) f ≡ move_flat k u.start u.end f
    move_is = head_located k f (move_flat k) ∙ ap (λ (y : Answer Span). and_then y (λ s. move_flat k s.start s.end f)) e

    pub move_last : k ≡ 1 → flat_step (move k) f ≡ refused 22
    move_last one = move_is ∙ rw (eq-eqb k 1 one)

    module _ (other : (k ≡ 1 → ⊥)) where
      hit_or_free : (b : Bool) → ltb (first_in (sought_at Acts k) u.start u.end f.queue) u.end ≡ b
          → flat_step (move k) f ≡ cond b (refused 22) (done (with_queue f (map_from (move_on (k - 1)) u.start u.end f.queue)))
      hit_or_free b t =
          move_is ∙ rw (ne_eqb k 1 other, any_first (sought_at Acts k) f.queue u.end head.fits u.start head.before ∙ t)

      pub move_hit : first_in (sought_at Acts k) u.start u.end f.queue < u.end → flat_step (move k) f ≡ refused 22
      move_hit hit = hit_or_free true (lt-ltb _ _ hit)

      pub move_free : u.end ≤ first_in (sought_at Acts k) u.start u.end f.queue
          → flat_step (move k) f ≡ done (with_queue f (map_from (move_on (k - 1)) u.start u.end f.queue))
      move_free free = hit_or_free false (le-ltb _ _ free)
