-- Units by number: one turn of the loop that finds them, and the steps on them.
-- Assumes nothing.
use mathlib.Core.Path.{◌≡◌, refl, sym, ◌∙◌, ap}
use Prim.Native.Nat.{ℕ, zero, suc, ◌+◌, ◌≤◌, ◌<◌}
use native.Mathlib.Omega.{arith}
use mathlib.Core.Bool.{Bool, true, false, cond, true≢false, ◌&&◌}
use mathlib.Core.List.{List}
use lib.Dec.{eqb, ltb}
use lib.ListN.{length, get_or, drop, length-drop}
use borrow.Author.Tests.{ltb-true, ltb-false}
use Rattle.graph.specs.Refusals.{Answer, refused, done, map_done, and_then}
use Rattle.graph.proofs.Answers.{Holds, refuses, holds, holds_cond, holds_at, by_bool}
use Rattle.flat.specs.Flat.{Tagged, Flat}
use Rattle.flat.specs.Inner.Queues.{first_index, breaks, is_at, end_of}
use Rattle.flat.specs.Inner.Nested.{at_place}
use Rattle.flat.proofs.Places.{find_within}
use Rattle.flat.specs.Inner.FlatSteps.{no_op, unit_start, unit_from, head_unit, with_next, neighbours, on_queue, at_key, with_queue, known}
use Rattle.flat.proofs.Facts.{here_past}
use Rattle.units.specs.Inner.Numbered.{Span, locate, alone, locate_two}

-- WHERE A UNIT STARTS: one turn of the loop
module _ (k : ℕ) (q : List Tagged) where
  pub start_next : (m i p : ℕ) → i ≡ m + 1 → 1 ≤ m → is_at k p q ≡ true → unit_start k i p q ≡ unit_start k m (end_of k p q) q
  start_next zero i p e h t = absurd (omega arith)
  start_next (suc m) i p e h t =
      let f : i ≡ suc (suc m) = omega arith in
      ap (λ (n : ℕ). unit_start k n p q) f ∙ rw t refl

  pub start_none : (i p : ℕ) → 1 < i → is_at k p q ≡ false → unit_start k i p q ≡ length q
  start_none zero p h t = absurd (omega arith)
  start_none (suc zero) p h t = absurd (omega arith)
  start_none (suc (suc i)) p h t = rw t refl

  -- an operation of a station stands before the queue's end, and its unit ends at most there
  pub at_within : (p : ℕ) → is_at k p q ≡ true → p < length q
  at_within p t =
      by_bool (ltb p (length q)) (λ e. ltb-true p (length q) e) (λ e. absurd (true≢false (sym t ∙ here_past (at_place k) q p (ltb-false p (length q) e))))

  pub end_within : (p : ℕ) → p < length q → end_of k p q ≤ length q
  end_within p h = omega (arith, find_within (breaks k) (drop (suc p) q), length-drop (suc p) q)

-- THE STEPS, where the unit, or the two, are found
module _ (k i : ℕ) (f : Flat) where
  -- w hands a refusal on
  located : {X Y : Type 0} (w : Answer X → Answer Y) → ((r : ℕ) → w (refused r) ≡ refused r) → (g : ℕ → ℕ → List Tagged → Answer X)
      → cond (known k f) (w (unit_from k g i (first_index (at_place k) f.queue) f.queue)) (refused 20) ≡ and_then (locate k i f) (λ s. w (g s.start s.end f.queue))
  located {X} {Y} w r g =
      go (known k f) (unit_start k i (first_index (at_place k) f.queue) f.queue) (is_at k (unit_start k i (first_index (at_place k) f.queue) f.queue) f.queue)
    where
      go : (b : Bool) (n : ℕ) (d : Bool)
          → cond b (w (cond d (g n (end_of k n f.queue) f.queue) (refused 21))) (refused 20)
          ≡ and_then (cond b (cond d (done (record { start = n; end = end_of k n f.queue })) (refused 21)) (refused 20)) (λ (s : Span). w (g s.start s.end f.queue))
      go true n true = refl
      go true n false = r 21
      go false n d = refl

  step_located : (g : ℕ → ℕ → List Tagged → Answer (List Tagged))
      → at_key k (on_queue (unit_from k g i) k) f ≡ and_then (locate k i f) (λ s. map_done (with_queue f) (g s.start s.end f.queue))
  step_located = located (map_done (with_queue f)) (λ r. refl)

  pub step_two : (g : ℕ → ℕ → Tagged → Tagged → List Tagged → Answer (List Tagged))
      → at_key k (on_queue (unit_from k (with_next k (neighbours g)) i) k) f
      ≡ and_then (locate_two k i f) (λ s. map_done (with_queue f) (g s.start s.end (get_or f.queue s.start no_op) (get_or f.queue s.end no_op) f.queue))
  step_two g = step_located (with_next k (neighbours g)) ∙ go (locate k i f)
    where
      on : Span → Answer (List Tagged)
      on s = g s.start s.end (get_or f.queue s.start no_op) (get_or f.queue s.end no_op) f.queue

      at : (s : Span) (b d : Bool) → map_done (with_queue f) (cond b (cond d (on s) (refused 22)) (refused 21)) ≡ and_then (cond b (cond d (done s) (refused 22)) (refused 21)) (λ (t : Span). map_done (with_queue f) (on t))
      at s true true = refl
      at s true false = refl
      at s false d = refl

      go : (x : Answer Span)
          → and_then x (λ (s : Span). map_done (with_queue f) (with_next k (neighbours g) s.start s.end f.queue))
          ≡ and_then (and_then x (alone k f.queue)) (λ (t : Span). map_done (with_queue f) (on t))
      go (refused r) = refl
      go (done s) = at s (is_at k s.end f.queue) (eqb s.end (suc s.start) && eqb (end_of k s.end f.queue) (suc s.end))

pub head_located : (k : ℕ) (f : Flat) (g : ℕ → ℕ → Flat → Answer Flat) → at_key k (head_unit k g) f ≡ and_then (locate k 1 f) (λ s. g s.start s.end f)
head_located k f g = located k 1 f (λ x. x) (λ r. refl) (λ h e q. g h e f)

-- WHAT IS KNOWN of a unit that was found, and of two
pub record Stands (k : ℕ) (f : Flat) (s : Span) : Type 0 where
  pub node : known k f ≡ true
  pub first : is_at k s.start f.queue ≡ true
  pub size : s.end ≡ end_of k s.start f.queue

pub record Both (k : ℕ) (f : Flat) (s : Span) : Type 0 where
  pub node : known k f ≡ true
  pub first : is_at k s.start f.queue ≡ true
  pub second : is_at k s.end f.queue ≡ true

module _ (k i : ℕ) (f : Flat) where
  pub located_stands : Holds (Stands k f) (locate k i f)
  located_stands =
      let n = unit_start k i (first_index (at_place k) f.queue) f.queue in
      holds_cond (known k f) (λ e. holds_cond (is_at k n f.queue) (λ d. holds (record { node = e; first = d; size = refl })) (λ d. refuses)) (λ e. refuses)

  pub stands : (s : Span) → locate k i f ≡ done s → Stands k f s
  stands s e = go (locate k i f) located_stands e
    where
      go : (x : Answer Span) → Holds (Stands k f) x → x ≡ done s → Stands k f s
      go x h e = holds_at (rw e at h)

  two_stand : Holds (Both k f) (locate_two k i f)
  two_stand = go (locate k i f) located_stands
    where
      go : (x : Answer Span) → Holds (Stands k f) x → Holds (Both k f) (and_then x (alone k f.queue))
      go (refused r) h = refuses
      go (done s) h =
          holds_cond (is_at k s.end f.queue)
          (λ d.
          holds_cond (eqb s.end (suc s.start) && eqb (end_of k s.end f.queue) (suc s.end)) (λ b. holds (record { node = (holds_at h).node; first = (holds_at h).first; second = d })) (λ b. refuses))
          (λ d. refuses)

  pub both : (s : Span) → locate_two k i f ≡ done s → Both k f s
  both s e = holds_at (rw e at two_stand)

-- SO THE STEPS are refused, or work on what was found
module _ (k i : ℕ) (f : Flat) where
  module _ (g : ℕ → ℕ → List Tagged → Answer (List Tagged)) where
    pub one_no : {n : ℕ} → locate k i f ≡ refused n → at_key k (on_queue (unit_from k g i) k) f ≡ refused n
    one_no e = step_located k i f g ∙ ap (λ (y : Answer Span). and_then y (λ s. map_done (with_queue f) (g s.start s.end f.queue))) e

    pub one_yes : {s : Span} → locate k i f ≡ done s → at_key k (on_queue (unit_from k g i) k) f ≡ map_done (with_queue f) (g s.start s.end f.queue)
    one_yes e = step_located k i f g ∙ ap (λ (y : Answer Span). and_then y (λ s. map_done (with_queue f) (g s.start s.end f.queue))) e

  module _ (g : ℕ → ℕ → Tagged → Tagged → List Tagged → Answer (List Tagged)) where
    -- the step on the two operations
    abbrev pub on_two : Span → Answer Flat
    on_two s = map_done (with_queue f) (g s.start s.end (get_or f.queue s.start no_op) (get_or f.queue s.end no_op) f.queue)

    pub two_no : {n : ℕ} → locate_two k i f ≡ refused n → at_key k (on_queue (unit_from k (with_next k (neighbours g)) i) k) f ≡ refused n
    two_no e = step_two k i f g ∙ ap (λ (y : Answer Span). and_then y on_two) e

    pub two_yes : {s : Span} → locate_two k i f ≡ done s → at_key k (on_queue (unit_from k (with_next k (neighbours g)) i) k) f ≡ on_two s
    two_yes e = step_two k i f g ∙ ap (λ (y : Answer Span). and_then y on_two) e
