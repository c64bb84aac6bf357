-- Where a station's operations stand in the queue, and where a unit starts and ends: the laws behind the steps.
-- Assumes nothing.
use mathlib.Core.Path.{◌≡◌, refl, sym, ◌∙◌, ap}
use Prim.Native.Nat.{ℕ, zero, suc, ◌+◌, ◌≤◌, ◌<◌}
use native.Mathlib.Nat.{zero-add, add-zero, suc-add}
use native.Mathlib.Omega.{arith}
use mathlib.Core.Bool.{Bool, true, false, cond, not, ◌||◌, true≢false}
use mathlib.Core.List.{List, [], ◌∷◌, ◌++◌, append_assoc}
use lib.Dec.{eqb}
use lib.ListN.{length, take, drop, length-append}
use lib.Seq.{slice, take-append_seam, drop-append_seam}
use borrow.Author.Tests.{ne_eqb}
use Rattle.graph.specs.Nodes.{Op}
use Rattle.graph.specs.OneAtATime.{Labelled}
use Rattle.graph.specs.Sessions.{Station}
use Rattle.graph.proofs.Answers.{eqb_same}
use Rattle.flat.specs.Flat.{Tagged, standing, tag_unit, tag_units, queue_of, nodes_of, waiting}
use Rattle.flat.specs.Inner.Queues.{first_index, first_is, breaks, is_at, end_of}
use Rattle.flat.specs.Inner.Nested.{at_place, Full, Keyed}

-- LISTS
abbrev pub No : {A : Type 0} → (A → Bool) → List A → Type 0
No p [] = Unit {0}
No p (x ∷ xs) = (p x ≡ false) × No p xs

module _ {A : Type 0} where
  pub no_append : (p : A → Bool) (a b : List A) → No p a → No p b → No p (a ++ b)
  no_append p [] b h k = k
  no_append p (x ∷ xs) b h k = (h.0, no_append p xs b h.1 k)

  pub find_no : (p : A → Bool) (a b : List A) → No p a → first_index p (a ++ b) ≡ length a + first_index p b
  find_no p [] b h = sym (zero-add _)
  find_no p (x ∷ xs) b h = rw h.0 (ap suc (find_no p xs b h.1) ∙ sym (suc-add _ _))

  pub find_none : (p : A → Bool) (a : List A) → No p a → first_index p a ≡ length a
  find_none p [] h = refl
  find_none p (x ∷ xs) h = rw h.0 (ap suc (find_none p xs h.1))

  pub find_at : (p : A → Bool) (a : List A) (x : A) (b : List A) → No p a → p x ≡ true → first_index p (a ++ (x ∷ b)) ≡ length a
  find_at p a x b h e = find_no p a (x ∷ b) h ∙ rw e (add-zero _)

  pub find_within : (p : A → Bool) (a : List A) → first_index p a ≤ length a
  find_within p [] = omega arith
  find_within p (x ∷ xs) = go (p x) (find_within p xs)
    where
      go : (b : Bool) {n m : ℕ} → n ≤ m → cond b zero (suc n) ≤ suc m
      go true h = omega arith
      go false h = omega arith

  pub drop_past : (a : List A) (x : A) (b : List A) → drop (suc (length a)) (a ++ (x ∷ b)) ≡ b
  drop_past [] x b = refl
  drop_past (y ∷ ys) x b = drop_past ys x b

  pub drop_mid : (a b c : List A) → drop (length (a ++ b)) (a ++ (b ++ c)) ≡ c
  drop_mid a b c = ap (drop (length (a ++ b))) (sym (append_assoc a b c)) ∙ drop-append_seam (a ++ b) c

  pub take_mid : (a b c : List A) → take (length (a ++ b)) (a ++ (b ++ c)) ≡ a ++ b
  take_mid a b c = ap (take (length (a ++ b))) (sym (append_assoc a b c)) ∙ take-append_seam (a ++ b) c

  pub slice_mid : (a b c : List A) → slice (length a) (length (a ++ b)) (a ++ (b ++ c)) ≡ b
  slice_mid a b c = ap (drop (length a)) (take_mid a b c) ∙ drop-append_seam a b

-- TAGS
pub no_ops : (j k : ℕ) (b : Bool) (os : List Op) → eqb j k ≡ false → No (at_place k) (tag_unit j b os)
no_ops j k b [] e = tt
no_ops j k b (o ∷ os) e = (e, no_ops j k false os e)

pub no_units : (j k : ℕ) (us : List (List Op)) → eqb j k ≡ false → No (at_place k) (tag_units j us)
no_units j k [] e = tt
no_units j k (u ∷ us) e = no_append (at_place k) (tag_unit j true u) (tag_units j us) (no_ops j k true u e) (no_units j k us e)

-- no station of ss has key k
abbrev pub Beyond : ℕ → List Station → Type 0
Beyond k ss = (j : ℕ) → 1 ≤ j → j ≤ length ss → j ≡ k → ⊥

pub no_queue : (k : ℕ) (ss : List Station) → Keyed ss → Beyond k ss → No (at_place k) (queue_of ss)
no_queue k [] K h = tt
no_queue k (s ∷ ss) K h = no_append (at_place k) (queue_of ss) (tag_units s.node.key s.units) (no_queue k ss (K.0.1, K.1.1) (λ j a b. h j a (omega arith)))
    (no_units s.node.key k s.units (ne_eqb s.node.key k (λ e. h (suc (length ss)) (omega arith) (omega arith) (sym K.0.0 ∙ e))))

pub beyond_below : (k : ℕ) (ss : List Station) → length ss < k → Beyond k ss
beyond_below k ss h j a b e = omega arith

pub beyond_top : (ss : List Station) → length ss ≤ 64 → Beyond 65 ss
beyond_top ss r j a b e = omega arith

pub no_waits : (k : ℕ) (cs : List Labelled) → k ≤ 64 → No (at_place k) (waiting cs)
no_waits k [] h = tt
no_waits k (c ∷ cs) h = (ne_eqb 65 k (λ e. omega arith), no_waits k cs h)

pub length_ops : (k : ℕ) (b : Bool) (os : List Op) → length (tag_unit k b os) ≡ length os
length_ops k b [] = refl
length_ops k b (o ∷ os) = ap suc (length_ops k false os)

pub length_nodes : (ss : List Station) → length (nodes_of ss) ≡ length ss
length_nodes [] = refl
length_nodes (s ∷ ss) = length-append (nodes_of ss) (s.node ∷ []) ∙ omega (arith, length_nodes ss)

-- where units end
pub goes_on_law : (k : ℕ) (os : List Op) → No (breaks k) (tag_unit k false os)
goes_on_law k [] = tt
goes_on_law k (o ∷ os) = (rw (eqb_same k), goes_on_law k os)

-- what follows a unit does not go on with it
abbrev pub Ends : ℕ → List Tagged → Type 0
Ends k r = first_index (breaks k) r ≡ 0

pub ends_none : (k : ℕ) (r : List Tagged) → No (at_place k) r → Ends k r
ends_none k [] h = refl
ends_none k (x ∷ xs) h = rw h.0

pub ends_units : (k : ℕ) (us : List (List Op)) (r : List Tagged) → Full us → No (at_place k) r → Ends k (tag_units k us ++ r)
ends_units k [] r F h = ends_none k r h
ends_units k ([] ∷ us) r F h = absurd (true≢false F.0)
ends_units k ((o ∷ os) ∷ us) r F h = go (eqb k k)
  where
    go : (b : Bool) → cond (not b || true) 0 (suc (first_index (breaks k) ((tag_unit k false os ++ tag_units k us) ++ r))) ≡ 0
    go true = refl
    go false = refl

pub is_at_law : (k : ℕ) (b : Bool) (B : List Tagged) (o : Op) (r : List Tagged) → is_at k (length B) (B ++ (standing k b o ∷ r)) ≡ true
is_at_law k b B o r = ap (first_is (at_place k)) (drop-append_seam B (standing k b o ∷ r)) ∙ eqb_same k

pub is_not_at : (k : ℕ) (B r : List Tagged) → No (at_place k) r → is_at k (length B) (B ++ r) ≡ false
is_not_at k B r h = ap (first_is (at_place k)) (drop-append_seam B r) ∙ go r h
  where
    go : (r : List Tagged) → No (at_place k) r → first_is (at_place k) r ≡ false
    go [] h = refl
    go (x ∷ xs) h = h.0

pub end_of_law : (k : ℕ) (B : List Tagged) (b : Bool) (o : Op) (os : List Op) (r : List Tagged) → Ends k r → end_of k (length B) (B ++ (tag_unit k b (o ∷ os) ++ r)) ≡ length (B ++ tag_unit k b (o ∷ os))
end_of_law k B b o os r h =
    let e : first_index (breaks k) (drop (suc (length B)) (B ++ (tag_unit k b (o ∷ os) ++ r))) ≡ length (tag_unit k false os) + 0 = ap (first_index (breaks k)) (drop_past B (standing k b o) (tag_unit k false os ++ r)) ∙ find_no (breaks k) (tag_unit k false os) r (goes_on_law k os) ∙ ap (λ (n : ℕ). length (tag_unit k false os) + n) h in
    omega (arith, e, length-append B (tag_unit k b (o ∷ os)))
