-- What a valid session's queue has at an index: the facts that the steps on the image rely on.
-- Assumes nothing.
use mathlib.Core.Path.{◌≡◌, refl, sym, ◌∙◌}
use Prim.Native.Nat.{ℕ, zero, suc, ◌+◌, ◌≤◌, ◌<◌}
use native.Mathlib.Omega.{arith}
use mathlib.Core.Bool.{Bool, true, false, cond, true≢false}
use mathlib.Core.List.{List, [], ◌∷◌}
use lib.Dec.{eqb, ltb, leb-suc-suc, leb-suc-zero}
use lib.ListN.{length, get_or, drop}
use borrow.Author.Tests.{lt-ltb}
use Rattle.graph.specs.Sessions.{Session, labels_of_results, pending, live}
use Rattle.graph.specs.Valid.{Valid}
use Rattle.graph.proofs.Labels.{total, one, total_append, total_one, length_labels}
use Rattle.graph.proofs.Limits.{each_at}
use Rattle.flat.specs.Flat.{Tagged, flat}
use Rattle.graph.specs.OneAtATime.{is_op}
use Rattle.flat.specs.Inner.Queues.{first_index, first_is, labels_in, queued}
use Rattle.flat.proofs.Elements.{each_queued}
use Rattle.flat.proofs.Labels.{pending_same}
use Rattle.flat.specs.Inner.FlatSteps.{no_op}

-- EACH OPERATION OF THE QUEUE
-- outside the top stream no add stands
pub record Sits (x : Tagged) : Type 0 where
  pub placed : eqb x.place 65 ≡ false → is_op x.call ≡ true

pub sits_at : (s : Session) → Valid s → (i : ℕ) → i < length (flat s).queue → Sits (get_or (flat s).queue i no_op)
sits_at s g i h =
    each_at Sits (flat s).queue no_op
    (each_queued Sits (λ c v. record { placed = λ e. absurd (true≢false e) }) s g (λ k b o l m v. record { placed = λ e. refl })) i h

-- LABELS: those of one operation, among all that wait
queued_at : (v : ℕ → ℕ) (q : List Tagged) (i : ℕ) → i < length q → total v (labels_in (get_or q i no_op).call) ≤ total v (queued q)
queued_at v [] i h = absurd (omega arith)
queued_at v (x ∷ xs) zero h = omega (arith, total_append v (labels_in x.call) (queued xs))
queued_at v (x ∷ xs) (suc i) h = omega (arith, total_append v (labels_in x.call) (queued xs), queued_at v xs i (omega arith))

module _ (s : Session) (g : Valid s) (i : ℕ) (h : i < length (flat s).queue) where
  labels_live_law : (v : ℕ → ℕ) → total v (labels_in (get_or (flat s).queue i no_op).call) + total v (labels_of_results s.results) ≤ total v (live s)
  labels_live_law v = omega (arith, queued_at v (flat s).queue i h, pending_same v s, total_append v (pending s) (labels_of_results s.results))

  -- there is room for its results
  pub labels_room : length s.results + length (labels_in (get_or (flat s).queue i no_op).call) ≤ 64
  labels_room =
      omega (arith, labels_live_law one, total_one (labels_in (get_or (flat s).queue i no_op).call), total_one (labels_of_results s.results), total_one (live s), length_labels s.results, g.places)

-- FOUND: an index that a search gives is below the length exactly where something stands there
module _ {A : Type 0} where
  pub here_find : (p : A → Bool) (xs : List A) → first_is p (drop (first_index p xs) xs) ≡ ltb (first_index p xs) (length xs)
  here_find p [] = sym (leb-suc-zero 0)
  here_find p (x ∷ xs) = go (p x) refl (here_find p xs)
    where
      go : (b : Bool) → p x ≡ b → first_is p (drop (first_index p xs) xs) ≡ ltb (first_index p xs) (length xs) → first_is p (drop (cond b zero (suc (first_index p xs))) (x ∷ xs)) ≡ ltb (cond b zero (suc (first_index p xs))) (suc (length xs))
      go true e f = e ∙ sym (lt-ltb 0 (suc (length xs)) (omega arith))
      go false e f = f ∙ sym (leb-suc-suc (suc (first_index p xs)) (length xs))

  pub here_at : (p : A → Bool) (xs : List A) (i : ℕ) (d : A) → i < length xs → first_is p (drop i xs) ≡ p (get_or xs i d)
  here_at p [] i d h = absurd (omega arith)
  here_at p (x ∷ xs) zero d h = refl
  here_at p (x ∷ xs) (suc i) d h = here_at p xs i d (omega arith)

  pub here_past : (p : A → Bool) (xs : List A) (i : ℕ) → length xs ≤ i → first_is p (drop i xs) ≡ false
  here_past p [] zero h = refl
  here_past p [] (suc i) h = refl
  here_past p (x ∷ xs) zero h = absurd (omega arith)
  here_past p (x ∷ xs) (suc i) h = here_past p xs i (omega arith)
