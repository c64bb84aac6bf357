-- The results that an image holds: by index, by label, and one more at its place.
-- Assumes nothing.
use mathlib.Core.Path.{◌≡◌, refl, sym, ap, ◌∙◌}
use Prim.Native.Nat.{ℕ, zero, suc, ◌+◌, ◌<◌, ◌-◌, ◌≤◌}
use native.Mathlib.Numerals.{add-one}
use native.Mathlib.Omega.{arith}
use mathlib.Core.Bool.{Bool, true, false, cond}
use mathlib.Core.List.{List, [], ◌∷◌, ◌++◌}
use lib.Dec.{ltb}
use lib.ListN.{length, get_or, take, length-take}
use lib.Seq.{take-suc, length-take-le}
use borrow.Author.Tests.{eq-eqb, ne_eqb, ltb-true, ltb-false}
use Rattle.graph.specs.declared.keys.Keys.{Keys}
use Rattle.graph.specs.Packed.{listed, packed}
use Rattle.graph.specs.Refusals.{refused, done}
use Rattle.graph.specs.Nodes.{Result, results_for}
use Rattle.graph.specs.Sessions.{insert, store, labels_of_results}
use Rattle.graph.specs.Acceptance.{take_result}
use Rattle.records.specs.declared.labels.Labels.{Labels}
use Rattle.records.specs.declared.result.ResultRecord.{ResultRecord}
use Rattle.graph.specs.KeyLists.{above, rising}
use Rattle.graph.proofs.Answers.{and_left, and_right}
use Rattle.graph.proofs.Limits.{rising_above}
use Rattle.image.specs.Inner.Regions.{view, result_region, blank, ViewWritten, insert_at, view_with_results}
use Rattle.flat.specs.Flat.{Flat}
use Rattle.flat.specs.Inner.Queues.{remove_at}
use Rattle.valid.specs.Inner.Decoded.{labels_of, decoded_result}
use Rattle.valid.specs.Values.{packed_labels, result_record}
use Rattle.state.specs.Inner.State.{flat_in, Proper, Shows, with_results}
use Rattle.state.specs.Inner.Results.{IsCallResult, no_result, result_with, place_of, taken_at}
use Rattle.state.proofs.Holding.{ResultsStand, stands_length, stands_at, clean_at, stands_insert, stands_remove, results_stand, results_shown}

-- BY LABEL
pub insert_place : (r : Result) (rs : List Result) → insert_at (place_of r.label rs) r rs ≡ insert r rs
insert_place r [] = refl
insert_place r (q ∷ qs) = go (ltb r.label q.label) (insert_place r qs)
  where
    go : (b : Bool) → insert_at (place_of r.label qs) r qs ≡ insert r qs → insert_at (cond b zero (suc (place_of r.label qs))) r (q ∷ qs) ≡ cond b (r ∷ q ∷ qs) (q ∷ insert r qs)
    go true e = refl
    go false e = ap (λ (l : List Result). q ∷ l) e

length_insert : (r : Result) (rs : List Result) → length (insert r rs) ≡ suc (length rs)
length_insert r [] = refl
length_insert r (q ∷ qs) = go (ltb r.label q.label) (length_insert r qs)
  where
    go : (b : Bool) → length (insert r qs) ≡ suc (length qs) → length (cond b (r ∷ q ∷ qs) (q ∷ insert r qs)) ≡ suc (suc (length qs))
    go true e = refl
    go false e = ap suc e

-- the results of labels, stored from the first on
module _ (v : ℕ) (ts : List ℕ) where
  pub store_next : (ls : List ℕ) (l : ℕ) (rs : List Result) → store (results_for (ls ++ (l ∷ [])) v ts) rs ≡ insert (result_with l v ts) (store (results_for ls v ts) rs)
  store_next [] l rs = refl
  store_next (k ∷ ls) l rs = store_next ls l (insert (result_with k v ts) rs)

  pub length_stored : (ls : List ℕ) (rs : List Result) → length (store (results_for ls v ts) rs) ≡ length ls + length rs
  length_stored [] rs = omega arith
  length_stored (l ∷ ls) rs = omega (arith, length_stored ls (insert (result_with l v ts) rs), length_insert (result_with l v ts) rs)

-- a claim of label l takes the first result above l - 1, if it has that label; results rise by label
module _ (l : ℕ) (low : 1 ≤ l) where
  pub take_there : (rs : List Result) → place_of (l - 1) rs < length rs → (get_or rs (place_of (l - 1) rs) no_result).label ≡ l → take_result l rs ≡ done (taken_at (place_of (l - 1) rs) rs)
  take_there [] h e = absurd (omega arith)
  take_there (r ∷ rs) h e = go (ltb (l - 1) r.label) refl (take_there rs) h e
    where
      go : (b : Bool) → ltb (l - 1) r.label ≡ b
          → (place_of (l - 1) rs < length rs → (get_or rs (place_of (l - 1) rs) no_result).label ≡ l → take_result l rs ≡ done (taken_at (place_of (l - 1) rs) rs))
          → cond b zero (suc (place_of (l - 1) rs)) < suc (length rs) → (get_or (r ∷ rs) (cond b zero (suc (place_of (l - 1) rs))) no_result).label ≡ l
          → take_result l (r ∷ rs) ≡ done (taken_at (cond b zero (suc (place_of (l - 1) rs))) (r ∷ rs))
      go true t ih h e = rw (eq-eqb r.label l e)
      go false t ih h e = rw (ne_eqb r.label l (λ q. omega (arith, ltb-false (l - 1) r.label t)), ih (omega arith) e)

  take_above : (d : ℕ) → l ≤ d → (rs : List Result) → above d (labels_of_results rs) ≡ true → take_result l rs ≡ refused 32
  take_above d h [] a = refl
  take_above d h (r ∷ rs) a =
      let up : d < r.label = ltb-true d r.label (and_left _ _ a) in
      rw (ne_eqb r.label l (λ q. omega arith), take_above r.label (omega arith) rs (and_right (ltb d r.label) _ a))

  pub take_missing : (rs : List Result) → rising (labels_of_results rs) ≡ true → (place_of (l - 1) rs < length rs → (get_or rs (place_of (l - 1) rs) no_result).label ≡ l → ⊥) → take_result l rs ≡ refused 32
  take_missing [] o n = refl
  take_missing (r ∷ rs) o n = go (ltb (l - 1) r.label) refl (take_missing rs (rising_above r.label (labels_of_results rs) o)) n
    where
      go : (b : Bool) → ltb (l - 1) r.label ≡ b
          → ((place_of (l - 1) rs < length rs → (get_or rs (place_of (l - 1) rs) no_result).label ≡ l → ⊥) → take_result l rs ≡ refused 32)
          → (cond b zero (suc (place_of (l - 1) rs)) < suc (length rs) → (get_or (r ∷ rs) (cond b zero (suc (place_of (l - 1) rs))) no_result).label ≡ l → ⊥)
          → take_result l (r ∷ rs) ≡ refused 32
      go true t ih n =
          let up : l - 1 < r.label = ltb-true (l - 1) r.label t in
          rw (ne_eqb r.label l (n (omega arith)), take_above r.label (omega arith) rs o)
      go false t ih n = rw (ne_eqb r.label l (λ q. omega (arith, ltb-false (l - 1) r.label t)), ih (λ h. n (omega arith)))

-- IN THE IMAGE
abbrev made : ℕ → ℕ → Keys → ResultRecord
made l v ts = record { label = l; value = v; left = ts; spare = 0 }

module _ (s : List ℕ) (proper : Proper s) where
  stand : ResultsStand (view s).results (flat_in s).results
  stand = results_stand s proper

  pub result_count : length (view s).results ≡ length (flat_in s).results
  result_count = stands_length decoded_result result_record stand

  module _ (i : ℕ) (h : i < length (flat_in s).results) where
    pub in_view : i < length (view s).results
    in_view = rw result_count h

    pub call_result_of : {r : ResultRecord} → r ≡ get_or (view s).results i (blank result_region) → IsCallResult (get_or (flat_in s).results i no_result) (record { label = r.label; value = r.value; left = r.left })
    call_result_of {r} e =
        let n : decoded_result r ≡ get_or (flat_in s).results i no_result = ap decoded_result e ∙ sym (stands_at decoded_result result_record stand i (blank result_region) no_result in_view) in
        let clean : result_record (decoded_result r) ≡ r = ap (λ (y : ResultRecord). result_record (decoded_result y)) e ∙ clean_at decoded_result result_record stand i (blank result_region) in_view ∙ sym e in
        record {
          label = ap (λ (y : Result). y.label) n;
          value = ap (λ (y : Result). y.value) n;
          left = record { is = ap (λ (y : Result). y.left) n; keys = sym (ap (λ (y : ResultRecord). y.left) clean) };
        }

  module _ (t : List ℕ) where
    pub result_put : (p l v : ℕ) (ts : Keys) → p ≡ place_of l (flat_in s).results → ts ≡ packed (listed ts)
        → ViewWritten (view_with_results (view s) (insert_at p (made l v ts) (view s).results)) s t
        → Shows (with_results (flat_in s) (insert (result_with l v (listed ts)) (flat_in s).results)) t
    result_put p l v ts e normal w =
        rw (e, insert_place (result_with l v (listed ts)) (flat_in s).results) at
        (results_shown s proper t (stands_insert decoded_result result_record stand p (made l v ts) (λ i. made l v (sym normal i))) w)

    pub result_taken : (p : ℕ) → ViewWritten (view_with_results (view s) (remove_at p (view s).results)) s t → Shows (with_results (flat_in s) (remove_at p (flat_in s).results)) t
    result_taken p w = results_shown s proper t (stands_remove decoded_result result_record stand p) w

-- STORED ONE BY ONE: t holds what s does, with the results of the first i labels
module _ (s each : List ℕ) (v : ℕ) (ts : List ℕ) where
  abbrev pub Stored : ℕ → List ℕ → Type 0
  Stored i t = Shows (with_results (flat_in s) (store (results_for (take i each) v ts) (flat_in s).results)) t

  module _ (i : ℕ) (t : List ℕ) (h : i < length each) (x : Stored i t) where
    pub stored_count : length (flat_in t).results ≡ i + length (flat_in s).results
    stored_count =
        ap (λ (f : Flat). length f.results) x.shows
        ∙ length_stored v ts (take i each) (flat_in s).results
        ∙ ap (λ (n : ℕ). n + length (flat_in s).results) (length-take-le i each (omega arith))

    pub stored_next : (u : List ℕ) → Shows (with_results (flat_in t) (insert (result_with (get_or each i 0) v ts) (flat_in t).results)) u → Stored (i + 1) u
    stored_next u w = rw (add-one i, take-suc each i 0 h, store_next v ts (take i each) (get_or each i 0) (flat_in s).results) (rw x.shows at w)

pub labels_count : (l : Labels) → l ≡ packed_labels (labels_of l) → l.count ≡ length (labels_of l)
unfolding packed_labels
labels_count l e = ap (λ (x : Labels). x.count) e

-- the labels are in the array
pub labels_fit : (l : Labels) → l ≡ packed_labels (labels_of l) → l.count ≤ length l.label
labels_fit l e = omega (arith, labels_count l e, length-take l.count l.label)
