-- Key lists and label lists in their structs: what the tests say of them.
-- Assumes nothing.
use mathlib.Core.Path.{◌≡◌, refl, sym, ap, subst, ◌∙◌}
use Prim.Native.Nat.{ℕ, zero, suc, ◌-◌, ◌≤◌, ◌<◌}
use native.Mathlib.Nat.{not-suc-le-zero, le_of_suc-le-suc}
use native.Mathlib.Omega.{arith}
use mathlib.Core.Bool.{Bool, true, false, ◌&&◌, true≢false}
use mathlib.Core.List.{List, [], ◌∷◌, ◌++◌}
use lib.Dec.{eqb, leb, ltb}
use lib.ListN.{length, take, drop, replicate, length-append, length-replicate, length-drop, take-append-drop}
use lib.Seq.{length-take-le, take-append_seam, drop-append_seam}
use borrow.Author.Tests.{eqb-true, ltb-true, leb-true, lt-ltb, le-leb}
use Rattle.graph.specs.declared.keys.Keys.{Keys}
use Rattle.graph.specs.KeyLists.{is_key, are_keys, above, rising}
use Rattle.graph.specs.Packed.{listed, packed}
use Rattle.graph.proofs.Answers.{and_left, and_right, and_both}
use Rattle.graph.proofs.KeyLaws.{key_low}
use Rattle.graph.proofs.Limits.{rising_above}
use Rattle.records.specs.declared.labels.Labels.{Labels}
use Rattle.records.specs.Inner.Numbers.{all_zero}
use Rattle.records.proofs.Codecs.{FitKeys, FitLabels}
use Rattle.valid.specs.Inner.Decoded.{labels_of}
use Rattle.valid.specs.Values.{packed_labels}
use Rattle.valid.specs.Inner.Tests.{key_above, floor_after, key_places, keys_ok, labels_ok}

-- KEYS
pub record KeysGood (rise : Bool) (ts : List ℕ) : Type 0 where
  pub few : length ts ≤ 8
  pub keys : are_keys ts ≡ true
  pub rises : rise ≡ true → rising ts ≡ true

all_zero_places : (rise : Bool) (low : ℕ) (xs : List ℕ) → key_places rise zero low xs ≡ true → xs ≡ replicate (length xs) 0
unfolding key_places
all_zero_places rise low [] e = refl
all_zero_places rise low (x ∷ xs) e = λ i. eqb-true x 0 (and_left _ _ e) i ∷ all_zero_places rise low xs (and_right (eqb x 0) _ e) i

record Places (rise : Bool) (n low : ℕ) (xs : List ℕ) : Type 0 where
  keys : are_keys (take n xs) ≡ true
  over : rise ≡ true → above low (take n xs) ≡ true
  rest : xs ≡ take n xs ++ replicate (length xs - n) 0

places : (rise : Bool) (n low : ℕ) (xs : List ℕ) → n ≤ length xs → key_places rise n low xs ≡ true → Places rise n low xs
unfolding key_places
places rise zero low xs h e =
    let q : length xs ≡ length xs - 0 = omega arith in
    record { keys = refl; over = λ r. refl; rest = all_zero_places rise low xs e ∙ ap (λ (k : ℕ). replicate k 0) q }
places rise (suc n) low [] h e = absurd (not-suc-le-zero h)
places rise (suc n) low (x ∷ xs) h e =
    let r : Places rise n (floor_after rise x) xs = places rise n (floor_after rise x) xs (le_of_suc-le-suc h) (and_right (key_above low x) _ e) in
    let lo : low < x = ltb-true low x (and_left _ _ (and_left _ _ e)) in
    let hi : leb x 64 ≡ true = and_right (ltb low x) _ (and_left _ _ e) in
    let q : length xs - n ≡ suc (length xs) - suc n = omega arith in
    record {
      keys = and_both (and_both (le-leb 1 x (omega arith)) hi) r.keys;
      over = λ b. rw (lt-ltb low x lo) (subst (λ (c : Bool). above (floor_after c x) (take n xs) ≡ true) b (r.over b));
      rest = ap (λ (l : List ℕ). x ∷ l) (r.rest ∙ ap (λ (k : ℕ). take n xs ++ replicate k 0) q);
    }

module _ (rise : Bool) (ks : Keys) (f : FitKeys ks) (e : keys_ok rise ks ≡ true) where
  count_few : ks.count ≤ 8
  unfolding keys_ok
  count_few = leb-true ks.count 8 (and_left _ _ e)

  key_places_law : Places rise ks.count 0 ks.key
  unfolding keys_ok
  key_places_law = places rise ks.count 0 ks.key (omega (arith, f.places, count_few)) (and_right (leb ks.count 8) _ e)

  listed_length : length (listed ks) ≡ ks.count
  listed_length = length-take-le ks.count ks.key (omega (arith, f.places, count_few))

  pub keys_good : KeysGood rise (listed ks)
  keys_good = record { few = omega (arith, listed_length, count_few); keys = key_places_law.keys; rises = λ b. rising_above 0 (listed ks) (key_places_law.over b) }

  pub keys_packed : packed (listed ks) ≡ ks
  unfolding packed
  keys_packed =
      let q : length ks.key - ks.count ≡ 8 - length (listed ks) = omega (arith, f.places, listed_length) in
      λ i. record { count = listed_length i; key = sym (key_places_law.rest ∙ ap (λ (k : ℕ). listed ks ++ replicate k 0) q) i }

places_back : (rise : Bool) (low m : ℕ) (ts : List ℕ) → are_keys ts ≡ true → (rise ≡ true → above low ts ≡ true) → (rise ≡ false → low ≡ 0) → key_places rise (length ts) low (ts ++ replicate m 0) ≡ true
unfolding key_places
places_back rise low zero [] k a z = refl
places_back rise low (suc m) [] k a z = places_back rise low m [] k a z
places_back rise low m (t ∷ ts) k a z = go rise refl (places_back rise (floor_after rise t) m ts (and_right (is_key t) _ k))
  where
    high : leb t 64 ≡ true
    high = and_right (leb 1 t) (leb t 64) (and_left (is_key t) (are_keys ts) k)

    low_key : 1 ≤ t
    low_key = key_low t (and_left (is_key t) (are_keys ts) k)

    go : (b : Bool) → rise ≡ b → ((rise ≡ true → above (floor_after rise t) ts ≡ true) → (rise ≡ false → floor_after rise t ≡ 0) → key_places rise (length ts) (floor_after rise t) (ts ++ replicate m 0) ≡ true)
        → (key_above low t && key_places rise (length ts) (floor_after rise t) (ts ++ replicate m 0)) ≡ true
    go true q ih = rw (and_left (ltb low t) _ (a q), high) (ih (λ r. rw q (and_right (ltb low t) _ (a q))) (λ r. absurd (true≢false (sym q ∙ r))))
    go false q ih = rw (lt-ltb low t (omega (arith, z q, low_key)), high) (ih (λ r. absurd (true≢false (sym r ∙ q))) (λ r. rw q))

above_of : (ts : List ℕ) → are_keys ts ≡ true → rising ts ≡ true → above 0 ts ≡ true
above_of [] k e = refl
above_of (t ∷ ts) k e = rw (lt-ltb 0 t (key_low t (and_left _ _ k))) e

module _ (rise : Bool) (ts : List ℕ) (g : KeysGood rise ts) where
  pub packed_ok : keys_ok rise (packed ts) ≡ true
  unfolding keys_ok packed
  packed_ok = rw (le-leb (length ts) 8 g.few) (places_back rise 0 (8 - length ts) ts g.keys (λ b. above_of ts g.keys (g.rises b)) (λ b. refl))

  pub packed_fit : FitKeys (packed ts)
  unfolding packed
  packed_fit = record { places = length-append ts (replicate (8 - length ts) 0) ∙ omega (arith, g.few, length-replicate {A = ℕ} (8 - length ts) 0) }

-- LABELS
zero_list : (xs : List ℕ) → all_zero xs ≡ true → xs ≡ replicate (length xs) 0
unfolding all_zero
zero_list [] e = refl
zero_list (x ∷ xs) e = λ i. eqb-true x 0 (and_left _ _ e) i ∷ zero_list xs (and_right (eqb x 0) _ e) i

zero_replicate : (n : ℕ) → all_zero (replicate n 0) ≡ true
unfolding all_zero
zero_replicate zero = refl
zero_replicate (suc n) = zero_replicate n

pub record LabelsGood (most : ℕ) (ls : List ℕ) : Type 0 where
  pub named : 1 ≤ length ls
  pub few : length ls ≤ most

module _ (most : ℕ) (four : most ≤ 4) (l : Labels) (f : FitLabels l) (e : labels_ok most l ≡ true) where
  label_count : (1 ≤ l.count) × (l.count ≤ most)
  unfolding labels_ok
  label_count = (leb-true 1 l.count (and_left _ _ e), leb-true l.count most (and_left _ _ (and_right (leb 1 l.count) _ e)))

  pub labels_length : length (labels_of l) ≡ l.count
  labels_length = length-take-le l.count l.label (omega (arith, f.places, label_count.1))

  pub labels_good : LabelsGood most (labels_of l)
  labels_good = record { named = omega (arith, labels_length, label_count.0); few = omega (arith, labels_length, label_count.1) }

  pub labels_packed : packed_labels (labels_of l) ≡ l
  unfolding packed_labels labels_ok
  labels_packed =
      let z : all_zero (drop l.count l.label) ≡ true = and_right (leb l.count most) _ (and_right (leb 1 l.count) _ e) in
      let q : length (drop l.count l.label) ≡ 4 - length (labels_of l) = omega (arith, length-drop l.count l.label, f.places, labels_length) in
      let r : l.label ≡ labels_of l ++ replicate (4 - length (labels_of l)) 0 =
      sym (take-append-drop l.count l.label) ∙ ap (λ (x : List ℕ). labels_of l ++ x) (zero_list (drop l.count l.label) z ∙ ap (λ (k : ℕ). replicate k 0) q) in
      λ i. record { count = labels_length i; label = sym r i }

module _ (most : ℕ) (four : most ≤ 4) (ls : List ℕ) (g : LabelsGood most ls) where
  pub packed_labels_ok : labels_ok most (packed_labels ls) ≡ true
  unfolding labels_ok packed_labels
  packed_labels_ok =
      rw (le-leb 1 (length ls) g.named, le-leb (length ls) most g.few, drop-append_seam ls (replicate (4 - length ls) 0)) (zero_replicate (4 - length ls))

  pub labels_of_packed : labels_of (packed_labels ls) ≡ ls
  unfolding packed_labels
  labels_of_packed = take-append_seam ls (replicate (4 - length ls) 0)
