-- A region of the image after its records changed, or others did: one law for the three regions.
-- Assumes nothing.
use mathlib.Core.Path.{◌≡◌, refl, sym, ap, subst, ◌∙◌}
use Prim.Native.Nat.{ℕ, ◌+◌, ◌≤◌, ◌<◌}
use native.Mathlib.Omega.{arith}
use native.Mathlib.Decide.{dec_lt, ℕ_discrete}
use mathlib.Core.List.{List}
use lib.ListN.{length, get_or, set, length-set}
use lib.Seq.{get_or-set_same, get_or-set_other}
use Rattle.text.specs.Text.{pasted}
use Rattle.text.proofs.Pasting.{length_pasted, pasted_below, pasted_in, pasted_above}
use Rattle.records.specs.Inner.Numbers.{chunk, tab}
use Rattle.records.proofs.Tables.{length_tab, get_d_tab, tab_is}
use Rattle.image.specs.Inner.Regions.{Region, place, record_at, listed_in, blank, Zeros}
use Rattle.image.proofs.Parts.{next_place, chunk_same, chunk_is}

-- t has the bytes of s from a up to, not including, b
abbrev pub Same : List ℕ → List ℕ → ℕ → ℕ → Type 0
Same s t a b = (i : ℕ) → a ≤ i → i < b → get_or t i 0 ≡ get_or s i 0

module _ {A : Type 0} (R : Region A) where
  -- what t holds in the region, where s held something else
  pub record After (s t : List ℕ) (xs : List A) : Type 0 where
    pub listed : listed_in R t ≡ xs
    pub room : length xs ≤ 64
    pub tail : Zeros s (place R (length (listed_in R s))) (place R 64) → Zeros t (place R (length xs)) (place R 64)

  pub count_of : (s : List ℕ) → length (listed_in R s) ≡ get_or s R.slot 0
  unfolding listed_in
  count_of s = length_tab (get_or s R.slot 0) (record_at R s)

  pub record_of : (s : List ℕ) (i : ℕ) → i < length (listed_in R s) → record_at R s i ≡ get_or (listed_in R s) i (blank R)
  unfolding listed_in
  record_of s i h = sym (get_d_tab (get_or s R.slot 0) (record_at R s) i (blank R) (subst (λ (n : ℕ). i < n) (count_of s) h))

  pub after : (s t : List ℕ) (xs : List A) → get_or t R.slot 0 ≡ length xs → length xs ≤ 64 → ((i : ℕ) → i < length xs → record_at R t i ≡ get_or xs i (blank R))
      → (Zeros s (place R (length (listed_in R s))) (place R 64) → Zeros t (place R (length xs)) (place R 64)) → After s t xs
  unfolding listed_in
  after s t xs e room h z =
      record {
        listed = ap (λ (n : ℕ). tab n (record_at R t)) e ∙ tab_is (length xs) (record_at R t) xs (blank R) refl h;
        room = room;
        tail = z;
      }

  -- records j of t and k of s have the same bytes
  module _ (s t : List ℕ) (size : length t ≡ length s) (fits : place R 64 ≤ length s) where
    pub record_same : (j k : ℕ) → j < 64 → k < 64 → ((m : ℕ) → m < R.size → get_or t (place R j + m) 0 ≡ get_or s (place R k + m) 0) → record_at R t j ≡ record_at R s k
    unfolding record_at
    record_same j k hj hk e =
        ap R.decode (chunk_same t s (place R j) (place R k) R.size
        (omega (arith, next_place R.size j 64 hj)) (omega (arith, next_place R.size k 64 hk)) e)

    pub record_kept : (j : ℕ) → j < 64 → Same s t (place R j) (place R j + R.size) → record_at R t j ≡ record_at R s j
    record_kept j h e = record_same j j h h (λ m l. e (place R j + m) (omega arith) (omega arith))

    -- nothing of the region was written
    pub kept : length (listed_in R s) ≤ 64 → get_or t R.slot 0 ≡ get_or s R.slot 0 → Same s t R.base (place R 64) → After s t (listed_in R s)
    kept room slot e =
        after s t (listed_in R s) (slot ∙ sym (count_of s)) room
        (λ i h.
        let k : i < 64 = omega arith in
        record_kept i k (λ m a b. e m (omega arith) (omega (arith, next_place R.size i 64 k))) ∙ record_of s i h)
        (λ z i a b. e i (omega arith) b ∙ z i a b)

  -- record i becomes x, whose bytes are bs
  module _ (s : List ℕ) (i : ℕ) (bs : List ℕ) (x : A) (size : length bs ≡ R.size) (back : R.decode bs ≡ x) (fits : place R 64 ≤ length s) (less : i < 64) where
    room : place R i + length bs ≤ length s
    room = omega (arith, next_place R.size i 64 less)

    abbrev t : List ℕ
    t = pasted s (place R i) bs

    pub put_same : record_at R t i ≡ x
    unfolding record_at
    put_same =
        ap (λ (n : ℕ). R.decode (chunk t (place R i) n)) (sym size)
        ∙ ap R.decode (chunk_is t bs (place R i) (rw (length_pasted s (place R i) bs room) room) (pasted_in s (place R i) bs room))
        ∙ back

    pub put_other : (j : ℕ) → j < 64 → (j ≡ i → ⊥) → record_at R t j ≡ record_at R s j
    put_other j h n = go (dec_lt j i)
      where
        keep : Same s t (place R j) (place R j + R.size) → record_at R t j ≡ record_at R s j
        keep = record_kept s t (length_pasted s (place R i) bs room) fits j h

        go : Dec (j < i) → record_at R t j ≡ record_at R s j
        go (yes l) = keep (λ m a b. pasted_below s (place R i) bs room m (omega (arith, next_place R.size j i l)))
        go (no l) = keep (λ m a b. pasted_above s (place R i) bs room m (omega (arith, next_place R.size i j (omega arith))))

    pub put_after : R.slot < R.base → i < length (listed_in R s) → length (listed_in R s) ≤ 64 → After s t (set (listed_in R s) i x)
    put_after slot h full =
        let len : length (set (listed_in R s) i x) ≡ length (listed_in R s) = length-set (listed_in R s) i x in
        after s t (set (listed_in R s) i x) (pasted_below s (place R i) bs room R.slot (omega arith) ∙ sym (count_of s) ∙ sym len) (rw len full)
        (λ j l. go j (subst (λ (n : ℕ). j < n) len l) (ℕ_discrete j i))
        (λ z m a b.
        let lo : place R (length (listed_in R s)) ≤ m = subst (λ (n : ℕ). place R n ≤ m) len a in
        pasted_above s (place R i) bs room m (omega (arith, next_place R.size i (length (listed_in R s)) h)) ∙ z m lo b)
      where
        go : (j : ℕ) → j < length (listed_in R s) → Dec (j ≡ i) → record_at R t j ≡ get_or (set (listed_in R s) i x) j (blank R)
        go j l (yes e) = ap (record_at R t) e ∙ put_same ∙ sym (get_or-set_same (listed_in R s) i x (blank R) h) ∙ ap (λ (n : ℕ). get_or (set (listed_in R s) i x) n (blank R)) (sym e)
        go j l (no n) = put_other j (omega arith) n ∙ record_of s j l ∙ sym (get_or-set_other (listed_in R s) i j x (blank R) n)
