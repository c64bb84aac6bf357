-- Laws of `decimal`: how it grows by a digit, that it is injective, and how a number is read digit by digit.
-- Assumes nothing.
use Prim.Native.Nat.{ℕ, zero, suc, ◌+◌, ◌*◌, ◌-◌, ◌/◌, ◌%◌, ◌^◌, ◌<◌, ◌≤◌}
use mathlib.Core.Path.{◌≡◌, refl, sym, ap, ◌∙◌}
use mathlib.Core.Bool.{Bool, true, false}
use mathlib.Core.List.{List, [], ◌∷◌, ◌++◌, append-nil, append_assoc}
use native.Mathlib.Omega.{arith}
use borrow.Author.Tests.{lt-ltb, le-ltb, ltb-true, ltb-false}
use lib.Dec.{ltb}
use native.Mathlib.Numerals.{add-one, unary_clauses}
use lib.Seq.{drop-cons}
use lib.ListN.{length, drop, get_or, length-append, get_or-append, drop_of_length-le}
use Rattle.std.proofs.Common.{inl, inr}
use Rattle.std.specs.Bool.{MatchBool}
use Rattle.std.specs.Char.{IsAsciiDigit, IsNotAsciiDigit}
use Rattle.std.proofs.lemmas.Bool.Decides.{when_false}
use Rattle.graph.specs.Words.{modulus}
use Rattle.text.specs.Text.{digits, decimal}

digits_low : (k n : ℕ) → n < 10 → digits k n ≡ (48 + n) ∷ []
unfolding digits
digits_low zero n h = refl
digits_low (suc k) n h = rw (lt-ltb n 10 h, digits)

digits_high : (k n : ℕ) → 10 ≤ n → digits (suc k) n ≡ digits k (n / 10) ++ (48 + n % 10) ∷ []
unfolding digits
digits_high k n h = rw (le-ltb n 10 h, digits)

-- turns to spare change nothing
digits_fuel : (k j n : ℕ) → n ≤ k → n ≤ j → digits k n ≡ digits j n
digits_fuel zero j n hk hj = digits_low zero n (omega arith) ∙ sym (digits_low j n (omega arith))
digits_fuel (suc k) zero n hk hj = digits_low (suc k) n (omega arith) ∙ sym (digits_low zero n (omega arith))
digits_fuel (suc k) (suc j) n hk hj = go (ltb n 10) refl (digits_fuel k j (n / 10))
  where
    go : (b : Bool) → ltb n 10 ≡ b → (n / 10 ≤ k → n / 10 ≤ j → digits k (n / 10) ≡ digits j (n / 10)) → digits (suc k) n ≡ digits (suc j) n
    go true e ih = digits_low (suc k) n (ltb-true n 10 e) ∙ sym (digits_low (suc j) n (ltb-true n 10 e))
    go false e ih =
        let h : 10 ≤ n = ltb-false n 10 e in
        digits_high k n h ∙ ap (λ (r : List ℕ). r ++ (48 + n % 10) ∷ []) (ih (omega arith) (omega arith)) ∙ sym (digits_high j n h)

pub decimal_low : (n : ℕ) → n < 10 → decimal n ≡ (48 + n) ∷ []
unfolding decimal
decimal_low n h = digits_low n n h

pub decimal_high : (n : ℕ) → 10 ≤ n → decimal n ≡ decimal (n / 10) ++ (48 + n % 10) ∷ []
unfolding decimal
decimal_high zero h = absurd (omega arith)
decimal_high (suc n) h =
    digits_high n (suc n) h ∙ ap (λ (r : List ℕ). r ++ (48 + suc n % 10) ∷ []) (digits_fuel n (suc n / 10) (suc n / 10) (omega arith) (omega arith))

pub decimal_more : (v d : ℕ) → 0 < v → d < 10 → decimal (v * 10 + d) ≡ decimal v ++ (48 + d) ∷ []
decimal_more v d hv hd =
    let q : (v * 10 + d) / 10 ≡ v = omega arith in
    let m : (v * 10 + d) % 10 ≡ d = omega arith in
    decimal_high (v * 10 + d) (omega arith) ∙ cc

-- induction on the number of digits
digits_ind : (P : ℕ → List ℕ → Type 0) → ((n : ℕ) → n < 10 → P n ((48 + n) ∷ [])) → ((n : ℕ) (r : List ℕ) → 10 ≤ n → P (n / 10) r → P n (r ++ (48 + n % 10) ∷ [])) → (k n : ℕ) → n ≤ k → P n (decimal n)
digits_ind P low high zero n h = rw (decimal_low n (omega arith)) (low n (omega arith))
digits_ind P low high (suc k) n h = go (ltb n 10) refl (digits_ind P low high k (n / 10))
  where
    go : (b : Bool) → ltb n 10 ≡ b → (n / 10 ≤ k → P (n / 10) (decimal (n / 10))) → P n (decimal n)
    go true e ih = rw (decimal_low n (ltb-true n 10 e)) (low n (ltb-true n 10 e))
    go false e ih = let g : 10 ≤ n = ltb-false n 10 e in rw (decimal_high n g) (high n (decimal (n / 10)) g (ih (omega arith)))

-- every byte is a digit
abbrev pub Figures : List ℕ → Type 0
Figures [] = Unit {0}
Figures (c ∷ cs) = (48 ≤ c) × (c < 58) × Figures cs

-- the number that digits make after v
abbrev pub value_from : ℕ → List ℕ → ℕ
value_from v [] = v
value_from v (c ∷ cs) = value_from (v * 10 + (c - 48)) cs

pub value_from_ge : (v : ℕ) (l : List ℕ) → v ≤ value_from v l
value_from_ge v [] = omega arith
value_from_ge v (c ∷ cs) = omega (arith, value_from_ge (v * 10 + (c - 48)) cs)

value_from_snoc : (v : ℕ) (l : List ℕ) (c : ℕ) → value_from v (l ++ c ∷ []) ≡ value_from v l * 10 + (c - 48)
value_from_snoc v [] c = refl
value_from_snoc v (d ∷ l) c = value_from_snoc (v * 10 + (d - 48)) l c

figures_snoc : (l : List ℕ) (c : ℕ) → Figures l → 48 ≤ c → c < 58 → Figures (l ++ c ∷ [])
figures_snoc [] c d lo hi = (lo, hi, tt)
figures_snoc (x ∷ l) c d lo hi = (d.0, d.1, figures_snoc l c d.2 lo hi)

pub digit_at : (l : List ℕ) (i : ℕ) → Figures l → i < length l → (48 ≤ get_or l i 0) × (get_or l i 0 < 58)
digit_at [] i d h = absurd (omega arith)
digit_at (x ∷ l) zero d h = (d.0, d.1)
digit_at (x ∷ l) (suc i) d h = digit_at l i d.2 (omega arith)

-- what `decimal n` is
pub record IsDecimal (n : ℕ) (l : List ℕ) : Type 0 where
  pub some : 0 < length l
  pub lead : 0 < n → 48 < get_or l 0 0
  pub figures : Figures l
  pub worth : value_from 0 l ≡ n

one_digit : (n : ℕ) → n < 10 → IsDecimal n ((48 + n) ∷ [])
one_digit n h = record { some = omega arith; lead = λ p. omega arith; figures = (omega arith, omega arith, tt); worth = omega arith }

digit_more : (n : ℕ) (r : List ℕ) → 10 ≤ n → IsDecimal (n / 10) r → IsDecimal n (r ++ (48 + n % 10) ∷ [])
digit_more n r h g =
    record {
      some = omega (arith, length-append r ((48 + n % 10) ∷ []));
      lead = λ p. rw (get_or-append r ((48 + n % 10) ∷ []) 0 0 g.some) (g.lead (omega arith));
      figures = figures_snoc r (48 + n % 10) g.figures (omega arith) (omega arith);
      worth = omega (arith, value_from_snoc 0 r (48 + n % 10), g.worth);
    }

pub decimal_is : (n : ℕ) → IsDecimal n (decimal n)
decimal_is n = digits_ind IsDecimal one_digit digit_more n n (omega arith)

pub decimal_inj : (v w : ℕ) → decimal v ≡ decimal w → v ≡ w
decimal_inj v w e = sym (decimal_is v).worth ∙ ap (value_from 0) e ∙ (decimal_is w).worth

-- digits after a number that is not 0 carry it on
carry_on : (v : ℕ) (l : List ℕ) → 0 < v → Figures l → decimal v ++ l ≡ decimal (value_from v l)
carry_on v [] h d = append-nil (decimal v)
carry_on v (c ∷ cs) h d =
    let e : 48 + (c - 48) ≡ c = omega (arith, d.0) in
    sym (append_assoc (decimal v) (c ∷ []) cs)
    ∙ ap (λ (r : List ℕ). r ++ cs) (ap (λ (k : ℕ). decimal v ++ k ∷ []) (sym e) ∙ sym (decimal_more v (c - 48) h (omega (arith, d.0, d.1))))
    ∙ carry_on (v * 10 + (c - 48)) cs (omega arith) d.2

-- digits that do not begin with a zero are the decimal of what they make
pub canon : (l : List ℕ) → 0 < length l → (get_or l 0 0 ≡ 48 → ⊥) → Figures l → l ≡ decimal (value_from 0 l)
canon [] h ne d = absurd (omega arith)
canon (c ∷ cs) h ne d =
    let e : 48 + (c - 48) ≡ c = omega (arith, d.0) in
    let z : 0 * 10 + (c - 48) ≡ c - 48 = omega arith in
    let p : 0 < c - 48 = omega (arith, d.0, ne) in
    ap (λ (k : ℕ). k ∷ cs) (sym e)
    ∙ ap (λ (r : List ℕ). r ++ cs) (sym (decimal_low (c - 48) (omega (arith, d.0, d.1))))
    ∙ carry_on (c - 48) cs p d.2
    ∙ ap (λ (k : ℕ). decimal (value_from k cs)) (sym z)

-- ---- a number read digit by digit

text_is : (s : List ℕ) (w : ℕ) → s ≡ decimal w → IsDecimal w s
text_is s w e = rw e (decimal_is w)

-- v is what the first i bytes make, and they are digits
pub record Reading (s : List ℕ) (v i : ℕ) : Type 0 where
  pub within : i ≤ length s
  pub small : v < modulus
  pub worth : value_from 0 s ≡ value_from v (drop i s)
  pub figures : Figures (drop i s) → Figures s

module _ (s : List ℕ) (v i x : ℕ) (r : Reading s v i) (h : i < length s) (e : x ≡ get_or s i 0) where
  worth_more : value_from 0 s ≡ value_from (v * 10 + (x - 48)) (drop (i + 1) s)
  worth_more = r.worth ∙ rw (add-one, drop-cons s i 0, e)

  pub reading_more : 48 ≤ x → x ≤ 57 → v * 10 + (x - 48) ≤ 4294967295 → Reading s (v * 10 + (x - 48)) (i + 1)
  reading_more lo hi fit =
      record {
        within = omega arith;
        small = omega arith;
        worth = worth_more;
        figures = λ d. r.figures (rw (drop-cons s i 0 h) (omega arith, omega arith, rw add-one at d));
      }

  pub refute_large : 4294967295 < v * 10 + (x - 48) → (w : ℕ) → w < modulus → s ≡ decimal w → ⊥
  refute_large big w hw ew =
      omega (arith, value_from_ge (v * 10 + (x - 48)) (drop (i + 1) s), worth_more, (text_is s w ew).worth)

  pub refute_digit : (48 ≤ x → x ≤ 57 → ⊥) → (w : ℕ) → w < modulus → s ≡ decimal w → ⊥
  refute_digit bad w hw ew =
      let d = digit_at s i (text_is s w ew).figures h in
      bad (omega (arith, d)) (omega (arith, d))

-- what `is_ascii_digit` says of another byte
pub outside : {b : Bool} {x : ℕ} → b ≡ false → MatchBool b (IsAsciiDigit x) (IsNotAsciiDigit x) → 48 ≤ x → x ≤ 57 → ⊥
outside {b} {x} e m lo hi = go (when_false _ _ e m)
  where
    go : IsNotAsciiDigit x → ⊥
    go (inl h) = omega arith
    go (inr h) = omega arith

pub refute_empty : (s : List ℕ) → length s ≡ 0 → (w : ℕ) → w < modulus → s ≡ decimal w → ⊥
refute_empty s h w hw e = omega (arith, (text_is s w e).some)

pub is_zero : (s : List ℕ) → get_or s 0 0 ≡ 48 → length s ≡ 1 → s ≡ decimal 0
unfolding decimal digits
is_zero [] e h = absurd (omega arith)
is_zero (x ∷ []) e h = ap (λ (k : ℕ). k ∷ []) e
is_zero (x ∷ y ∷ ys) e h = absurd (omega arith)

pub refute_zero : (s : List ℕ) → get_or s 0 0 ≡ 48 → (length s ≡ 1 → ⊥) → (w : ℕ) → w < modulus → s ≡ decimal w → ⊥
unfolding decimal digits
refute_zero s z ne zero hw e = ne (ap length e)
refute_zero s z ne (suc w) hw e = omega (arith, (text_is s (suc w) e).lead (omega arith))

pub read_whole : (s : List ℕ) (v i : ℕ) → Reading s v i → length s ≤ i → (length s ≡ 0 → ⊥) → (get_or s 0 0 ≡ 48 → ⊥) → s ≡ decimal v
read_whole s v i r h some lead =
    let e : drop i s ≡ [] = drop_of_length-le s h in
    let d : Figures s = r.figures (rw e tt) in
    canon s (omega (arith, some)) lead d ∙ ap decimal (r.worth ∙ ap (value_from v) e)

pub len_low : (n : ℕ) → n < 10 → length (decimal n) ≡ 1
len_low n h = ap length (decimal_low n h)

pub len_high : (n : ℕ) → 10 ≤ n → length (decimal n) ≡ length (decimal (n / 10)) + 1
len_high n h = ap length (decimal_high n h) ∙ length-append (decimal (n / 10)) ((48 + n % 10) ∷ [])

-- a number below 10 ^ (k + 1) has at most k + 1 digits
len_le : (k n : ℕ) → n < 10 ^ (k + 1) → length (decimal n) ≤ k + 1
len_le zero n h = omega (arith, len_low n h)
len_le (suc k) n h = go (ltb n 10) refl (len_le k (n / 10))
  where
    go : (b : Bool) → ltb n 10 ≡ b → (n / 10 < 10 ^ (k + 1) → length (decimal (n / 10)) ≤ k + 1) → length (decimal n) ≤ suc k + 1
    go true e ih = omega (arith, len_low n (ltb-true n 10 e))
    go false e ih =
        let q : 10 ^ (suc k + 1) ≡ 10 ^ (k + 1) * 10 = simp unary_clauses in
        omega (arith, len_high n (ltb-false n 10 e), ih (omega arith))

pub len_two : (n : ℕ) → n < 100 → length (decimal n) ≤ 2
len_two n h = len_le 1 n h

pub len_five : (n : ℕ) → n < 65536 → length (decimal n) ≤ 5
len_five n h = len_le 4 n (omega arith)

pub len_ten : (n : ℕ) → n < modulus → length (decimal n) ≤ 10
len_ten n h = len_le 9 n (omega arith)

pub len_twenty : (n : ℕ) → n < 2 ^ 64 → length (decimal n) ≤ 20
len_twenty n h = len_le 19 n (omega arith)
