-- Digits as one number, the least significant first; and the highest bits of eight bytes, all at once.
-- Assumes nothing.
use mathlib.Core.Path.{◌≡◌, refl, sym, ap, ap₂, ◌∙◌}
use Prim.Native.Nat.{ℕ, zero, suc, ◌+◌, ◌*◌, ◌-◌, ◌/◌, ◌%◌, ◌^◌, ◌≤◌, ◌<◌}
use native.Mathlib.Omega.{arith}
use native.Mathlib.Nat.{pow-suc}
use mathlib.Core.Bool.{Bool, true, false, cond, not, ◌&&◌, and-true}
use mathlib.Core.List.{List, [], ◌∷◌}
use lib.Bits.{bit_and, and_zero_l, and_block, and_high}
use lib.Dec.{eqb, leb, ltb}
use lib.ListN.{length, get_or, drop, replicate}
use borrow.Author.Tests.{eq-eqb, ne_eqb, eqb-true, eqb-false, le-leb, lt-leb, le-ltb, leb-true, leb-false, ltb-true, ltb-false}
use Rattle.graph.specs.Valid.{Each}
use Rattle.graph.proofs.Answers.{and_left, and_right}
use Rattle.records.specs.Inner.Numbers.{all_zero, le16, le64}
use Rattle.records.specs.Bytes.{bytes8}
use Rattle.records.specs.Inner.Decoded.{labels_at}
use Rattle.valid.specs.Inner.Tests.{key_above, floor_after, key_places}

abbrev pub number : List ℕ → ℕ
number [] = 0
number (x ∷ xs) = number xs * 256 + x

abbrev pub Bytes : List ℕ → Type 0
Bytes xs = Each (λ (x : ℕ). x < 256) xs

-- TOP BITS
abbrev pub marks : List Bool → ℕ
marks [] = 0
marks (b ∷ bs) = marks bs * 256 + cond b 128 0

abbrev pub tops : List ℕ → List Bool
tops [] = []
tops (x ∷ xs) = leb 128 x ∷ tops xs

top_bit : (x : ℕ) → x < 256 → bit_and x 128 ≡ cond (leb 128 x) 128 0
top_bit x h = and_high x 1 7 ∙ go (leb 128 x) refl
  where
    go : (b : Bool) → leb 128 x ≡ b → (x / 128 % 2) * 128 ≡ cond b 128 0
    go true e = omega (arith, h, leb-true 128 x e)
    go false e = omega (arith, h, leb-false 128 x e)

and_tops : (xs : List ℕ) → Bytes xs → bit_and (number xs) (number (replicate (length xs) 128)) ≡ marks (tops xs)
and_tops [] h = and_zero_l 0
and_tops (x ∷ xs) h =
    and_block 8 (number xs) (number (replicate (length xs) 128)) x 128 h.0 (omega arith)
    ∙ ap₂ (λ (a b : ℕ). a * 256 + b) (and_tops xs h.1) (top_bit x h.0)

low_tops : (xs : List ℕ) → marks (tops xs) ≡ 0 → Each (λ (x : ℕ). x < 128) xs
low_tops [] e = tt
low_tops (x ∷ xs) e = go (leb 128 x) refl e (low_tops xs)
  where
    go : (b : Bool) → leb 128 x ≡ b → marks (tops xs) * 256 + cond b 128 0 ≡ 0 → (marks (tops xs) ≡ 0 → Each (λ (y : ℕ). y < 128) xs) → (x < 128) × Each (λ (y : ℕ). y < 128) xs
    go true q e f = absurd (omega arith)
    go false q e f = (leb-false 128 x q, f (omega arith))

tops_low : (xs : List ℕ) → Each (λ (x : ℕ). x < 128) xs → marks (tops xs) ≡ 0
tops_low [] h = refl
tops_low (x ∷ xs) h = rw (lt-leb 128 x h.0, tops_low xs h.1) refl

-- ZEROS after the first n
number_zero : (xs : List ℕ) → number xs ≡ 0 → all_zero xs ≡ true
unfolding all_zero
number_zero [] e = refl
number_zero (x ∷ xs) e = rw (eq-eqb x 0 (omega arith)) (number_zero xs (omega arith))

zero_number : (xs : List ℕ) → all_zero xs ≡ true → number xs ≡ 0
unfolding all_zero
zero_number [] e = refl
zero_number (x ∷ xs) e = let z : x ≡ 0 = eqb-true x 0 (and_left (eqb x 0) (all_zero xs) e) in omega (arith, zero_number xs (and_right (eqb x 0) (all_zero xs) e))

pub zeros_after : (n : ℕ) (xs : List ℕ) → number xs < 256 ^ n → all_zero (drop n xs) ≡ true
unfolding all_zero
zeros_after zero xs l = number_zero xs (omega arith)
zeros_after (suc n) [] l = refl
zeros_after (suc n) (x ∷ xs) l = zeros_after n xs (omega (arith, l, pow-suc 256 n))

pow_some : (n : ℕ) → 0 < 256 ^ n
pow_some zero = omega arith
pow_some (suc n) = omega (arith, pow_some n, pow-suc 256 n)

pub few_after : (n : ℕ) (xs : List ℕ) → Bytes xs → all_zero (drop n xs) ≡ true → number xs < 256 ^ n
few_after zero xs h e = omega (arith, zero_number xs e)
few_after (suc n) [] h e = pow_some (suc n)
few_after (suc n) (x ∷ xs) h e = omega (arith, h.0, few_after n xs h.1 e, pow-suc 256 n)

-- SUMS, with no carry
abbrev plus : ℕ → List ℕ → List ℕ
plus c [] = []
plus c (x ∷ xs) = (x + c) ∷ plus c xs

number_plus : (c : ℕ) (xs : List ℕ) → number (plus c xs) ≡ number xs + number (replicate (length xs) c)
number_plus c [] = refl
number_plus c (x ∷ xs) = omega (arith, number_plus c xs)

-- what is 127 above the floor of each, and with no borrow either
abbrev floors : Bool → ℕ → List ℕ → List ℕ
floors rise low [] = []
floors rise low (x ∷ xs) = low ∷ floors rise (floor_after rise x) xs

abbrev diffs : Bool → ℕ → List ℕ → List ℕ
diffs rise low [] = []
diffs rise low (x ∷ xs) = (x + 127 - low) ∷ diffs rise (floor_after rise x) xs

abbrev ups : Bool → ℕ → List ℕ → List Bool
ups rise low [] = []
ups rise low (x ∷ xs) = ltb low x ∷ ups rise (floor_after rise x) xs

floor_low : (rise : Bool) (x m : ℕ) → x < m → floor_after rise x < m
floor_low true x m h = h
floor_low false x m h = omega arith

number_diffs : (rise : Bool) (low : ℕ) (xs : List ℕ) → low < 128 → Each (λ (x : ℕ). x < 128) xs
    → number (diffs rise low xs) + number (floors rise low xs) ≡ number xs + number (replicate (length xs) 127)
number_diffs rise low [] l h = refl
number_diffs rise low (x ∷ xs) l h = omega (arith, l, number_diffs rise (floor_after rise x) xs (floor_low rise x 128 h.0) h.1)

diffs_bytes : (rise : Bool) (low : ℕ) (xs : List ℕ) → Each (λ (x : ℕ). x < 128) xs → Bytes (diffs rise low xs)
diffs_bytes rise low [] h = tt
diffs_bytes rise low (x ∷ xs) h = (omega (arith, h.0), diffs_bytes rise (floor_after rise x) xs h.1)

is_up : (x low : ℕ) → low < 128 → leb 128 (x + 127 - low) ≡ ltb low x
is_up x low h = go (ltb low x) refl
  where
    go : (b : Bool) → ltb low x ≡ b → leb 128 (x + 127 - low) ≡ b
    go true e = le-leb 128 (x + 127 - low) (omega (arith, h, ltb-true low x e))
    go false e = lt-leb 128 (x + 127 - low) (omega (arith, h, ltb-false low x e))

tops_diffs : (rise : Bool) (low : ℕ) (xs : List ℕ) → low < 128 → Each (λ (x : ℕ). x < 128) xs → tops (diffs rise low xs) ≡ ups rise low xs
tops_diffs rise low [] l h = refl
tops_diffs rise low (x ∷ xs) l h = ap₂ (λ (b : Bool) (bs : List Bool). b ∷ bs) (is_up x low l) (tops_diffs rise (floor_after rise x) xs (floor_low rise x 128 h.0) h.1)

-- the number of n bytes 255, and its top bits
abbrev fulls : ℕ → ℕ → List ℕ
fulls n zero = []
fulls zero (suc l) = 0 ∷ fulls zero l
fulls (suc n) (suc l) = 255 ∷ fulls n l

abbrev firsts : ℕ → ℕ → List Bool
firsts n zero = []
firsts zero (suc l) = false ∷ firsts zero l
firsts (suc n) (suc l) = true ∷ firsts n l

fulls_length : (n l : ℕ) → length (fulls n l) ≡ l
fulls_length n zero = refl
fulls_length zero (suc l) = ap suc (fulls_length zero l)
fulls_length (suc n) (suc l) = ap suc (fulls_length n l)

fulls_bytes : (n l : ℕ) → Bytes (fulls n l)
fulls_bytes n zero = tt
fulls_bytes zero (suc l) = (omega arith, fulls_bytes zero l)
fulls_bytes (suc n) (suc l) = (omega arith, fulls_bytes n l)

fulls_tops : (n l : ℕ) → tops (fulls n l) ≡ firsts n l
fulls_tops n zero = refl
fulls_tops zero (suc l) = ap (λ (bs : List Bool). false ∷ bs) (fulls_tops zero l)
fulls_tops (suc n) (suc l) = ap (λ (bs : List Bool). true ∷ bs) (fulls_tops n l)

fulls_number : (n l : ℕ) → n ≤ l → number (fulls n l) + 1 ≡ 256 ^ n
fulls_number zero zero h = refl
fulls_number zero (suc l) h = omega (arith, fulls_number zero l (omega arith))
fulls_number (suc n) zero h = absurd (omega arith)
fulls_number (suc n) (suc l) h = omega (arith, fulls_number n l (omega arith), pow-suc 256 n)

-- EQUAL MARKS
same_marks : (a c : ℕ) (b d : Bool) → eqb (a * 256 + cond b 128 0) (c * 256 + cond d 128 0) ≡ (cond d b (not b) && eqb a c)
same_marks a c b d = go b d (eqb a c) refl
  where
    go : (b d t : Bool) → eqb a c ≡ t → eqb (a * 256 + cond b 128 0) (c * 256 + cond d 128 0) ≡ (cond d b (not b) && t)
    go true true true e = eq-eqb (a * 256 + 128) (c * 256 + 128) (omega (arith, eqb-true a c e))
    go true true false e = ne_eqb (a * 256 + 128) (c * 256 + 128) (λ q. eqb-false a c e (omega arith))
    go true false t e = ne_eqb (a * 256 + 128) (c * 256 + 0) (λ q. omega arith)
    go false true t e = ne_eqb (a * 256 + 0) (c * 256 + 128) (λ q. omega arith)
    go false false true e = eq-eqb (a * 256 + 0) (c * 256 + 0) (omega (arith, eqb-true a c e))
    go false false false e = ne_eqb (a * 256 + 0) (c * 256 + 0) (λ q. eqb-false a c e (omega arith))

-- after the keys it does not matter whether they were to rise
places_zero : (r q : Bool) (a b : ℕ) (xs : List ℕ) → key_places r 0 a xs ≡ key_places q 0 b xs
unfolding key_places
places_zero r q a b [] = refl
places_zero r q a b (x ∷ xs) = ap (λ (t : Bool). eqb x 0 && t) (places_zero r q a b xs)

-- KEYS in their places: each is above its floor exactly up to the count
module _ (rise : Bool) where
  pub places_kept : (n low : ℕ) (xs : List ℕ) → key_places rise n low xs ≡ true → Each (λ (x : ℕ). x ≤ 64) xs
  unfolding key_places
  places_kept n low [] e = tt
  places_kept zero low (x ∷ xs) e = let z : x ≡ 0 = eqb-true x 0 (and_left (eqb x 0) _ e) in (omega arith, places_kept zero low xs (and_right (eqb x 0) _ e))
  places_kept (suc n) low (x ∷ xs) e = (leb-true x 64 (and_right (ltb low x) (leb x 64) (and_left (key_above low x) _ e)), places_kept n (floor_after rise x) xs (and_right (key_above low x) _ e))

  pub places_after : (n low : ℕ) (xs : List ℕ) → key_places rise n low xs ≡ true → all_zero (drop n xs) ≡ true
  unfolding key_places all_zero
  places_after zero low [] e = refl
  places_after (suc n) low [] e = refl
  places_after zero low (x ∷ xs) e = rw (and_left (eqb x 0) _ e) (places_after zero low xs (and_right (eqb x 0) _ e))
  places_after (suc n) low (x ∷ xs) e = places_after n (floor_after rise x) xs (and_right (key_above low x) _ e)

  places_marks : (n low : ℕ) (xs : List ℕ) → Each (λ (x : ℕ). x ≤ 64) xs → all_zero (drop n xs) ≡ true → eqb (marks (ups rise low xs)) (marks (firsts n (length xs))) ≡ key_places rise n low xs
  unfolding key_places all_zero
  places_marks n low [] h z = refl
  places_marks zero low (x ∷ xs) h z =
      let e : eqb x 0 ≡ true = and_left (eqb x 0) (all_zero xs) z in
      let none : ltb low x ≡ false = le-ltb low x (omega (arith, eqb-true x 0 e)) in
      same_marks (marks (ups rise (floor_after rise x) xs)) (marks (firsts zero (length xs))) (ltb low x) false
      ∙ rw (none, e) (places_marks zero (floor_after rise x) xs h.1 (and_right (eqb x 0) (all_zero xs) z) ∙ places_zero rise rise (floor_after rise x) low xs)
  places_marks (suc n) low (x ∷ xs) h z =
      same_marks (marks (ups rise (floor_after rise x) xs)) (marks (firsts n (length xs))) (ltb low x) true
      ∙ rw (le-leb x 64 h.0, and-true (ltb low x)) (ap (λ (b : Bool). ltb low x && b) (places_marks n (floor_after rise x) xs h.1 z))

-- EIGHT BYTES where they stand
abbrev TOPS : ℕ
TOPS = number (replicate 8 128)

abbrev SEVENS : ℕ
SEVENS = number (replicate 8 127)

abbrev SIXTY-THREES : ℕ
SIXTY-THREES = number (replicate 8 63)

less : (a b c : ℕ) → c + b ≡ a → a - b ≡ c
less a b c e = omega arith

low_number : (xs : List ℕ) → Each (λ (x : ℕ). x < 128) xs → number xs ≤ number (replicate (length xs) 127)
low_number [] h = omega arith
low_number (x ∷ xs) h = omega (arith, h.0, low_number xs h.1)

below_128 : (xs : List ℕ) → Each (λ (x : ℕ). x ≤ 64) xs → Each (λ (x : ℕ). x < 128) xs
below_128 [] h = tt
below_128 (x ∷ xs) h = (omega (arith, h.0), below_128 xs h.1)

plus_bytes : (xs : List ℕ) → Each (λ (x : ℕ). x < 128) xs → Bytes (plus 63 xs)
plus_bytes [] h = tt
plus_bytes (x ∷ xs) h = (omega (arith, h.0), plus_bytes xs h.1)

plus_low : (xs : List ℕ) → Each (λ (x : ℕ). x ≤ 64) xs → Each (λ (x : ℕ). x < 128) (plus 63 xs)
plus_low [] h = tt
plus_low (x ∷ xs) h = (omega (arith, h.0), plus_low xs h.1)

low_plus : (xs : List ℕ) → Each (λ (x : ℕ). x < 128) (plus 63 xs) → Each (λ (x : ℕ). x ≤ 64) xs
low_plus [] h = tt
low_plus (x ∷ xs) h = (omega (arith, h.0), low_plus xs h.1)

module _ (s : List ℕ) (at : ℕ) where
  -- as one number
  number_of : le64 s at ≡ number (bytes8 s at)
  number_of = omega arith

  module _ (b : (i : ℕ) → get_or s i 0 < 256) where
    bytes_of : Bytes (bytes8 s at)
    bytes_of = (b at, (b (at + 1), (b (at + 2), (b (at + 3), (b (at + 4), (b (at + 5), (b (at + 6), (b (at + 7), tt))))))))

    floors_of : (rise : Bool) → number (floors rise 0 (bytes8 s at)) ≡ cond rise (number (bytes8 s at) % 2 ^ 56 * 256) 0
    floors_of false = refl
    floors_of true =
        let c0 = b at in
        let c1 = b (at + 1) in
        let c2 = b (at + 2) in
        let c3 = b (at + 3) in
        let c4 = b (at + 4) in
        let c5 = b (at + 5) in
        let c6 = b (at + 6) in
        omega (arith, c0, c1, c2, c3, c4, c5, c6)

    abbrev xs : List ℕ
    xs = bytes8 s at

    low_of : bit_and (le64 s at) TOPS ≡ 0 → Each (λ (x : ℕ). x < 128) xs
    low_of e = low_tops xs (sym (and_tops xs bytes_of) ∙ ap (λ (k : ℕ). bit_and k TOPS) (sym number_of) ∙ e)

    -- the sums have 64 bits
    pub sum_fits : bit_and (le64 s at) TOPS ≡ 0 → le64 s at ≤ SEVENS
    sum_fits e = rw number_of (low_number xs (low_of e))

    sum_63 : le64 s at + SIXTY-THREES ≡ number (plus 63 xs)
    sum_63 = ap (λ (k : ℕ). k + SIXTY-THREES) number_of ∙ sym (number_plus 63 xs)

    module _ (rise : Bool) where
      abbrev below : ℕ
      below = cond rise (le64 s at % 2 ^ 56 * 256) 0

      below_of : below ≡ number (floors rise 0 xs)
      below_of = ap (λ (k : ℕ). cond rise (k % 2 ^ 56 * 256) 0) number_of ∙ sym (floors_of rise)

      -- no byte borrows from the next
      pub below_fits : bit_and (le64 s at) TOPS ≡ 0 → below ≤ le64 s at + SEVENS
      below_fits e = omega (arith, number_diffs rise 0 xs (omega arith) (low_of e), below_of, number_of)

      module _ (n : ℕ) where
        abbrev ok : Bool
        ok = key_places rise n 0 xs

        pub ok_few : ok ≡ true → le64 s at < 256 ^ n
        ok_few e = rw number_of (few_after n xs bytes_of (places_after rise n 0 xs e))

        pub ok_low : ok ≡ true → bit_and (le64 s at) TOPS ≡ 0
        ok_low e = ap (λ (k : ℕ). bit_and k TOPS) number_of ∙ and_tops xs bytes_of ∙ tops_low xs (below_128 xs (places_kept rise n 0 xs e))

        pub ok_64 : ok ≡ true → bit_and (le64 s at + SIXTY-THREES) TOPS ≡ 0
        ok_64 e =
            ap (λ (k : ℕ). bit_and k TOPS) sum_63 ∙ and_tops (plus 63 xs) (plus_bytes xs (below_128 xs (places_kept rise n 0 xs e)))
            ∙ tops_low (plus 63 xs) (plus_low xs (places_kept rise n 0 xs e))

        module _ (few : n ≤ 8) (most : ℕ) (q : most + 1 ≡ 256 ^ n) where
          most_marks : bit_and most TOPS ≡ marks (firsts n 8)
          most_marks =
              let e : most ≡ number (fulls n 8) = omega (arith, q, fulls_number n 8 few) in
              ap (λ (k : ℕ). bit_and k TOPS) e ∙ ap (λ (k : ℕ). bit_and (number (fulls n 8)) (number (replicate k 128))) (sym (fulls_length n 8)) ∙ and_tops (fulls n 8) (fulls_bytes n 8)
              ∙ ap marks (fulls_tops n 8)

          pub ok_marks : bit_and (le64 s at) TOPS ≡ 0 → bit_and (le64 s at + SIXTY-THREES) TOPS ≡ 0 → le64 s at ≤ most → eqb (bit_and (le64 s at + SEVENS - below) TOPS) (bit_and most TOPS) ≡ ok
          ok_marks a c l =
              let low = low_of a in
              let kept = low_plus xs (low_tops (plus 63 xs) (sym (and_tops (plus 63 xs) (plus_bytes xs low)) ∙ ap (λ (k : ℕ). bit_and k TOPS) (sym sum_63) ∙ c)) in
              let d : le64 s at + SEVENS - below ≡ number (diffs rise 0 xs) =
              less (le64 s at + SEVENS) below (number (diffs rise 0 xs)) (ap (λ (k : ℕ). number (diffs rise 0 xs) + k) below_of ∙ number_diffs rise 0 xs (omega arith) low ∙ ap (λ (k : ℕ). k + SEVENS) (sym number_of)) in
              let m : bit_and (le64 s at + SEVENS - below) TOPS ≡ marks (ups rise 0 xs) =
              ap (λ (k : ℕ). bit_and k TOPS) d ∙ and_tops (diffs rise 0 xs) (diffs_bytes rise 0 xs low) ∙ ap marks (tops_diffs rise 0 xs (omega arith) low) in
              ap₂ eqb m most_marks ∙ places_marks rise n 0 xs kept (zeros_after n xs (omega (arith, l, q, number_of)))

-- FOUR LABELS in eight bytes
one_label : (a b : ℕ) {r q : Bool} → r ≡ q → (eqb a 0 && (eqb b 0 && r)) ≡ (eqb (a + b * 256) 0 && q)
one_label a b {r} {q} e = go (eqb a 0) refl (eqb b 0) refl
  where
    go : (x : Bool) → eqb a 0 ≡ x → (y : Bool) → eqb b 0 ≡ y → (x && (y && r)) ≡ (eqb (a + b * 256) 0 && q)
    go true f true g = rw (eq-eqb (a + b * 256) 0 (omega (arith, eqb-true a 0 f, eqb-true b 0 g))) e
    go true f false g = rw (ne_eqb (a + b * 256) 0 (λ z. eqb-false b 0 g (omega arith))) refl
    go false f y g = rw (ne_eqb (a + b * 256) 0 (λ z. eqb-false a 0 f (omega arith))) refl

module _ (s : List ℕ) (at : ℕ) where
  -- the label whose two bytes stand k after `at`
  label_at : (k : ℕ) {r q : Bool} → r ≡ q → (eqb (get_or s (at + 1 + k) 0) 0 && (eqb (get_or s (at + 1 + (k + 1)) 0) 0 && r)) ≡ (eqb (le16 s (at + (k + 1))) 0 && q)
  label_at k {r} {q} e =
      let i : at + 1 + k ≡ at + (k + 1) = omega arith in
      let j : at + 1 + (k + 1) ≡ at + (k + 1) + 1 = omega arith in
      (λ t. eqb (get_or s (i t) 0) 0 && (eqb (get_or s (j t) 0) 0 && r)) ∙ one_label (get_or s (at + (k + 1)) 0) (get_or s (at + (k + 1) + 1) 0) e

  label_bytes : (n : ℕ) → n ≤ 4 → all_zero (drop (2 * n) (bytes8 s (at + 1))) ≡ all_zero (drop n (labels_at s at).label)
  unfolding all_zero
  label_bytes zero h = one_label (get_or s (at + 1) 0) (get_or s (at + 1 + 1) 0) (label_at 2 (label_at 4 (label_at 6 refl)))
  label_bytes (suc zero) h = label_at 2 (label_at 4 (label_at 6 refl))
  label_bytes (suc (suc zero)) h = label_at 4 (label_at 6 refl)
  label_bytes (suc (suc (suc zero))) h = label_at 6 refl
  label_bytes (suc (suc (suc (suc zero)))) h = refl
  label_bytes (suc (suc (suc (suc (suc n))))) h = absurd (omega arith)

  pub labels_few : ((i : ℕ) → get_or s i 0 < 256) → (n : ℕ) → n ≤ 4 → (most : ℕ) → most + 1 ≡ 256 ^ (2 * n) → leb (le64 s (at + 1)) most ≡ all_zero (drop n (labels_at s at).label)
  labels_few b n h most q = go (leb (le64 s (at + 1)) most) refl (all_zero (drop (2 * n) (bytes8 s (at + 1)))) refl ∙ label_bytes n h
    where
      go : (x : Bool) → leb (le64 s (at + 1)) most ≡ x → (y : Bool) → all_zero (drop (2 * n) (bytes8 s (at + 1))) ≡ y → x ≡ y
      go true e true f = refl
      go false e false f = refl
      go true e false f = sym (zeros_after (2 * n) (bytes8 s (at + 1)) (omega (arith, leb-true (le64 s (at + 1)) most e, q, number_of s (at + 1)))) ∙ f
      go false e true f = absurd (omega (arith, leb-false (le64 s (at + 1)) most e, q, number_of s (at + 1), few_after (2 * n) (bytes8 s (at + 1)) (bytes_of s (at + 1) b) f))
