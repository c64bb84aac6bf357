-- Laws of `all_zero`: it is whether the greatest element is zero, what it says of each element, and of two parts.
-- Assumes nothing.
use mathlib.Core.Path.{◌≡◌, refl, sym, ap, ◌∙◌}
use Prim.Native.Nat.{ℕ, zero, suc, ◌+◌, ◌-◌, ◌≤◌, ◌<◌}
use native.Mathlib.Decide.{dec_lt}
use mathlib.Core.Bool.{Bool, true, false, ◌&&◌, true≢false}
use mathlib.Core.List.{List, [], ◌∷◌}
use lib.Dec.{eqb}
use lib.ListN.{length, get_or, take, drop, length-take, get_or-eq_default}
use lib.Seq.{get_or-take, get_or-drop}
use Rattle.std.specs.List.{fold, zip}
use Rattle.std.specs.Prelude.{max}
use borrow.Author.Tests.{eq-eqb, ne_eqb, eqb-true}
use native.Mathlib.Omega.{arith}
use Rattle.records.specs.Inner.Numbers.{all_zero}

zero_max : (a b : ℕ) → eqb (max a b) 0 ≡ (eqb a 0 && eqb b 0)
zero_max zero b = ap (λ (n : ℕ). eqb n 0) (omega arith)
zero_max (suc a) b = rw (ne_eqb (suc a) 0 (λ e. omega arith)) (ne_eqb (max (suc a) b) 0 (λ e. omega arith))

empty_not : {n : ℕ} → 0 ≡ suc n → ⊥
empty_not e = omega (arith, e)

-- the greatest of each of two lists of one length
pub zero_pairs : (a b : List ℕ) (x y : ℕ) → length a ≡ length b → let r = fold (λ (p q : ℕ × ℕ). (max p.0 q.0, max p.1 q.1)) (x, y) (zip a b) in (eqb r.0 0 && eqb r.1 0) ≡ ((eqb x 0 && all_zero a) && (eqb y 0 && all_zero b))
unfolding all_zero
zero_pairs [] [] x y e = go (eqb x 0) (eqb y 0)
  where
    go : (s t : Bool) → (s && t) ≡ ((s && true) && (t && true))
    go true true = refl
    go true false = refl
    go false t = refl
zero_pairs [] (v ∷ vs) x y e = absurd (empty_not e)
zero_pairs (u ∷ us) [] x y e = absurd (empty_not (sym e))
zero_pairs (u ∷ us) (v ∷ vs) x y e =
    zero_pairs us vs (max x u) (max y v) (omega (arith, e))
    ∙ (λ i. (zero_max x u i && all_zero us) && (zero_max y v i && all_zero vs))
    ∙ (λ i. grouped (eqb x 0) (eqb u 0) (all_zero us) i && grouped (eqb y 0) (eqb v 0) (all_zero vs) i)
  where
    grouped : (a b c : Bool) → ((a && b) && c) ≡ (a && (b && c))
    grouped true b c = refl
    grouped false b c = refl

pub zeros : (s : List ℕ) → all_zero s ≡ true → (i : ℕ) → get_or s i 0 ≡ 0
unfolding all_zero
zeros [] e i = refl
zeros (x ∷ xs) e i = go (eqb x 0) refl e i (zeros xs)
  where
    go : (b : Bool) → eqb x 0 ≡ b → (b && all_zero xs) ≡ true → (i : ℕ) → (all_zero xs ≡ true → (j : ℕ) → get_or xs j 0 ≡ 0) → get_or (x ∷ xs) i 0 ≡ 0
    go true q e zero f = eqb-true x 0 q
    go true q e (suc i) f = f e i
    go false q e i f = absurd (true≢false (sym e))

pub all_zeros : (s : List ℕ) → ((i : ℕ) → get_or s i 0 ≡ 0) → all_zero s ≡ true
unfolding all_zero
all_zeros [] f = refl
all_zeros (x ∷ xs) f = rw (eq-eqb x 0 (f 0)) (all_zeros xs (λ i. f (suc i)))

zero_take : (n : ℕ) (s : List ℕ) → all_zero s ≡ true → all_zero (take n s) ≡ true
zero_take n s e = all_zeros (take n s) (λ i. go i (dec_lt i n))
  where
    go : (i : ℕ) → Dec (i < n) → get_or (take n s) i 0 ≡ 0
    go i (yes l) = get_or-take n s i 0 l ∙ zeros s e i
    go i (no l) = get_or-eq_default (take n s) 0 (omega (arith, length-take n s))

zero_drop : (k : ℕ) (s : List ℕ) → all_zero s ≡ true → all_zero (drop k s) ≡ true
zero_drop k s e = all_zeros (drop k s) (λ i. get_or-drop k s i 0 ∙ zeros s e (k + i))

-- two parts that cover a list, and may share elements
module _ (s : List ℕ) (n k : ℕ) (h : k ≤ n) where
  covered : all_zero (take n s) ≡ true → all_zero (drop k s) ≡ true → all_zero s ≡ true
  covered a b = all_zeros s (λ i. go i (dec_lt i n))
    where
      go : (i : ℕ) → Dec (i < n) → get_or s i 0 ≡ 0
      go i (yes l) = sym (get_or-take n s i 0 l) ∙ zeros (take n s) a i
      go i (no l) = let q : i ≡ k + (i - k) = omega arith in ap (λ (j : ℕ). get_or s j 0) q ∙ sym (get_or-drop k s (i - k) 0) ∙ zeros (drop k s) b (i - k)

  pub zero_parts : (all_zero (take n s) && all_zero (drop k s)) ≡ all_zero s
  zero_parts = go (all_zero s) refl (all_zero (take n s)) refl (all_zero (drop k s)) refl
    where
      go : (w : Bool) → all_zero s ≡ w → (a : Bool) → all_zero (take n s) ≡ a → (b : Bool) → all_zero (drop k s) ≡ b → (a && b) ≡ w
      go w e true p true q = sym (covered p q) ∙ e
      go true e false p b q = sym p ∙ zero_take n s e
      go true e true p false q = sym q ∙ zero_drop k s e
      go false e false p b q = refl
      go false e true p false q = refl
