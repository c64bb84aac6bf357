-- The signed order is the unsigned order of the numbers in offset binary.
-- Assumes nothing.
use mathlib.Core.Path.{◌≡◌, refl, sym, ◌∙◌, ap, subst}
use Prim.Native.Nat.{ℕ, suc, ◌-◌, ◌^◌, ◌<◌, ◌≤◌, zero-le}
use native.Mathlib.Nat.{le_of_lt}
use native.Mathlib.Omega.{arith}
use mathlib.Core.Bool.{Bool, true, false, cond, not}
use lib.Dec.{T, ltb, ltb→lt, le→leb}
use lib.IntN.{ℤ, pos, negsuc, ◌-ℤ◌}
use lib.Signed.{lt_z, le_z, ◌≤ℤ◌, le_z_yes, lt_z_yes, lt_z_no, <ℤ-≤ℤ_trans, clash_ℤ}
use borrow.Author.Tests.{lt-ltb, le-ltb, ltb-true, ltb-false}
use Rattle.graph.specs.Words.{modulus, signed}
use Rattle.graph.specs.Cases.{LeastSigned}
use Rattle.graph.specs.Affine.{plus}

-- how far a number lies, as a signed one, above the least; that of 2,147,483,648 is 0
abbrev pub biased : ℕ → ℕ
biased v = plus v 2147483648

same_order : (a b c d : ℕ) → (a < b → c < d) → (b ≤ a → d ≤ c) → ltb a b ≡ ltb c d
same_order a b c d f g = go (ltb a b) refl
  where
    go : (t : Bool) → ltb a b ≡ t → t ≡ ltb c d
    go true e = sym (lt-ltb c d (f (ltb-true a b e)))
    go false e = sym (le-ltb c d (g (ltb-false a b e)))

-- how a number is read: as itself, or as itself less 4,294,967,296
data Reading (v : ℕ) : Type 0 where
  non_negative : v < 2 ^ 31 → signed v ≡ pos v → Reading v
  negative : 2 ^ 31 ≤ v → signed v ≡ negsuc (modulus - suc v) → Reading v

reading : (v : ℕ) → v < modulus → Reading v
reading v h = go (ltb v (2 ^ 31)) refl
  where
    by : Bool → ℤ
    by t = cond t (pos v) (pos v -ℤ pos modulus)

    go : (t : Bool) → ltb v (2 ^ 31) ≡ t → Reading v
    go true e = non_negative (ltb-true v (2 ^ 31) e) (ap by e)
    go false e = negative (ltb-false v (2 ^ 31) e) (ap by e ∙ ap (λ (t : Bool). cond t (negsuc (modulus - suc v)) (pos (v - modulus))) (lt-ltb v modulus h))

pub signed_order : (h v : ℕ) → h < modulus → v < modulus → lt_z (signed h) (signed v) ≡ ltb (biased h) (biased v)
signed_order h v k l = go (reading h k) (reading v l)
  where
    go : Reading h → Reading v → lt_z (signed h) (signed v) ≡ ltb (biased h) (biased v)
    go (non_negative e p) (non_negative f q) = (λ i. lt_z (p i) (q i)) ∙ same_order h v (biased h) (biased v) (λ o. omega arith) (λ o. omega arith)
    go (non_negative e p) (negative f q) = (λ i. lt_z (p i) (q i)) ∙ sym (le-ltb (biased h) (biased v) (omega arith))
    go (negative e p) (non_negative f q) = (λ i. lt_z (p i) (q i)) ∙ sym (lt-ltb (biased h) (biased v) (omega arith))
    go (negative e p) (negative f q) = (λ i. lt_z (p i) (q i)) ∙ same_order (modulus - suc v) (modulus - suc h) (biased h) (biased v) (λ o. omega arith) (λ o. omega arith)

-- LAWS OF THE ORDER that lib.Signed does not have
less_le : (a b : ℤ) → T (lt_z a b) → T (le_z a b)
less_le (pos a) (pos b) t = le→leb a b (le_of_lt (ltb→lt a b t))
less_le (pos a) (negsuc b) t = t
less_le (negsuc a) (pos b) t = t
less_le (negsuc a) (negsuc b) t = le→leb b a (le_of_lt (ltb→lt b a t))

pub lt_z_true_le : (a b : ℤ) → lt_z a b ≡ true → a ≤ℤ b
lt_z_true_le a b e = le_z_yes (less_le a b (subst T (sym e) tt))

pub lt_z_false_le : (a b : ℤ) → lt_z a b ≡ false → b ≤ℤ a
lt_z_false_le a b e = lt_z_no (subst (λ (t : Bool). T (not t)) (sym e) tt)

pub ≤ℤ-trans : {a b c : ℤ} → a ≤ℤ b → b ≤ℤ c → a ≤ℤ c
≤ℤ-trans {a} {b} {c} h k = go (lt_z c a) refl
  where
    go : (t : Bool) → lt_z c a ≡ t → a ≤ℤ c
    go true e = clash_ℤ (<ℤ-≤ℤ_trans (lt_z_yes (subst T (sym e) tt)) h) k
    go false e = lt_z_false_le c a e

pub signed_least : LeastSigned
signed_least v h = lt_z_false_le (signed v) (signed 2147483648) (signed_order v 2147483648 h (omega arith) ∙ le-ltb (biased v) (biased 2147483648) zero-le)
