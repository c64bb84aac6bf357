-- Laws of `commas`: how a list of numbers grows, that its text determines it, and how long one of keys is.
-- Assumes nothing.
use Prim.Native.Nat.{ℕ, ◌*◌, ◌<◌, ◌≤◌}
use mathlib.Core.Path.{◌≡◌, refl, sym, ap, ◌∙◌}
use mathlib.Core.Bool.{true}
use mathlib.Core.List.{List, [], ◌∷◌, ◌++◌, append_assoc}
use native.Mathlib.Omega.{arith}
use lib.ListN.{length, drop, length-append}
use Rattle.text.specs.Text.{decimal, further, commas, texts}
use Rattle.text.specs.Inner.PartsRead.{Gap}
use Rattle.graph.specs.KeyLists.{is_key, are_keys}
use Rattle.graph.proofs.Answers.{and_left, and_right}
use Rattle.graph.proofs.KeyLaws.{key_high}
use Rattle.text.proofs.Decimals.{decimal_is, len_two}
use Rattle.text.proofs.Splits.{Clean, decimal_clean, same_number}

pub further_gap : (ts : List ℕ) → Gap 44 (further ts)
unfolding further
further_gap [] = tt
further_gap (t ∷ ts) = refl

pub further_append : (a b : List ℕ) → further (a ++ b) ≡ further a ++ further b
unfolding further
further_append [] b = refl
further_append (t ∷ a) b =
    ap (λ (r : List ℕ). 44 ∷ (decimal t ++ r)) (further_append a b) ∙ ap (λ (r : List ℕ). 44 ∷ r) (sym (append_assoc (decimal t) (further a) (further b)))

-- ---- the text determines the list

some_digit : (t : ℕ) (x : List ℕ) → [] ≡ decimal t ++ x → ⊥
some_digit t x e = omega (arith, (decimal_is t).some, ap length e, length-append (decimal t) x)

further_inj : (ts us : List ℕ) → further ts ≡ further us → ts ≡ us
unfolding further
further_inj [] [] e = refl
further_inj [] (u ∷ us) e = let z : ◌≡◌ {A = ℕ} 0 1 = cc in absurd (omega arith)
further_inj (t ∷ ts) [] e = let z : ◌≡◌ {A = ℕ} 0 1 = cc in absurd (omega arith)
further_inj (t ∷ ts) (u ∷ us) e =
    let p = same_number 44 (omega arith) t u (further ts) (further us) (ap (drop 1) e) (further_gap ts) (further_gap us) in
    let q : ts ≡ us = further_inj ts us p.1 in
    let h : t ≡ u = p.0 in cc

pub commas_inj : (ts us : List ℕ) → commas ts ≡ commas us → ts ≡ us
unfolding commas
commas_inj [] [] e = refl
commas_inj [] (u ∷ us) e = absurd (some_digit u (further us) e)
commas_inj (t ∷ ts) [] e = absurd (some_digit t (further ts) (sym e))
commas_inj (t ∷ ts) (u ∷ us) e =
    let p = same_number 44 (omega arith) t u (further ts) (further us) e (further_gap ts) (further_gap us) in
    let q : ts ≡ us = further_inj ts us p.1 in
    let h : t ≡ u = p.0 in cc

-- ---- a list holds no byte below the comma: no newline, no space

pub clean_append : (stop : ℕ) (a b : List ℕ) → Clean stop a → Clean stop b → Clean stop (a ++ b)
clean_append stop [] b p q = q
clean_append stop (x ∷ a) b p q = (p.0, clean_append stop a b p.1 q)

further_clean : (stop : ℕ) → stop < 44 → (ts : List ℕ) → Clean stop (further ts)
unfolding further
further_clean stop h [] = tt
further_clean stop h (t ∷ ts) =
    (λ e. omega arith, clean_append stop (decimal t) (further ts) (decimal_clean stop (omega arith) t) (further_clean stop h ts))

pub commas_clean : (stop : ℕ) → stop < 44 → (ts : List ℕ) → Clean stop (commas ts)
unfolding commas
commas_clean stop h [] = tt
commas_clean stop h (t ∷ ts) = clean_append stop (decimal t) (further ts) (decimal_clean stop (omega arith) t) (further_clean stop h ts)

-- ---- the lengths of lists of keys

pub key_short : (t : ℕ) → is_key t ≡ true → length (decimal t) ≤ 2
key_short t h = len_two t (omega (arith, key_high t h))

further_short : (ts : List ℕ) → are_keys ts ≡ true → length (further ts) ≤ 3 * length ts
unfolding further
further_short [] h = omega arith
further_short (t ∷ ts) h = omega (arith, further_short ts (and_right (is_key t) _ h), length-append (decimal t) (further ts), key_short t (and_left _ _ h))

-- eight keys of two digits and seven commas
pub commas_short : (ts : List ℕ) → are_keys ts ≡ true → length ts ≤ 8 → length (commas ts) ≤ 23
unfolding commas
commas_short [] h n = omega arith
commas_short (t ∷ ts) h n = omega (arith, n, further_short ts (and_right (is_key t) _ h), length-append (decimal t) (further ts), key_short t (and_left _ _ h))

-- ---- texts one after another

pub texts_append : {A : Type 0} (text : A → List ℕ) (xs ys : List A) → texts text (xs ++ ys) ≡ texts text xs ++ texts text ys
texts_append text [] ys = refl
texts_append text (x ∷ xs) ys =
    ap (λ (r : List ℕ). text x ++ r) (texts_append text xs ys) ∙ sym (append_assoc (text x) (texts text xs) (texts text ys))
