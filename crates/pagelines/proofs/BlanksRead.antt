-- Laws of `past_blanks`: what stands before and after, byte by byte, and fields set right or left.
-- Assumes nothing.
use Prim.Native.Nat.{ℕ, zero, suc, ◌-◌, ◌<◌}
use mathlib.Core.Bool.{Bool, true, false}
use mathlib.Core.Path.{◌≡◌, refl, sym, ap, ◌∙◌}
use mathlib.Core.List.{List, [], ◌∷◌, ◌++◌}
use native.Mathlib.Omega.{arith}
use borrow.Author.Tests.{eq-eqb, ne_eqb, eqb-true, eqb-false}
use lib.Dec.{eqb}
use lib.ListN.{length, drop, get_or, replicate, length-append, length-replicate}
use Rattle.text.specs.Text.{decimal}
use Rattle.text.proofs.Decimals.{Figures, decimal_is}
use Rattle.pagelines.specs.Page.{set_right}
use Rattle.pagelines.specs.Inner.Columns.{past_blanks}

past_nil : past_blanks [] ≡ []
unfolding past_blanks
past_nil = refl

past_blank : (c : ℕ) (cs : List ℕ) → c ≡ 32 → past_blanks (c ∷ cs) ≡ past_blanks cs
unfolding past_blanks
past_blank c cs e = rw (eq-eqb c 32 e, past_blanks)

past_other : (c : ℕ) (cs : List ℕ) → (c ≡ 32 → ⊥) → past_blanks (c ∷ cs) ≡ c ∷ cs
unfolding past_blanks
past_other c cs e = rw (ne_eqb c 32 e, past_blanks)

-- ---- the search

-- from the first byte that is no blank on
pub past_first : (s : List ℕ) (m : ℕ) → m < length s → (get_or s m 0 ≡ 32 → ⊥) → ((k : ℕ) → k < m → get_or s k 0 ≡ 32) → drop m s ≡ past_blanks s
past_first [] m h ne blank = absurd (omega arith)
past_first (c ∷ cs) zero h ne blank = sym (past_other c cs ne)
past_first (c ∷ cs) (suc m) h ne blank =
    past_first cs m (omega arith) ne (λ k l. blank (suc k) (omega arith)) ∙ sym (past_blank c cs (blank 0 (omega arith)))

pub past_none : (s : List ℕ) → ((k : ℕ) → k < length s → get_or s k 0 ≡ 32) → [] ≡ past_blanks s
past_none [] blank = sym past_nil
past_none (c ∷ cs) blank = past_none cs (λ k l. blank (suc k) (omega arith)) ∙ sym (past_blank c cs (blank 0 (omega arith)))

-- ---- what stands before and after

-- a list is blanks, then what is past them
pub record Parted (s : List ℕ) : Type 0 where
  pub blanks : ℕ
  pub same : s ≡ replicate blanks 32 ++ past_blanks s

pub parted : (s : List ℕ) → Parted s
parted [] = record { blanks = 0; same = sym past_nil }
parted (c ∷ cs) = go (eqb c 32) refl (parted cs)
  where
    go : (b : Bool) → eqb c 32 ≡ b → Parted cs → Parted (c ∷ cs)
    go true e ih =
        let h = eqb-true c 32 e in
        record { blanks = suc ih.blanks; same = (λ i. h i ∷ ih.same i) ∙ ap (λ (r : List ℕ). replicate (suc ih.blanks) 32 ++ r) (sym (past_blank c cs h)) }
    go false e ih = record { blanks = 0; same = sym (past_other c cs (eqb-false c 32 e)) }

past_over : (k : ℕ) (t : List ℕ) → past_blanks (replicate k 32 ++ t) ≡ past_blanks t
past_over zero t = refl
past_over (suc k) t = past_blank 32 (replicate k 32 ++ t) refl ∙ past_over k t

past_figures : (l : List ℕ) → Figures l → past_blanks l ≡ l
past_figures [] d = past_nil
past_figures (c ∷ cs) d = past_other c cs (λ e. omega (arith, d.0))

-- ---- fields

-- what is past the blanks of a number set right is the number's text
pub past_right : (columns v : ℕ) → past_blanks (set_right columns (decimal v)) ≡ decimal v
unfolding set_right
past_right columns v = past_over (columns - length (decimal v)) (decimal v) ∙ past_figures (decimal v) (decimal_is v).figures

-- and a field whose text past the blanks is this one is set right
pub is_right : (s t : List ℕ) (columns : ℕ) → length s ≡ columns → past_blanks s ≡ t → s ≡ set_right columns t
unfolding set_right
is_right s t columns n e =
    let p = parted s in
    let q : s ≡ replicate p.blanks 32 ++ t = p.same ∙ ap (λ (r : List ℕ). replicate p.blanks 32 ++ r) e in
    let k : p.blanks ≡ columns - length t = omega (arith, n, ap length q, length-append (replicate p.blanks 32) t, length-replicate {A = ℕ} p.blanks 32) in
    q ∙ ap (λ (j : ℕ). replicate j 32 ++ t) k

-- blanks and nothing else
pub only_blanks : (s : List ℕ) → ((k : ℕ) → k < length s → get_or s k 0 ≡ 32) → s ≡ replicate (length s) 32
only_blanks [] blank = refl
only_blanks (c ∷ cs) blank = λ i. blank 0 (omega arith) i ∷ only_blanks cs (λ k l. blank (suc k) (omega arith)) i
