-- Laws of `to_text`: it holds no space, and it determines the targets.
-- Assumes nothing.
use Prim.Native.Nat.{ℕ, ◌<◌}
use mathlib.Core.Path.{◌≡◌, refl, sym, ap}
use mathlib.Core.List.{List, [], ◌∷◌, ◌++◌}
use native.Mathlib.Omega.{arith}
use lib.ListN.{length, get_or}
use Rattle.graph.specs.Targets.{To, named, whole}
use Rattle.text.specs.Text.{ascii, decimal, further, commas}
use Rattle.text.proofs.Decimals.{Figures, decimal_is}
use Rattle.text.proofs.Splits.{Clean}
use Rattle.text.proofs.CommaLists.{commas_inj, commas_clean}
use Rattle.lines.specs.Forms.{to_text}

-- a list begins with a digit, if with anything, and `all` with a letter
pub first_below : (ts : List ℕ) → get_or (commas ts) 0 0 < 97
unfolding commas
first_below [] = omega arith
first_below (t ∷ ts) = go (decimal t) (decimal_is t).figures (decimal_is t).some
  where
    go : (l : List ℕ) → Figures l → 0 < length l → get_or (l ++ further ts) 0 0 < 97
    go [] d h = absurd (omega arith)
    go (c ∷ cs) d h = omega (arith, d.1)

not_all : (ts : List ℕ) → commas ts ≡ ascii "all" → ⊥
unfolding ascii
not_all ts e = omega (arith, first_below ts, ap (λ (l : List ℕ). get_or l 0 0) e)

pub to_inj : (to other : To) → to_text to ≡ to_text other → to ≡ other
to_inj (named ts) (named us) e = ap named (commas_inj ts us e)
to_inj (named ts) whole e = absurd (not_all ts e)
to_inj whole (named us) e = absurd (not_all us (sym e))
to_inj whole whole e = refl

pub to_clean : (stop : ℕ) → stop < 44 → (to : To) → Clean stop (to_text to)
unfolding ascii
to_clean stop h (named ts) = commas_clean stop h ts
to_clean stop h whole = (λ e. omega arith, (λ e. omega arith, (λ e. omega arith, tt)))
