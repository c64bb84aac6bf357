-- Whether a text begins with another.
-- Assumes nothing.
use mathlib.Core.Path.{◌≡◌, refl, sym, ap, ◌∙◌}
use mathlib.Core.Bool.{Bool, true, false, cond, false≢true}
use mathlib.Core.List.{List, [], ◌∷◌, ◌++◌}
use Prim.Native.Nat.{ℕ}
use lib.Dec.{eqb}
use borrow.Author.Tests.{eqb-true, eq-eqb}
use Rattle.std.specs.List.{starts_with as std_starts_with}
use Rattle.std.proofs.lemmas.Slice.Eq.{starts_is}
use Rattle.std.proofs.lemmas.Bool.Decides.{Decides-eqb}
use Rattle.text.specs.Text.{starts_with}

starts_append : (text x : List ℕ) → starts_with text (text ++ x) ≡ true
unfolding starts_with
starts_append [] x = refl
starts_append (c ∷ cs) x = rw (eq-eqb c c refl) (starts_append cs x)

starts_yes : (text line x : List ℕ) → line ≡ text ++ x → true ≡ starts_with text line
starts_yes text line x e = sym (ap (starts_with text) e ∙ starts_append text x)

starts_no : (text line : List ℕ) → ((x : List ℕ) → line ≡ text ++ x → ⊥) → false ≡ starts_with text line
unfolding starts_with
starts_no [] line n = absurd (n line refl)
starts_no (c ∷ cs) [] n = refl
starts_no (c ∷ cs) (x ∷ xs) n = go (eqb x c) refl (starts_no cs xs)
  where
    go : (b : Bool) → eqb x c ≡ b → (((y : List ℕ) → xs ≡ cs ++ y → ⊥) → false ≡ starts_with cs xs) → false ≡ cond (eqb x c) (starts_with cs xs) false
    go true e ih = rw e (ih (λ y q. n y (λ i. eqb-true x c e i ∷ q i)))
    go false e ih = rw e refl

pub starts_by : (line text : List ℕ) (r : Bool) → r ≡ std_starts_with eqb line text → r ≡ starts_with text line
starts_by line text true e = starts_yes text line _ ((starts_is Decides-eqb line text true e).0 refl)
starts_by line text false e = starts_no text line (λ x q. false≢true ((starts_is Decides-eqb line text false e).1 x q))
