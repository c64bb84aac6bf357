-- Laws of `tab`: tables, and lists as the tables of their elements.
-- Assumes nothing.
use mathlib.Core.Path.{◌≡◌, refl, ap, subst, ◌∙◌}
use Prim.Native.Nat.{ℕ, zero, suc, ◌<◌}
use native.Mathlib.Nat.{le_of_suc-le-suc, not-suc-le-zero}
use native.Mathlib.Omega.{arith}
use mathlib.Core.List.{List, [], ◌∷◌, ◌++◌}
use lib.ListN.{length, get_or}
use Rattle.records.specs.Inner.Numbers.{tab}

module _ {A : Type 0} where
  pub length_tab : (n : ℕ) (f : ℕ → A) → length (tab n f) ≡ n
  unfolding tab
  length_tab zero f = refl
  length_tab (suc n) f = ap suc (length_tab n (λ i. f (suc i)))

  pub get_d_tab : (n : ℕ) (f : ℕ → A) (i : ℕ) (d : A) → i < n → get_or (tab n f) i d ≡ f i
  unfolding tab
  get_d_tab zero f i d h = absurd (not-suc-le-zero h)
  get_d_tab (suc n) f zero d h = refl
  get_d_tab (suc n) f (suc i) d h = get_d_tab n (λ j. f (suc j)) i d (le_of_suc-le-suc h)

  -- tables that agree below n
  pub tab_ext : (n : ℕ) (f g : ℕ → A) → ((j : ℕ) → j < n → f j ≡ g j) → tab n f ≡ tab n g
  unfolding tab
  tab_ext zero f g h = refl
  tab_ext (suc n) f g h =
      ap (λ (a : A). a ∷ tab n (λ i. f (suc i))) (h 0 (omega arith))
      ∙ ap (λ (l : List A). g 0 ∷ l) (tab_ext n (λ i. f (suc i)) (λ i. g (suc i)) (λ j k. h (suc j) (omega arith)))

  -- a list is the table of its elements
  pub tab_get_d : (t : List A) (d : A) → tab (length t) (λ i. get_or t i d) ≡ t
  unfolding tab
  tab_get_d [] d = refl
  tab_get_d (x ∷ t) d = ap (λ (l : List A). x ∷ l) (tab_get_d t d)

  pub tab_all : (n : ℕ) (t : List A) (d : A) → length t ≡ n → tab n (λ i. get_or t i d) ≡ t
  tab_all n t d e = subst (λ (k : ℕ). tab k (λ i. get_or t i d) ≡ t) e (tab_get_d t d)

  pub tab_is : (n : ℕ) (f : ℕ → A) (t : List A) (d : A) → length t ≡ n → ((i : ℕ) → i < n → f i ≡ get_or t i d) → tab n f ≡ t
  tab_is n f t d e h = tab_ext n f (λ i. get_or t i d) h ∙ tab_all n t d e

  pub tab_snoc : (n : ℕ) (f : ℕ → A) → tab (suc n) f ≡ tab n f ++ (f n ∷ [])
  unfolding tab
  tab_snoc zero f = refl
  tab_snoc (suc n) f = ap (λ (l : List A). f 0 ∷ l) (tab_snoc n (λ i. f (suc i)))
