-- The result that a list holds under a label: the first with that label.
-- Assumes nothing.
use mathlib.Core.Path.{◌≡◌, sym, ap, refl, ◌∙◌}
use Prim.Native.Nat.{ℕ}
use mathlib.Core.Bool.{Bool, true, false, cond, true≢false}
use mathlib.Core.List.{List, [], ◌∷◌, ◌++◌}
use mathlib.Core.Option.{Option, none, some}
use lib.Dec.{eqb}
use borrow.Author.Tests.{eqb-true, eqb-false, eq-eqb, ne_eqb}
use Rattle.graph.specs.Nodes.{Result}
use Rattle.graph.specs.Counts.{result_of_label}

abbrev is_some : Option Result → Bool
is_some none = false
is_some (some r) = true

abbrev result_in : Result → Option Result → Result
result_in q none = q
result_in q (some r) = r

pub none_some : {q : Result} → none ≡ some q → ⊥
none_some e = true≢false (sym (ap is_some e))

pub some_same : {r q : Result} → some r ≡ some q → r ≡ q
some_same {r} e = ap (result_in r) e

pub find_here : (l : ℕ) (r : Result) (rs : List Result) → r.label ≡ l → result_of_label l (r ∷ rs) ≡ some r
find_here l r rs e = ap (λ (b : Bool). cond b (some r) (result_of_label l rs)) (eq-eqb r.label l e)

pub find_skip : (l : ℕ) (r : Result) (rs : List Result) → (r.label ≡ l → ⊥) → result_of_label l (r ∷ rs) ≡ result_of_label l rs
find_skip l r rs n = ap (λ (b : Bool). cond b (some r) (result_of_label l rs)) (ne_eqb r.label l n)

pub data Where (l : ℕ) (q r : Result) (rs : List Result) : Type 0 where
  first_of : r.label ≡ l → r ≡ q → Where l q r rs
  later : (r.label ≡ l → ⊥) → result_of_label l rs ≡ some q → Where l q r rs

pub where_found : (l : ℕ) (q r : Result) (rs : List Result) → result_of_label l (r ∷ rs) ≡ some q → Where l q r rs
where_found l q r rs e = go (eqb r.label l) refl e
  where
    go : (b : Bool) → eqb r.label l ≡ b → cond b (some r) (result_of_label l rs) ≡ some q → Where l q r rs
    go true d e = first_of (eqb-true r.label l d) (some_same e)
    go false d e = later (eqb-false r.label l d) e

-- two lists, one after the other: what the first holds, else what the second holds
abbrev pub or_that : Option Result → Option Result → Option Result
or_that none q = q
or_that (some r) q = some r

or_cond : (b : Bool) (r : Result) (p q : Option Result) → cond b (some r) (or_that p q) ≡ or_that (cond b (some r) p) q
or_cond true r p q = refl
or_cond false r p q = refl

pub find_append : (l : ℕ) (rs qs : List Result) → result_of_label l (rs ++ qs) ≡ or_that (result_of_label l rs) (result_of_label l qs)
find_append l [] qs = refl
find_append l (r ∷ rs) qs = ap (cond (eqb r.label l) (some r)) (find_append l rs qs) ∙ or_cond (eqb r.label l) r (result_of_label l rs) (result_of_label l qs)

-- the same where the two in a row are known as one list, and what the first holds is known
pub find_after : (l : ℕ) {rs : List Result} (ps qs : List Result) (p : Option Result) → rs ≡ ps ++ qs → result_of_label l ps ≡ p → result_of_label l rs ≡ or_that p (result_of_label l qs)
find_after l ps qs p e h = ap (result_of_label l) e ∙ find_append l ps qs ∙ ap (λ (r : Option Result). or_that r (result_of_label l qs)) h
