-- Labels that were given and stand once, by test and by count.
-- Assumes nothing.
use mathlib.Core.Path.{◌≡◌, refl, ap, subst, ◌∙◌}
use Prim.Native.Nat.{ℕ, ◌+◌, ◌≤◌}
use native.Mathlib.Omega.{arith}
use mathlib.Core.Bool.{Bool, true, false, cond, not}
use mathlib.Core.List.{List, [], ◌∷◌}
use lib.Dec.{eqb, leb, ltb}
use borrow.Author.Tests.{eqb-true, leb-true, le-leb, not-true}
use Rattle.graph.specs.KeyLists.{contains, count}
use Rattle.graph.specs.Valid.{Each, Given}
use Rattle.graph.proofs.Answers.{and_left, and_right, eqb_same}
use Rattle.graph.proofs.Labels.{contains_count, count_out}
use Rattle.valid.specs.Inner.Tests.{given_once}

-- labels that were given and stand once
pub record Fresh (last : ℕ) (ls : List ℕ) : Type 0 where
  pub given : Each (Given last) ls
  pub once : (l : ℕ) → count l ls ≤ 1

pub fresh_of : (last : ℕ) (ls : List ℕ) → given_once last ls ≡ true → Fresh last ls
unfolding given_once
fresh_of last [] e = record { given = tt; once = λ l. omega arith }
fresh_of last (x ∷ xs) e =
    let e1 = and_right (leb 1 x) _ e in
    let e2 = and_right (leb x last) _ e1 in
    let r = fresh_of last xs (and_right (not (contains x xs)) _ e2) in
    let none : count x xs ≡ 0 = count_out x xs (not-true (contains x xs) (and_left _ _ e2)) in
    record { given = ((leb-true 1 x (and_left _ _ e), leb-true x last (and_left _ _ e1)), r.given); once = λ l. go l (eqb l x) refl none (r.once l) }
  where
    go : (l : ℕ) (b : Bool) → eqb l x ≡ b → count x xs ≡ 0 → count l xs ≤ 1 → cond b 1 0 + count l xs ≤ 1
    go l true q z h = omega (arith, ap (λ (k : ℕ). count k xs) (eqb-true l x q))
    go l false q z h = omega arith

pub fresh_ok : (last : ℕ) (ls : List ℕ) → Fresh last ls → given_once last ls ≡ true
unfolding given_once
fresh_ok last [] f = refl
fresh_ok last (x ∷ xs) f =
    let none : count x xs ≡ 0 = first (eqb_same x) (f.once x) in
    let out : contains x xs ≡ false = contains_count x xs ∙ ap (ltb 0) none in
    rw (le-leb 1 x f.given.0.0, le-leb x last f.given.0.1, out)
    (fresh_ok last xs (record { given = f.given.1; once = λ l. omega (arith, f.once l) }))
  where
    first : eqb x x ≡ true → cond (eqb x x) 1 0 + count x xs ≤ 1 → count x xs ≡ 0
    first q h = omega (arith, subst (λ (b : Bool). cond b 1 0 + count x xs ≤ 1) q h)
