-- Refusals by a sequence of tests: the number of the first that applies, the order of the numbers, sequences that rise, and a claim's tests
-- (docs/RULES.md).
-- Assumes nothing.
use Rattle.std.specs.Prelude.{ℕ, ◌≤◌, ◌≡◌, Bool, true, false, cond, ◌&&◌, not, List, [], ◌∷◌, eqb, ltb, leb}
use Rattle.graph.specs.Refusals.{Answer, refused, done, Test, on}
use Rattle.graph.specs.KeyLists.{contains}
use Rattle.graph.specs.Sessions.{Session, labels_of_results, pending}
use Rattle.graph.specs.Valid.{Each}

module _ {A : Type 0} where
  -- the number of the answer: 0 where it was done
  abbrev pub number_of : Answer A → ℕ
  number_of (refused r) = r
  number_of (done a) = 0

-- the number of the first test that applies, 0 where none does
abbrev pub first_of : List Test → ℕ
first_of [] = 0
first_of (t ∷ ts) = cond t.applies t.number (first_of ts)

-- is n tested before m? The lower number is, with one exception: "40 .. checked after 12 and before 14" (S-6), so before 13 too
abbrev pub precedes : ℕ → ℕ → Bool
precedes n m = cond (eqb m 40) (leb n 12) (cond (eqb n 40) (ltb 12 m) (ltb n m))

-- each number is preceded by the one before it, and the first by n: then no test that applies precedes the first that does
-- (proofs/Sequences.antt, first-foremost), and its number, if it is not 40, is the lowest of those that apply (foremost-lowest)
abbrev pub rises_from : ℕ → List Test → Bool
rises_from n [] = true
rises_from n (t ∷ ts) = precedes n t.number && rises_from t.number ts

-- none of the tests that apply precedes n
abbrev pub Foremost : ℕ → List Test → Type 0
Foremost n ts = Each (λ (t : Test). t.applies ≡ true → precedes t.number n ≡ false) ts

-- none of the tests that apply has a lower number than n
abbrev pub Lowest : ℕ → List Test → Type 0
Lowest n ts = Each (λ (t : Test). t.applies ≡ true → n ≤ t.number) ts

-- "30 a label never given; 31 still pending; 32 already claimed": a claim is refused by the first of these that applies, else the result
-- is taken (proofs/Sequences.antt, claim-tests)
abbrev pub claim_tests : ℕ → Session → List Test
claim_tests l s =
    on (not (leb 1 l && leb l s.last)) 30
    ∷ on (contains l (pending s)) 31
    ∷ on (not (contains l (labels_of_results s.results))) 32
    ∷ []
