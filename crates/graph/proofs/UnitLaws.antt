-- Steps on units by number: the number falls by one for each unit that is passed.
-- Assumes nothing.
use mathlib.Core.Path.{◌≡◌, refl}
use Prim.Native.Nat.{ℕ, zero, suc, ◌-◌}
use native.Mathlib.Omega.{arith}
use mathlib.Core.List.{List, [], ◌∷◌, ◌++◌}
use lib.ListN.{take, drop}
use Rattle.graph.specs.Refusals.{Answer, refused, done, map_done}
use Rattle.graph.specs.Nodes.{Op}
use Rattle.graph.specs.Steps.{from_unit, first_unit, first_two, unit_at, pair_at}

pub record Numbered (f : ℕ → List (List Op) → Answer (List (List Op))) : Type 0 where
  pub nought : (us : List (List Op)) → f zero us ≡ refused 21
  pub empty : (i : ℕ) → f (suc i) [] ≡ refused 21
  pub next : (i : ℕ) (u : List Op) (us : List (List Op)) → f (suc (suc i)) (u ∷ us) ≡ map_done (λ xs. u ∷ xs) (f (suc i) us)

-- a unit before the others
map_cons : (u : List Op) (before after : List (List Op)) (x : Answer (List (List Op))) →
    map_done (λ xs. (u ∷ before) ++ (xs ++ after)) x ≡ map_done (λ xs. u ∷ xs) (map_done (λ xs. before ++ (xs ++ after)) x)
map_cons u before after (refused r) = refl
map_cons u before after (done xs) = refl

one_less : (i : ℕ) → suc i - 1 ≡ i
one_less i = omega arith

from_none : (i : ℕ) → from_unit i [] ≡ []
from_none zero = refl
from_none (suc zero) = refl
from_none (suc (suc i)) = refl

pub numbered_unit : (f : List Op → Answer (List (List Op))) → Numbered (λ i us. unit_at i f us)
numbered_unit f =
    record {
      nought = λ us. refl;
      empty = λ i. rw (from_none (suc i));
      next = λ i u us. rw (one_less (suc i), one_less i) (map_cons u (take i us) (drop (suc i) us) (first_unit (refused 21) f (drop i us)));
    }

pub numbered_pair : (f : List Op → List Op → Answer (List (List Op))) → Numbered (λ i us. pair_at i f us)
numbered_pair f =
    record {
      nought = λ us. refl;
      empty = λ i. rw (from_none (suc i));
      next = λ i u us. rw (one_less (suc i), one_less i) (map_cons u (take i us) (drop (suc (suc i)) us) (first_two (refused 21) f (drop i us)));
    }
