-- What the functions return by value.
-- Assumes nothing.
use Rattle.std.specs.Prelude.{ℕ, List}
use Rattle.graph.specs.Refusals.{Answer}

-- what a function returns, and the output after it
pub record Returns : Type 0 where
  pub answer : Answer ℕ
  pub output : List ℕ

abbrev pub returns : Answer ℕ → List ℕ → Returns
returns a out = record { answer = a; output = out }
