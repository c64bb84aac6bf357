-- What the readers of parts and numbers answer.
-- Assumes nothing.
use Rattle.std.specs.Prelude.{ℕ, ◌<◌, ◌≤◌, List, [], ◌∷◌, ◌++◌, ◌≡◌, length, drop, Option, Some, None}
use Rattle.graph.specs.Words.{modulus}
use Rattle.text.specs.Text.{decimal}

-- `Some v`: the bytes are v's decimal. `None`: they are no 32-bit number's decimal.
abbrev pub DecimalOf : List ℕ → Option ℕ → Type 0
DecimalOf s (Some v) = s ≡ decimal v
DecimalOf s None = (v : ℕ) → v < modulus → s ≡ decimal v → ⊥

-- `Some n`: the literal stands at `at`, and n is the place after it. `None`: it does not stand there.
abbrev pub LiteralAt : List ℕ → ℕ → List ℕ → Option ℕ → Type 0
LiteralAt s at literal (Some n) = (n ≤ length s) × (drop at s ≡ literal ++ drop n s)
LiteralAt s at literal None = (x : List ℕ) → drop at s ≡ literal ++ x → ⊥

-- nothing, or what begins with the byte stop
abbrev pub Gap : ℕ → List ℕ → Type 0
Gap stop [] = Unit {0}
Gap stop (c ∷ cs) = c ≡ stop

-- the number of v's digits, at most ten for a 32-bit number
pub record LengthOf (v r : ℕ) : Type 0 where
  pub text : r ≡ length (decimal v)
  pub few : r ≤ 10
