-- An answer's number is a length or a label, at least 0, or a refusal's number negated: what is read of it.
-- Assumes nothing.
use mathlib.Core.Path.{◌≡◌, refl}
use Prim.Native.Nat.{ℕ, zero, suc}
use Rattle.graph.specs.Refusals.{refused}
use Rattle.panel.specs.Returned.{answer_number}
use Rattle.program.specs.Lines.{length_in}

pub no_length : (n : ℕ) → 0 ≡ length_in (answer_number (refused n))
no_length zero = refl
no_length (suc n) = refl
