-- What an entry returns: document 01, "Acceptance returns the label for a call, 0 for opening and a step, the written length
-- for a claim or any other written output; a refusal returns its number negated".
-- Assumes nothing.
use Rattle.std.specs.Prelude.{ℤ, pos, neg_ℤ, negsuc, ℕ, suc, Result, Ok, Err}
use Rattle.graph.specs.Refusals.{Answer, refused, done}
use Rattle.graph.specs.Refused.{answered}
use Rattle.graph.specs.declared.refusal.Refusal.{Refusal}

-- an answer as one number
abbrev pub answer_number : Answer ℕ → ℤ
answer_number (done n) = pos n
answer_number (refused n) = neg_ℤ (pos n)

-- a number as it is, or a refusal's, whichever number that is
abbrev pub answer_in_numbers : Result ℕ ℕ → Answer ℕ
answer_in_numbers (Ok n) = done n
answer_in_numbers (Err n) = refused n

abbrev pub returned_number : Result ℕ Refusal → ℤ
returned_number a = answer_number (answered (λ n. n) a)

-- the refusal that a number is, or 0
abbrev pub refusal_in : ℤ → ℕ
refusal_in (pos k) = 0
refusal_in (negsuc k) = suc k
