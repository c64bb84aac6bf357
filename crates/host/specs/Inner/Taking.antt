-- What a step line takes, for every tally that may be lent: what is to be counted of it makes the tally that `Steps` says.
-- Assumes nothing.
use Rattle.std.specs.Prelude.{ℕ, ◌≡◌, List, length, Result, Ok, Err}
use Rattle.graph.specs.Steps.{Step}
use Rattle.graph.specs.Refusals.{refused, done}
use Rattle.graph.specs.Refused.{refusal_number}
use Rattle.graph.specs.declared.refusal.Refusal.{Refusal}
use Rattle.graph.specs.Counts.{quoted_steps}
use Rattle.panel.specs.declared.tally.Tally.{Tally}
use Rattle.panel.specs.Returned.{answer_number}
use Rattle.panel.specs.Tally.{raised, counted}
use Rattle.session.specs.declared.drain.Counts.{Counts}
use Rattle.session.specs.Inner.Drained.{Counted}
use Rattle.host.specs.declared.step.LineTaken.{LineTaken}
use Rattle.host.specs.declared.step.LineTaken.TheVariants.{One, Drain}
use Rattle.host.specs.Entries.{Steps}

-- steps of the four kinds that a drain takes, and how many of each
pub record DrainCounted (c : Counts) (ts : List Step) : Type 0 where
  pub counts : Counted ts c
  pub works : quoted_steps ts ≡ length ts

-- the host's answer: the refusal, or 0
module _ {E : Type 0} where
  abbrev pub taken_answer : Result LineTaken E → Result ℕ E
  taken_answer (Err r) = Err r
  taken_answer (Ok t) = Ok 0

-- r is taken of the line, with this image after it
abbrev pub Takes : (image line : List ℕ) → Result LineTaken Refusal → (after : List ℕ) → Type 0
Takes image line (Err r) after = (t : Tally) → Steps image line t (record { answer = answer_number (refused (refusal_number r)); image = after; tally = t })
Takes image line (Ok (One place)) after = (t : Tally) → Steps image line t (record { answer = answer_number (done 0); image = after; tally = raised t place 1 })
Takes image line (Ok (Drain c)) after =
    (ts : List Step)
    × DrainCounted c ts
    × ((t : Tally) → Steps image line t (record { answer = answer_number (done 0); image = after; tally = counted t ts }))
