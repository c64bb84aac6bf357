-- What the arguments ask for, and what stands in the program's output.
-- Assumes nothing.
use Rattle.std.specs.Prelude.{ℕ, ◌≤◌, ◌≡◌, List, length, take, Option, Some, None}
use Rattle.graph.specs.Refusals.{Answer, refused, done, map_done}
use Rattle.cgtool.specs.Commands.{Ended, said, Arguments, Command, load, page, nodes, IsCommand, AnswerTo, Ends}
use Rattle.cgtool.specs.declared.commands.Asked.{Asked}
use Rattle.cgtool.specs.declared.commands.Asked.TheVariants.{Load, Page, Nodes}
use Rattle.cgtool.specs.declared.answers.Said.{Said}
use Rattle.cgtool.specs.declared.answers.ExitStatus.{ExitStatus}
use Rattle.cgtool.specs.declared.answers.ExitStatus.TheVariants.{Done, Failed, WrongArguments}

-- the command that the arguments are of, or None where they are of none
abbrev pub AskedFor : Arguments → Option Asked → Type 0
AskedFor a (Some (Load seed count)) = IsCommand a (load seed count)
AskedFor a (Some Page) = IsCommand a page
AskedFor a (Some Nodes) = IsCommand a nodes
AskedFor a None = (c : Command) → IsCommand a c → ⊥

-- ---- a function's answer and its output

-- a written length lies within the output
abbrev pub Within : List ℕ → Answer ℕ → Type 0
Within out (done n) = n ≤ length out
Within out (refused n) = Unit {0}

-- the bytes that a length counts, or the refusal
abbrev pub answer_in : List ℕ → Answer ℕ → Answer (List ℕ)
answer_in out = map_done (λ n. take n out)

-- ---- what the program prints

-- the number that the process exits with
abbrev pub status_number : ExitStatus → ℕ
status_number Done = 0
status_number Failed = 1
status_number WrongArguments = 2

-- what is printed of an output
abbrev pub ended_in : List ℕ → Said → Ended
ended_in out r = record { printed = take r.length out; status = status_number r.status }

-- the output holds what is printed, and the program ends so
pub record Says (out : List ℕ) (r : Said) (e : Ended) : Type 0 where
  pub within : r.length ≤ length out
  pub ended : ended_in out r ≡ e

-- the same, of an answer to the command
pub record SaysTo (c : Command) (lent out : List ℕ) (r : Said) : Type 0 where
  pub answer : Answer (List ℕ)
  pub answers : AnswerTo c lent answer
  pub says : Says out r (said answer)

-- the same, of all arguments that ask for this
pub record Answers (asked : Option Asked) (lent out : List ℕ) (r : Said) : Type 0 where
  pub within : r.length ≤ length out
  pub ends : (a : Arguments) → AskedFor a asked → Ends a lent (ended_in out r)

-- the same, where the function itself reads what is lent
pub record Responds (asked : Option Asked) (out : List ℕ) (r : Said) : Type 0 where
  pub lent : List ℕ
  pub answers : Answers asked lent out r
