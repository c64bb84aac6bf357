-- A call line as it was read.
-- Assumes nothing.
use Rattle.std.specs.Prelude.{ℕ, List, Result}
use Rattle.graph.specs.declared.refusal.Refusal.{Refusal}
use Rattle.lines.specs.Inner.Answers.{CallRead}
use Rattle.lines.specs.declared.call.Call.{Call}

-- it was read of some line
abbrev pub ReadOfSome : Result Call Refusal → Type 0
ReadOfSome r = (line : List ℕ) × CallRead line r
