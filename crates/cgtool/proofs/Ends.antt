-- What the program ends with, by what it was asked for.
-- Assumes nothing.
use Prim.Native.Nat.{ℕ}
use mathlib.Core.Logic.{inl, inr}
use mathlib.Core.Path.{◌≡◌, refl, sym, ap, subst}
use mathlib.Core.List.{List}
use lib.IntN.{pos}
use Rattle.std.specs.Prelude.{Option, Some}
use Rattle.graph.specs.Refusals.{Answer, refused, done}
use Rattle.cgtool.specs.Commands.{Ended, said, load_answer, Arguments, load, page, nodes, Ends, of_command, other_arguments, Status}
use Rattle.cgtool.specs.Inner.Outputs.{Says, SaysTo, Answers}
use Rattle.cgtool.specs.declared.commands.Asked.{Asked}
use Rattle.cgtool.specs.declared.commands.Asked.TheVariants.{Load, Page, Nodes}
use Rattle.cgtool.specs.declared.answers.Said.{Said}

-- ---- answers

module _ (lent out : List ℕ) {r : Said} {k : Option Asked} where
  told : {j : Option Asked} → k ≡ j → Answers j lent out r → Answers k lent out r
  told e = subst (λ (i : Option Asked). Answers i lent out r) (sym e)

  pub load_answer_law : {seed count : ℕ} → k ≡ Some (Load seed count) → Says out r (said (load_answer seed count)) → Answers k lent out r
  load_answer_law {seed} {count} e s =
      told e (record { within = s.within; ends = λ a i. of_command (load seed count) i (load_answer seed count) refl s.ended })

  pub page_answer : k ≡ Some Page → SaysTo page lent out r → Answers k lent out r
  page_answer e s = told e (record { within = s.says.within; ends = λ a i. of_command page i s.answer s.answers s.says.ended })

  pub nodes_answer : k ≡ Some Nodes → SaysTo nodes lent out r → Answers k lent out r
  nodes_answer e s = told e (record { within = s.says.within; ends = λ a i. of_command nodes i s.answer s.answers s.says.ended })

-- ---- the status

answer_status : (e : Ended) (x : Answer (List ℕ)) → e ≡ said x → Status (pos e.status)
answer_status e (refused n) q = inr (inl (ap (λ (f : Ended). pos f.status) q))
answer_status e (done text) q = inl (ap (λ (f : Ended). pos f.status) q)

pub ends_status : {a : Arguments} {lent : List ℕ} {e : Ended} → Ends a lent e → Status (pos e.status)
ends_status {a} {lent} {e} (of_command c i x t q) = answer_status e x q
ends_status (other_arguments never q) = inr (inr (ap (λ (f : Ended). pos f.status) q))
