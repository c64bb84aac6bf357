-- `lines::step::parse_step` meets its contract. Where the line does not come apart, no form has its text.
-- Assumes nothing.
use Prim.Native.Nat.{◌+◌, ◌<◌, ◌≤◌}
use mathlib.Core.Path.{refl, sym, ◌∙◌}
use native.Mathlib.Omega.{arith}
use borrow.Author.Tests.{ltb-false}
use lib.ListN.{length}
use Rattle.text.specs.Inner.PartsRead.{LiteralAt}
use Rattle.text.specs.Text.{ascii}
use Rattle.std.proofs.Common.{Some}
use Rattle.text.proofs.Splits.{part}
use Rattle.graph.specs.Refusals.{refused}
use Rattle.lines.specs.Inner.Answers.{step_answer}
use Rattle.lines.proofs.Steps.{steps, step_forms}
use Rattle.lines.proofs.Words.{reads_no_head, reads_no_word, reads_after}
use Rattle.lines.proofs.step.parse_step.Goals as goal
use Rattle.lines.proofs.step.parse_step.Goals.{After-value_at-word, Else-too_long, In-Some}

short : (c : Else-too_long) → length c.args.line.now < 256
short c = omega (arith, ltb-false 255 (length c.args.line.now) (sym c.too_long.ensures ∙ c.if-too_long.false))

head_at : (c : In-Some) → LiteralAt c.args.line.now 0 steps.head (Some c.in-Some.from)
unfolding steps ascii
head_at c = c.in-Some.ensures

within : (c : After-value_at-word) → c.in-Some.from + length c.value_at-word.result.now ≤ length c.args.line.now
unfolding ascii
within c = rw c.value_at-word.ensures (part 32 c.args.line.now c.in-Some.from c.in-Some.ensures.0).within

pub returns-in_default : goal.returns-in_default
unfolding steps ascii
returns-in_default c = reads_no_head step_forms step_answer (refused 10) _ c.args.line.now c.in_default.ensures refl

pub returns-in_default-step_word : goal.returns-in_default-step_word
unfolding steps
returns-in_default-step_word c =
    reads_no_word step_forms step_answer (refused 10) _ _ (short (goal.at.returns-in_default-step_word c).Else-too_long) _ (head_at (goal.at.returns-in_default-step_word c).In-Some) _ c.value_at-word.ensures c.in_default-step_word.ensures refl

pub step_after-requires : goal.step_after-requires
step_after-requires c = within (goal.at.step_after-requires c).After-value_at-word

pub returns : goal.returns
unfolding steps
returns c =
    reads_after step_forms step_answer (refused 10) _ _ (short (goal.at.returns c).Else-too_long) _ (head_at (goal.at.returns c).In-Some) _ c.value_at-word.ensures c.in-Some-step_word.kind c.in-Some-step_word.ensures c.step_after.ensures
