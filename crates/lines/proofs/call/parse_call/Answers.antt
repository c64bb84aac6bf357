-- `lines::call::parse_call` meets its contract. Where the line does not come apart, no form has its text.
-- Assumes nothing.
use Prim.Native.Nat.{◌+◌, ◌<◌, ◌≤◌}
use mathlib.Core.Path.{refl, sym, ◌∙◌}
use native.Mathlib.Omega.{arith}
use borrow.Author.Tests.{ltb-false}
use lib.ListN.{length}
use Rattle.text.specs.Inner.PartsRead.{LiteralAt}
use Rattle.text.specs.Text.{ascii}
use Rattle.std.proofs.Common.{Some}
use Rattle.text.proofs.Splits.{part}
use Rattle.graph.specs.Refusals.{refused}
use Rattle.lines.specs.Inner.Answers.{call_answer}
use Rattle.lines.proofs.Calls.{calls, call_forms}
use Rattle.lines.proofs.Words.{reads_no_head, reads_no_word, reads_after}
use Rattle.lines.proofs.call.parse_call.Goals as goal
use Rattle.lines.proofs.call.parse_call.Goals.{After-value_at-word, Else-too_long, In-Some}

short : (c : Else-too_long) → length c.args.line.now < 256
short c = omega (arith, ltb-false 255 (length c.args.line.now) (sym c.too_long.ensures ∙ c.if-too_long.false))

head_at : (c : In-Some) → LiteralAt c.args.line.now 0 calls.head (Some c.in-Some.from)
unfolding calls ascii
head_at c = c.in-Some.ensures

within : (c : After-value_at-word) → c.in-Some.from + length c.value_at-word.result.now ≤ length c.args.line.now
unfolding ascii
within c = rw c.value_at-word.ensures (part 32 c.args.line.now c.in-Some.from c.in-Some.ensures.0).within

pub returns-in_default : goal.returns-in_default
unfolding calls ascii
returns-in_default c = reads_no_head call_forms call_answer (refused 10) _ c.args.line.now c.in_default.ensures refl

pub returns-in_default-call_word : goal.returns-in_default-call_word
unfolding calls
returns-in_default-call_word c =
    reads_no_word call_forms call_answer (refused 10) _ _ (short (goal.at.returns-in_default-call_word c).Else-too_long) _ (head_at (goal.at.returns-in_default-call_word c).In-Some) _ c.value_at-word.ensures c.in_default-call_word.ensures refl

pub call_after-requires : goal.call_after-requires
call_after-requires c = within (goal.at.call_after-requires c).After-value_at-word

pub returns : goal.returns
unfolding calls
returns c =
    reads_after call_forms call_answer (refused 10) _ _ (short (goal.at.returns c).Else-too_long) _ (head_at (goal.at.returns c).In-Some) _ c.value_at-word.ensures c.in-Some-call_word.kind c.in-Some-call_word.ensures c.call_after.ensures
