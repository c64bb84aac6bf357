-- `lines::fields::number_field` meets its contract: the literal, then the value's part, then its number.
-- Assumes nothing.
use Rattle.text.specs.Inner.PartsRead.{LiteralAt}
use Rattle.std.proofs.Common.{Some}
use Rattle.lines.proofs.Chains.{no_number, is_field}
use Rattle.lines.proofs.fields.number_field.Goals as goal
use Rattle.lines.proofs.fields.number_field.Goals.{In_ok-from}

-- what `past` found
place_at : (c : In_ok-from) → LiteralAt c.args.line.now c.args.at c.args.literal.now (Some c.in_ok-from.from)
place_at c = c.in_ok-from.ensures

pub returns-in_err-v : goal.returns-in_err-v
returns-in_err-v c =
    let a = c.args in
    rw c.from_residual-in_err-v.ensures
    (no_number a.line.now a.at a.literal.now _ (place_at (goal.at.returns-in_err-v c).In_ok-from) (rw c.value_at-value.ensures at c.in_err-v.ensures))

pub returns : goal.returns
returns c =
    let a = c.args in
    rw c.value_at-value.ensures
    (is_field a.line.now a.at a.literal.now _ (place_at (goal.at.returns c).In_ok-from) _ (rw c.value_at-value.ensures at c.in_ok-v.ensures))
