-- `lines::fields::targets_field` meets its contract: ` to=`, and `all` or a list that reaches the line's end.
-- Assumes nothing.
use Rattle.std.proofs.Common.{rules, Some, ◌≡◌, ◌≤◌, ◌+◌, sym, ◌∙◌, drop, length, arith}
use Rattle.text.specs.Text.{ascii}
use Rattle.text.specs.Inner.PartsRead.{LiteralAt}
use Rattle.lines.proofs.Chains.{targets_missing, targets_all, targets_none, targets_list, targets_parted, value_within, value_ends}
use Rattle.lines.proofs.fields.targets_field.Goals as goal
use Rattle.lines.proofs.fields.targets_field.Goals.{In_ok-from, After-value_at-value}

-- what `past` found
place_at : (c : In_ok-from) → LiteralAt c.args.line.now c.args.at (ascii " to=") (Some c.in_ok-from.from)
unfolding ascii
place_at c = c.in_ok-from.ensures

within : (c : After-value_at-value) → c.in_ok-from.from + length c.value_at-value.result.now ≤ length c.args.line.now
unfolding ascii
within c = rw c.value_at-value.ensures (value_within c.args.line.now c.args.at c.in_ok-from.from c.in_ok-from.ensures)

-- where the value reaches the line's end, it is all that follows
all_follows : (c : After-value_at-value) → length c.args.line.now ≤ c.in_ok-from.from + length c.value_at-value.result.now → c.value_at-value.result.now ≡ drop c.in_ok-from.from c.args.line.now
unfolding ascii
all_follows c end =
    c.value_at-value.ensures ∙ value_ends c.args.line.now c.args.at c.in_ok-from.from c.in_ok-from.ensures (rw (← c.value_at-value.ensures) end)

pub returns-in_err-from : goal.returns-in_err-from
unfolding ascii
returns-in_err-from c = rw c.from_residual.ensures (targets_missing c.args.line.now c.args.at c.in_err-from.ensures)

pub overflow_add-from : goal.overflow_add-from
overflow_add-from c = omega (arith, within (goal.at.overflow_add-from c).After-value_at-value)

pub returns-then-from-value : goal.returns-then-from-value
unfolding ascii
returns-then-from-value c =
    targets_parted c.args.line.now c.args.at c.in_ok-from.from (place_at (goal.at.returns-then-from-value c).In_ok-from) (rw (← c.value_at-value.ensures) (omega arith))

pub returns-then-eq : goal.returns-then-eq
unfolding ascii
returns-then-eq c =
    let all : c.value_at-value.result.now ≡ drop c.in_ok-from.from c.args.line.now = all_follows (goal.at.returns-then-eq c).After-value_at-value (omega arith) in
    let e : c.value_at-value.result.now ≡ ascii "all" = search rules in
    targets_all c.args.line.now c.args.at c.in_ok-from.from (place_at (goal.at.returns-then-eq c).In_ok-from) (sym all ∙ e)

pub returns-in_err-list : goal.returns-in_err-list
unfolding ascii
returns-in_err-list c =
    let all : c.value_at-value.result.now ≡ drop c.in_ok-from.from c.args.line.now = all_follows (goal.at.returns-in_err-list c).After-value_at-value (omega arith) in
    rw c.from_residual-in_err-list.ensures
    (targets_none c.args.line.now c.args.at c.in_ok-from.from (place_at (goal.at.returns-in_err-list c).In_ok-from) (rw (← all) (search rules)) (rw all at c.in_err-list.ensures))

pub returns : goal.returns
returns c =
    let all : c.value_at-value.result.now ≡ drop c.in_ok-from.from c.args.line.now = all_follows (goal.at.returns c).After-value_at-value (omega arith) in
    targets_list c.args.line.now c.args.at c.in_ok-from.from (place_at (goal.at.returns c).In_ok-from) c.in_ok-list.list (rw all at c.in_ok-list.ensures)
