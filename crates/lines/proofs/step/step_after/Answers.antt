-- `lines::step::step_after` meets its contract: the numbers in their order, and the line's end.
-- Assumes nothing.
use mathlib.Core.Path.{refl}
use borrow.Author.Rules.{rules}
use Rattle.text.specs.Text.{ascii}
use Rattle.lines.proofs.Steps.{no_place, no_unit, no_after, no_end, at_end}
use Rattle.lines.proofs.step.step_after.Goals as goal

pub returns-in_default : goal.returns-in_default
unfolding ascii
returns-in_default c = no_place c.args.kind c.args.line.now c.args.at _ (rw c.numbers-count.ensures at c.in_default.ensures) refl

pub returns-in_default-field_if : goal.returns-in_default-field_if
unfolding ascii
returns-in_default-field_if c =
    no_unit c.args.kind c.args.line.now c.args.at _ c.in-Some.place c.in-Some.n (rw c.numbers-count.ensures at c.in-Some.ensures) (search rules) (rw c.numbers-count.ensures at c.in_default-field_if.ensures) refl

pub returns-in_default-field_if-2 : goal.returns-in_default-field_if-2
unfolding ascii
returns-in_default-field_if-2 c =
    no_after c.args.kind c.args.line.now c.args.at _ c.in-Some.place c.in-Some.n (rw c.numbers-count.ensures at c.in-Some.ensures) (search rules)
    c.in-Some-field_if.unit c.in-Some-field_if.m (rw c.numbers-count.ensures at c.in-Some-field_if.ensures) (search rules) (rw c.numbers-count.ensures at c.in_default-field_if-2.ensures) refl

pub returns-then-k-line : goal.returns-then-k-line
unfolding ascii
returns-then-k-line c =
    no_end c.args.kind c.args.line.now c.args.at _ c.in-Some.place c.in-Some.n (rw c.numbers-count.ensures at c.in-Some.ensures) (search rules)
    c.in-Some-field_if.unit c.in-Some-field_if.m (rw c.numbers-count.ensures at c.in-Some-field_if.ensures) (search rules)
    c.in-Some-field_if-2.after c.in-Some-field_if-2.k (rw c.numbers-count.ensures at c.in-Some-field_if-2.ensures) (search rules) c.if-k-line.true refl

pub returns : goal.returns
unfolding ascii
returns c =
    at_end c.args.kind c.args.line.now c.args.at _ c.in-Some.place c.in-Some.n (rw c.numbers-count.ensures at c.in-Some.ensures) (search rules)
    c.in-Some-field_if.unit c.in-Some-field_if.m (rw c.numbers-count.ensures at c.in-Some-field_if.ensures) (search rules)
    c.in-Some-field_if-2.after c.in-Some-field_if-2.k (rw c.numbers-count.ensures at c.in-Some-field_if-2.ensures) (search rules) c.if-k-line.false c.step_made.ensures
