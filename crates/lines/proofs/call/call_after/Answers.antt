-- `lines::call::call_after` meets its contract: the fields in their order, and what they make.
-- Assumes nothing.
use mathlib.Core.Path.{refl}
use borrow.Author.Rules.{rules}
use Rattle.lines.proofs.Calls.{no_first, no_second, no_targets, with_targets}
use Rattle.lines.proofs.call.call_after.Goals as goal

pub returns-in_default : goal.returns-in_default
returns-in_default c = no_first c.args.kind c.args.line.now c.args.at _ c.in_default.ensures refl

pub returns-in_default-second_field : goal.returns-in_default-second_field
returns-in_default-second_field c =
    no_second c.args.kind c.args.line.now c.args.at _ c.in-Some.x c.in-Some.n c.in-Some.ensures (search rules) c.in_default-second_field.ensures refl

pub returns-in_default-call_targets : goal.returns-in_default-call_targets
returns-in_default-call_targets c =
    no_targets c.args.kind c.args.line.now c.args.at _ c.in-Some.x c.in-Some.n c.in-Some.ensures (search rules) c.in-Some-second_field.y c.in-Some-second_field.m c.in-Some-second_field.ensures (search rules)
    c.in_default-call_targets.ensures refl

pub returns : goal.returns
returns c =
    with_targets c.args.kind c.args.line.now c.args.at _ c.in-Some.x c.in-Some.n c.in-Some.ensures (search rules) c.in-Some-second_field.y c.in-Some-second_field.m c.in-Some-second_field.ensures (search rules)
    c.in-Some-call_targets.ensures c.call_made.ensures
