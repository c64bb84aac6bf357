-- No head unit, the last station, a target in the unit, or the move.
-- Assumes nothing.
use Rattle.std.proofs.Common.{refl, arith}
use Rattle.state.specs.Inner.State.{flat_in}
use Rattle.state.proofs.Working.{works_refused, works_handed, works_done}
use Rattle.units.specs.Inner.Numbered.{span_of}
use Rattle.headsteps.proofs.Heads.{move_none, head, head_ops, move_last, move_hit, move_free}
use Rattle.headsteps.proofs.move_on.Goals as goal

pub returns-in_err-head : goal.returns-in_err-head
returns-in_err-head c =
    works_handed c.from_residual.result _ c.from_residual.ensures.1 (move_none c.args.k (flat_in c.args.image.now) c.in_err-head.ensures) refl

pub returns-then-k-eq1 : goal.returns-then-k-eq1
returns-then-k-eq1 c =
    works_refused (move_last c.args.k (flat_in c.args.image.now) (span_of c.in_ok-head.head) c.in_ok-head.ensures c.if-k-eq1.true) refl

pub first_for-requires : goal.first_for-requires
first_for-requires c =
    let a = c.args in
    let u = span_of c.in_ok-head.head in
    let h = head a.k (flat_in a.image.now) u c.in_ok-head.ensures in
    (c.requires.proper, h.before, h.fits, head_ops a.image.now c.requires a.k u c.in_ok-head.ensures)

pub move_unit-requires : goal.move_unit-requires
move_unit-requires c =
    let h = head c.args.k (flat_in c.args.image.now) (span_of c.in_ok-head.head) c.in_ok-head.ensures in
    (c.requires.proper, h.low, h.before, h.fits)

pub returns-then-first_for-head : goal.returns-then-first_for-head
returns-then-first_for-head c =
    works_refused (move_hit c.args.k (flat_in c.args.image.now) (span_of c.in_ok-head.head) c.in_ok-head.ensures c.if-k-eq1.false (omega (arith, c.if-first_for-head.true, c.first_for.ensures.is))) refl

pub returns : goal.returns
returns c =
    works_done (move_free c.args.k (flat_in c.args.image.now) (span_of c.in_ok-head.head) c.in_ok-head.ensures c.if-k-eq1.false (omega (arith, c.if-first_for-head.false, c.first_for.ensures.is))) c.move_unit.ensures
