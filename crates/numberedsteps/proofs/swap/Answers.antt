-- Each of the two is an operation, and the test is of both.
-- Assumes nothing.
use Rattle.std.proofs.Common.{false, true, refl}
use Rattle.flat.specs.Inner.FlatSteps.{swap_flat}
use Rattle.state.specs.Inner.State.{flat_in}
use Rattle.state.proofs.Working.{works_refused, works_handed, works_done}
use Rattle.units.specs.Inner.Numbered.{span_of}
use Rattle.units.proofs.Located.{two_no}
use Rattle.numberedsteps.proofs.Working.{Two, two_found, swap_found}
use Rattle.numberedsteps.proofs.swap.Goals as goal
use Rattle.numberedsteps.proofs.swap.Goals.{In_ok-place}

-- the two
both : (a : In_ok-place) → Two (flat_in a.args.image.now) (span_of a.in_ok-place.place)
both a = two_found a.args.image.now a.requires a.args.k a.args.unit (span_of a.in_ok-place.place) a.in_ok-place.ensures

pub returns-in_err-place : goal.returns-in_err-place
returns-in_err-place c =
    works_handed c.from_residual.result _ c.from_residual.ensures.1 (two_no c.args.k c.args.unit (flat_in c.args.image.now) swap_flat c.in_err-place.ensures) refl

pub operation_at-a-requires : goal.operation_at-a-requires
operation_at-a-requires c =
    let w = both (goal.at.operation_at-a-requires c).In_ok-place in
    (c.requires.proper, w.first, w.first_op_law)

pub operation_at-b-requires : goal.operation_at-b-requires
operation_at-b-requires c =
    let w = both (goal.at.operation_at-b-requires c).In_ok-place in
    (c.requires.proper, w.second, w.second_op)

pub returns-then-not-may_swap : goal.returns-then-not-may_swap
returns-then-not-may_swap c =
    let s = c.args in
    let x = c.operation_at-a in
    let y = c.operation_at-b in
    works_refused (swap_found s.k s.unit (flat_in s.image.now) (span_of c.in_ok-place.place) c.in_ok-place.ensures x.result y.result x.ensures y.ensures false c.if-not-may_swap.ensures) refl

pub exchange-requires : goal.exchange-requires
exchange-requires c =
    let w = both (goal.at.exchange-requires c).In_ok-place in
    (c.requires.proper, w.first, w.second)

pub returns : goal.returns
returns c =
    let s = c.args in
    let x = c.operation_at-a in
    let y = c.operation_at-b in
    works_done (swap_found s.k s.unit (flat_in s.image.now) (span_of c.in_ok-place.place) c.in_ok-place.ensures x.result y.result x.ensures y.ensures true c.if-not-may_swap.ensures) c.exchange.ensures
