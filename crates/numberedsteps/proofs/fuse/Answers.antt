-- The fused operation at the first's place, and the second goes.
-- Assumes nothing.
use Rattle.std.proofs.Common.{false, true, refl, get_or, set}
use Rattle.flat.specs.Inner.FlatSteps.{no_op, with_op, fuse_flat}
use Rattle.state.specs.Inner.Operations.{op_value}
use Rattle.state.specs.Inner.State.{flat_in}
use Rattle.state.proofs.Working.{works_refused, works_handed, works_done}
use Rattle.units.specs.Inner.Numbered.{span_of}
use Rattle.units.proofs.Located.{two_no}
use Rattle.numberedsteps.proofs.Working.{Two, two_found, fuse_found, removed_after}
use Rattle.numberedsteps.proofs.fuse.Goals as goal
use Rattle.numberedsteps.proofs.fuse.Goals.{In_ok-place}

-- the two
both : (a : In_ok-place) → Two (flat_in a.args.image.now) (span_of a.in_ok-place.place)
both a = two_found a.args.image.now a.requires a.args.k a.args.unit (span_of a.in_ok-place.place) a.in_ok-place.ensures

pub returns-in_err-place : goal.returns-in_err-place
returns-in_err-place c =
    works_handed c.from_residual.result _ c.from_residual.ensures.1 (two_no c.args.k c.args.unit (flat_in c.args.image.now) fuse_flat c.in_err-place.ensures) refl

pub operation_at-a-requires : goal.operation_at-a-requires
operation_at-a-requires c =
    let w = both (goal.at.operation_at-a-requires c).In_ok-place in
    (c.requires.proper, w.first, w.first_op_law)

pub operation_at-b-requires : goal.operation_at-b-requires
operation_at-b-requires c =
    let w = both (goal.at.operation_at-b-requires c).In_ok-place in
    (c.requires.proper, w.second, w.second_op)

pub may_fuse-requires : goal.may_fuse-requires
may_fuse-requires c = (c.operation_at-a.ensures.normal, c.operation_at-b.ensures.normal)

pub returns-then-not-may_fuse : goal.returns-then-not-may_fuse
returns-then-not-may_fuse c =
    let s = c.args in
    let x = c.operation_at-a in
    let y = c.operation_at-b in
    works_refused (fuse_found s.k s.unit (flat_in s.image.now) (span_of c.in_ok-place.place) c.in_ok-place.ensures x.result y.result x.ensures y.ensures false _ c.if-not-may_fuse.ensures refl) refl

pub returns : goal.returns
returns c =
    let s = c.args in
    let x = c.operation_at-a in
    let y = c.operation_at-b in
    let o = c.merge in
    let u = span_of c.in_ok-place.place in
    let f = flat_in s.image.now in
    let q = set f.queue u.start (with_op (get_or f.queue u.start no_op) (op_value o.result)) in
    works_done (fuse_found s.k s.unit f u c.in_ok-place.ensures x.result y.result x.ensures y.ensures true (op_value o.result) c.if-not-may_fuse.ensures o.ensures.is)
    (removed_after f q _ _ u.end c.put_operation.ensures c.remove.ensures)
