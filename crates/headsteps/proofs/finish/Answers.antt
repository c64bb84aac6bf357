-- The one found goes.
-- Assumes nothing.
use Rattle.std.proofs.Common.{refl}
use Rattle.graph.specs.declared.task.Sought.TheVariants.{Finishes}
use Rattle.flat.specs.Inner.FlatSteps.{leave_flat}
use Rattle.state.specs.Inner.State.{flat_in}
use Rattle.state.proofs.Working.{works_handed, works_done}
use Rattle.units.specs.Inner.Numbered.{span_of}
use Rattle.headsteps.proofs.Heads.{first_no, first_yes, found_op}
use Rattle.headsteps.proofs.finish.Goals as goal

pub returns-in_err-place : goal.returns-in_err-place
returns-in_err-place c =
    works_handed c.from_residual.result _ c.from_residual.ensures.1 (first_no Finishes c.args.k (flat_in c.args.image.now) leave_flat c.in_err-place.ensures) refl

pub finish_at-requires : goal.finish_at-requires
finish_at-requires c =
    let w = found_op c.args.image.now c.requires Finishes c.args.k (span_of c.in_ok-place.place) c.in_ok-place.ensures in
    (c.requires, w.inside, w.fits, w.op)

pub returns : goal.returns
returns c =
    works_done (first_yes Finishes c.args.k (flat_in c.args.image.now) leave_flat c.in_ok-place.ensures) c.finish_at.ensures
