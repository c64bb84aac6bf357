-- The one found acts.
-- Assumes nothing.
use Rattle.std.proofs.Common.{refl, arith}
use Rattle.graph.specs.declared.task.Sought.TheVariants.{Acts}
use Rattle.flat.specs.Inner.FlatSteps.{act_flat}
use Rattle.state.specs.Inner.State.{flat_in}
use Rattle.state.proofs.Working.{works_handed, works_done}
use Rattle.units.specs.Inner.Numbered.{span_of}
use Rattle.headsteps.proofs.Heads.{first_no, first_yes, found_op}
use Rattle.headsteps.proofs.realise.Goals as goal

pub returns-in_err-place : goal.returns-in_err-place
returns-in_err-place c =
    works_handed c.from_residual.result _ c.from_residual.ensures.1 (first_no Acts c.args.k (flat_in c.args.image.now) (act_flat c.args.k) c.in_err-place.ensures) refl

pub act_at-requires : goal.act_at-requires
act_at-requires c =
    let w = found_op c.args.image.now c.requires Acts c.args.k (span_of c.in_ok-place.place) c.in_ok-place.ensures in
    (c.requires.proper, w.node, omega (arith, w.inside, w.fits), w.op)

pub returns : goal.returns
returns c =
    works_done (first_yes Acts c.args.k (flat_in c.args.image.now) (act_flat c.args.k) c.in_ok-place.ensures) c.act_at.ensures
