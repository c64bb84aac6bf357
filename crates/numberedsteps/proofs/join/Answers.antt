-- The unit, the next, and that the next opens none any more.
-- Assumes nothing.
use Rattle.std.proofs.Common.{refl, sym, ◌∙◌}
use Rattle.flat.specs.Inner.FlatSteps.{with_next, join_flat}
use Rattle.state.specs.Inner.State.{flat_in}
use Rattle.state.proofs.Working.{works_refused, works_handed, works_done}
use Rattle.units.proofs.Located.{at_within, one_no, one_yes}
use Rattle.numberedsteps.proofs.join.Goals as goal

pub returns-in_err-place : goal.returns-in_err-place
returns-in_err-place c =
    works_handed c.from_residual.result _ c.from_residual.ensures.1 (one_no c.args.k c.args.unit (flat_in c.args.image.now) (with_next c.args.k join_flat) c.in_err-place.ensures) refl

pub returns-then-not-is_at : goal.returns-then-not-is_at
returns-then-not-is_at c =
    works_refused (one_yes c.args.k c.args.unit (flat_in c.args.image.now) (with_next c.args.k join_flat) c.in_ok-place.ensures ∙ rw (sym c.if-not-is_at.ensures) refl) refl

pub set_opens-requires : goal.set_opens-requires
set_opens-requires c = (c.requires.proper, at_within c.args.k (flat_in c.args.image.now).queue c.in_ok-place.place.end (sym c.if-not-is_at.ensures))

pub returns : goal.returns
returns c =
    works_done (one_yes c.args.k c.args.unit (flat_in c.args.image.now) (with_next c.args.k join_flat) c.in_ok-place.ensures ∙ rw (sym c.if-not-is_at.ensures) refl) c.set_opens.ensures
