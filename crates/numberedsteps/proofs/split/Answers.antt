-- The cut is inside the unit.
-- Assumes nothing.
use Rattle.std.proofs.Common.{refl, ◌∙◌, arith}
use borrow.Author.Tests.{lt-leb}
use Rattle.flat.specs.Inner.FlatSteps.{split_flat}
use Rattle.state.specs.Inner.State.{flat_in}
use Rattle.state.proofs.Working.{works_refused, works_handed}
use Rattle.units.specs.Inner.Numbered.{span_of}
use Rattle.units.proofs.Located.{at_within, end_within, Stands, stands, one_no, one_yes}
use Rattle.numberedsteps.proofs.split.Goals as goal
use Rattle.numberedsteps.proofs.split.Goals.{In_ok-place}

-- the unit
unit : (a : In_ok-place) → Stands a.args.k (flat_in a.args.image.now) (span_of a.in_ok-place.place)
unit a = stands a.args.k a.args.unit (flat_in a.args.image.now) (span_of a.in_ok-place.place) a.in_ok-place.ensures

pub returns-in_err-place : goal.returns-in_err-place
returns-in_err-place c =
    works_handed c.from_residual.result _ c.from_residual.ensures.1 (one_no c.args.k c.args.unit (flat_in c.args.image.now) (split_flat c.args.after) c.in_err-place.ensures) refl

pub returns-then-after-lt1 : goal.returns-then-after-lt1
returns-then-after-lt1 c =
    works_refused (one_yes c.args.k c.args.unit (flat_in c.args.image.now) (split_flat c.args.after) c.in_ok-place.ensures ∙ rw (lt-leb 1 c.args.after c.if-after-lt1.true) refl) refl

pub set_opens-requires : goal.set_opens-requires
set_opens-requires c =
    let k = c.args.k in
    let q = (flat_in c.args.image.now).queue in
    let w = unit (goal.at.set_opens-requires c).In_ok-place in
    (c.requires.proper, omega (arith, w.size, c.if-place-first.false, end_within k q c.in_ok-place.place.start (at_within k q c.in_ok-place.place.start w.first)))
