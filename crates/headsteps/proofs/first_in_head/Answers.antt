-- What the search of the head unit asks.
-- Assumes nothing.
use Rattle.state.specs.Inner.State.{flat_in}
use Rattle.units.specs.Inner.Numbered.{span_of}
use Rattle.headsteps.proofs.Heads.{head, head_ops}
use Rattle.headsteps.proofs.first_in_head.Goals as goal

pub first_for-p-requires : goal.first_for-p-requires
first_for-p-requires c =
    let a = c.args in
    let u = span_of c.in_ok-head.head in
    let h = head a.k (flat_in a.image.now) u c.in_ok-head.ensures in
    (c.requires.proper, h.before, h.fits, head_ops a.image.now c.requires a.k u c.in_ok-head.ensures)
