-- `text::cut::part_to` meets its contract: past the end there is nothing, and from a place inside the part is that of `up_to`.
-- Assumes nothing.
use mathlib.Core.Path.{◌∙◌}
use Rattle.text.proofs.Splits.{past_end, from_place}
use Rattle.text.proofs.cut.part_to.Goals as goal

pub returns-then-s-at : goal.returns-then-s-at
returns-then-s-at c =
    let a = c.before.args in past_end a.stop a.at a.s.now c.if-s-at.true

pub returns : goal.returns
returns c =
    let a = c.args in c.up_to.ensures ∙ from_place a.stop a.at a.s.now
