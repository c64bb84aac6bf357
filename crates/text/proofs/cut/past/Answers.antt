-- `text::cut::past` meets its contract: each answer follows from what `starts_with` says of the part.
-- Assumes nothing.
use Rattle.text.proofs.Splits.{stands, differs}
use Rattle.text.proofs.cut.past.Goals as goal

pub returns-then-starts_with : goal.returns-then-starts_with
returns-then-starts_with c = stands c.args.s.now c.args.at _ _ c.starts_with.ensures.value c.requires c.if-starts_with.true

pub returns-else-starts_with : goal.returns-else-starts_with
returns-else-starts_with c = differs c.args.s.now c.args.at _ _ c.starts_with.ensures.value c.if-starts_with.false
