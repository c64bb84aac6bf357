-- What std says of a beginning, in this crate's word.
-- Assumes nothing.
use Rattle.text.proofs.Beginnings.{starts_by}
use Rattle.text.proofs.cut.starts_with.Goals as goal

pub returns : goal.returns
returns c = starts_by _ _ _ c.starts_with.ensures.value
