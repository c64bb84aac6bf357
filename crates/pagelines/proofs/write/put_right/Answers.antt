-- Blanks, then the decimal.
-- Assumes nothing.
use Rattle.pagelines.proofs.Blanks.{right_put}
use Rattle.pagelines.proofs.write.put_right.Goals as goal

pub returns : goal.returns
returns c =
    right_put _ _ _ _ _ c.decimal_len.ensures.text c.requires.0 c.requires.1 c.put_blanks-p.ensures c.put_decimal.ensures
