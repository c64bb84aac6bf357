-- The keys, then blanks.
-- Assumes nothing.
use Rattle.pagelines.proofs.Blanks.{left_put}
use native.Mathlib.Omega.{arith}
use Rattle.pagelines.proofs.write.put_left.Goals as goal

pub returns : goal.returns
returns c =
    left_put _ _ _ _ _ (omega (arith, c.put_keys-p.ensures.place)) c.requires.0 c.requires.1 c.put_keys-p.ensures c.put_blanks.ensures
