-- The part of the frame is the line.
-- Assumes nothing.
use Rattle.host.proofs.claim.claim_at.Goals as goal

pub returns : goal.returns
returns c = rw c.part_to.ensures at c.claim_line.ensures
