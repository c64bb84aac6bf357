-- The line is the frame's part.
-- Assumes nothing.
use Rattle.host.proofs.step.step_at.Goals as goal

pub returns : goal.returns
returns c = rw c.part_to.ensures at c.step_by.ensures
