-- The record at i is clean, and stands for the operation there.
-- Assumes nothing.
use Rattle.state.proofs.QueueHeld.{reads_at}
use Rattle.state.proofs.ops.record_at.Goals as goal

pub returns : goal.returns
returns c =
    rw c.op_at.ensures (reads_at c.args.image.now c.requires.0 c.args.i c.requires.1)
