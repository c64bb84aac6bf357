-- The image's record is put, and the queue shows it.
-- Assumes nothing.
use Rattle.state.proofs.QueueHeld.{put_shown}
use Rattle.state.proofs.ops.put_record.Goals as goal

pub returns : goal.returns
returns c =
    let a = c.args in
    put_shown a.image.now c.requires.0 _ a.i a.r c.requires.2 c.put_op.ensures
