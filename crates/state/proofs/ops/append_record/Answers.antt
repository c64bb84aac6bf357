-- A record at the image's end, and the queue shows it.
-- Assumes nothing.
use Rattle.state.proofs.QueueHeld.{append_shown}
use Rattle.state.proofs.ops.append_record.Goals as goal

pub returns : goal.returns
returns c =
    append_shown c.args.image.now c.requires.0 _ c.args.r c.requires.2 c.append_op.ensures
