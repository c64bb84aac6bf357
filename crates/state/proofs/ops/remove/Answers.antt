-- The image's record goes, and the queue shows it.
-- Assumes nothing.
use Rattle.state.proofs.QueueHeld.{remove_shown}
use Rattle.state.proofs.ops.remove.Goals as goal

pub returns : goal.returns
returns c =
    remove_shown c.args.image.now c.requires.0 _ c.args.i c.remove_op.ensures
