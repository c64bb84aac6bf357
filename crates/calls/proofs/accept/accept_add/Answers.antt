-- The tests in order; then the add at the end of the queue, and its label the last.
-- Assumes nothing.
use mathlib.Core.Path.{sym}
use Rattle.calls.proofs.Accepted.{spare}
use Rattle.calls.proofs.accept.accept_add.Goals as goal

pub append_add-requires : goal.append_add-requires
append_add-requires c = (c.requires.proper, (spare c.args.image.now c.requires (sym c.in_ok-test_room.ensures)).queue)
