-- The tests in order; then the operation at the end of the queue, and its label the last.
-- Assumes nothing.
use mathlib.Core.Path.{sym}
use Prim.Native.Nat.{◌+◌}
use Rattle.graph.specs.Targets.{untouched}
use Rattle.graph.proofs.PackedTargets.{normal_targets}
use Rattle.calls.specs.Inner.Accepting.{named_in}
use Rattle.calls.proofs.Accepted.{spare}
use Rattle.waiting.proofs.Naming.{only_normal}
use Rattle.calls.proofs.accept.accept_operation.Goals as goal

pub append_operation-requires : goal.append_operation-requires
append_operation-requires c =
    let room = spare c.args.image.now c.requires.0 (sym c.in_ok-test_room.ensures) in
    (c.requires.0.proper, room.queue, record { targets = normal_targets (untouched (named_in c.args.targets)) c.requires.1; names = only_normal (c.last-label.result + 1); map_held = c.requires.2 })
