-- The loop's invariant: the labels counted, at most four of a call, and those from the call at i on, are the queue's.
-- Assumes nothing.
use Rattle.std.proofs.Common.{◌≡◌, ◌+◌, ◌*◌, ◌≤◌, length, drop}
use Rattle.flat.specs.Inner.Queues.{queued}
use Rattle.state.specs.Inner.State.{flat_in}
use Rattle.waiting.proofs.labels_waiting.Given as goal

abbrev pub invariant-loop-i : goal.invariant-loop-i
invariant-loop-i l =
    record {
      few : l.labels ≤ 4 * l.i;
      rest : l.labels + length (queued (drop l.i (flat_in l.image).queue)) ≡ length (queued (flat_in l.image).queue);
    }
