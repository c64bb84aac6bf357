-- The loop's invariant: the labels counted, at most four of a call, and those from the call at i on, are the queue's.
-- Assumes nothing.
use Rattle.std.proofs.Common.{◌≡◌, ◌≤◌, length, ap, ◌∙◌, arith, rules}
use Rattle.flat.specs.Inner.Queues.{labels_in}
use Rattle.state.specs.Inner.State.{flat_in}
use Rattle.state.proofs.ResultLaws.{labels_count}
use Rattle.waiting.proofs.Loops.{labels_next, call_at}
use Rattle.waiting.proofs.Naming.{labels_few}
use Rattle.waiting.proofs.labels_waiting.Goals as goal

pub loop-i-preserved : goal.loop-i-preserved
loop-i-preserved c =
    let q = (flat_in c.args.image.now).queue in
    let l = c.labels_at.result in
    let four : length l.label ≡ 4 = search rules in
    let few : l.count ≤ 4 = labels_few l c.labels_at.ensures.normal four in
    let count : l.count ≡ length (labels_in (call_at q c.loop-i.i)) = labels_count l c.labels_at.ensures.normal ∙ ap length c.labels_at.ensures.is in
    let next = labels_next q c.loop-i.i (omega (arith, c.total-i-end.ensures.is)) in
    record { few = omega arith; rest = omega arith }
