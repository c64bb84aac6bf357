-- The targets of the record.
-- Assumes nothing.
use Rattle.state.proofs.QueueRecords.{targets_of}
use Rattle.state.proofs.ops.targets_at.Goals as goal

pub returns : goal.returns
returns c =
    let r = c.record_at in
    rw (r.ensures.is, c.remaining_of.ensures) (targets_of r.result r.ensures.clean)
