-- The record with another station and no mark.
-- Assumes nothing.
use Rattle.flat.specs.Inner.FlatSteps.{move_on}
use Rattle.valid.specs.Inner.Decoded.{tagged_of}
use Rattle.state.proofs.QueueRecords.{reads_moved}
use Rattle.state.proofs.QueueHeld.{alter_shown}
use Rattle.state.proofs.ops.move_op.Goals as goal

pub returns : goal.returns
returns c =
    let r = c.record_at-r in
    alter_shown c.args.image.now c.requires.0 _ (move_on c.args.k) c.args.i (tagged_of r.result) c.requires.1 r.ensures.is
    (rw (reads_moved r.result r.ensures.clean c.args.k).is c.put_record.ensures)
