-- The record with another station.
-- Assumes nothing.
use Rattle.flat.specs.Inner.FlatSteps.{move_to}
use Rattle.valid.specs.Inner.Decoded.{tagged_of}
use Rattle.state.proofs.QueueHeld.{alter_shown}
use Rattle.state.proofs.ops.set_place.Goals as goal

pub returns : goal.returns
returns c =
    let r = c.record_at-r in
    alter_shown c.args.image.now c.requires.0 _ (move_to c.args.k) c.args.i (tagged_of r.result) c.requires.1 r.ensures.is c.put_record.ensures
