-- The record that opens its unit, or no longer does.
-- Assumes nothing.
use Rattle.std.proofs.Common.{◌≡◌, cond, sym, rules}
use Rattle.flat.specs.Inner.FlatSteps.{open_as}
use Rattle.valid.specs.Inner.Decoded.{tagged_of}
use Rattle.state.proofs.QueueRecords.{reads_opened}
use Rattle.state.proofs.QueueHeld.{alter_shown}
use Rattle.state.proofs.ops.set_opens.Goals as goal

pub returns : goal.returns
returns c =
    let r = c.record_at-r in
    let m = reads_opened r.result r.ensures.clean c.args.b in
    let flag : c.from.result ≡ cond c.args.b 1 0 = search rules in
    alter_shown c.args.image.now c.requires.0 _ (open_as c.args.b) c.args.i (tagged_of r.result) c.requires.1 r.ensures.is
    (rw (m.is, sym flag) c.put_record.ensures)
