-- `write::put_op` meets its contract.
-- Assumes nothing.
use mathlib.Core.Path.{ap, ◌∙◌}
use lib.ListN.{length}
use Rattle.records.proofs.Codecs.{op_size}
use Rattle.image.specs.Inner.Regions.{op_region}
use Rattle.image.proofs.Writers.{put_change, ops_fit, ops_written}
use Rattle.image.proofs.write.put_op.Goals as goal

pub returns : goal.returns
returns c =
    let b = c.op_bytes in
    let a = c.args in
    let sound = c.requires.0 in
    rw c.put.ensures
    (ops_written a.image.now sound _ _
    (put_change op_region a.image.now (ops_fit a.image.now sound) b.result a.o (ap length b.ensures.bytes ∙ op_size a.o) b.ensures.back a.i c.requires.1))
