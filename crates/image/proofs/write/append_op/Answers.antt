-- `write::append_op` meets its contract.
-- Assumes nothing.
use mathlib.Core.Path.{ap, ◌∙◌}
use native.Mathlib.Omega.{arith}
use lib.ListN.{length}
use Rattle.records.proofs.Codecs.{op_size}
use Rattle.image.specs.Inner.Regions.{op_region}
use Rattle.image.proofs.Regions.{count_of}
use Rattle.image.proofs.Writers.{appended, ops_fit, ops_written}
use Rattle.image.proofs.write.append_op.Goals as goal

pub append-requires : goal.append-requires
append-requires c = omega (arith, count_of op_region c.args.image.now, ap length c.op_bytes.ensures.bytes, op_size c.args.o, c.requires.0.size)

pub returns : goal.returns
returns c =
    let b = c.op_bytes in
    let a = c.args in
    let sound = c.requires.0 in
    rw c.append.ensures
    (ops_written a.image.now sound _ _
    (appended op_region a.image.now (ops_fit a.image.now sound) b.result a.o (ap length b.ensures.bytes ∙ op_size a.o) b.ensures.back c.requires.1))
