-- `read::op_at` meets its contract.
-- Assumes nothing.
use mathlib.Core.Path.{ap, ◌∙◌}
use Rattle.records.specs.Inner.Decoded.{decode_op}
use Rattle.image.specs.Inner.Regions.{record_at, op_region}
use Rattle.image.proofs.Regions.{record_of}
use Rattle.image.proofs.read.op_at.Goals as goal

pub returns : goal.returns
unfolding record_at
returns c = c.read_op.ensures ∙ ap decode_op c.record_bytes.ensures.bytes ∙ record_of op_region c.args.image.now c.args.i c.requires.1
