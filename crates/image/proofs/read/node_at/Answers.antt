-- `read::node_at` meets its contract.
-- Assumes nothing.
use mathlib.Core.Path.{ap, ◌∙◌}
use Rattle.records.specs.Inner.Decoded.{decode_node}
use Rattle.image.specs.Inner.Regions.{record_at, node_region}
use Rattle.image.proofs.Regions.{record_of}
use Rattle.image.proofs.read.node_at.Goals as goal

pub returns : goal.returns
unfolding record_at
returns c = c.read_node.ensures ∙ ap decode_node c.record_bytes.ensures.bytes ∙ record_of node_region c.args.image.now c.args.i c.requires.1
