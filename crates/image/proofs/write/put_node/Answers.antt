-- `write::put_node` meets its contract.
-- Assumes nothing.
use mathlib.Core.Path.{ap, ◌∙◌}
use lib.ListN.{length}
use Rattle.records.proofs.Codecs.{node_size}
use Rattle.image.specs.Inner.Regions.{node_region}
use Rattle.image.proofs.Writers.{put_change, nodes_fit, nodes_written}
use Rattle.image.proofs.write.put_node.Goals as goal

pub returns : goal.returns
returns c =
    let b = c.node_bytes in
    let a = c.args in
    let sound = c.requires.0 in
    rw c.put.ensures
    (nodes_written a.image.now sound _ _
    (put_change node_region a.image.now (nodes_fit a.image.now sound) b.result a.n (ap length b.ensures.bytes ∙ node_size a.n) b.ensures.back a.i c.requires.1))
