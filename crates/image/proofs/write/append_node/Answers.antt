-- `write::append_node` meets its contract.
-- Assumes nothing.
use mathlib.Core.Path.{ap, ◌∙◌}
use native.Mathlib.Omega.{arith}
use lib.ListN.{length}
use Rattle.records.proofs.Codecs.{node_size}
use Rattle.image.specs.Inner.Regions.{node_region}
use Rattle.image.proofs.Regions.{count_of}
use Rattle.image.proofs.Writers.{appended, nodes_fit, nodes_written}
use Rattle.image.proofs.write.append_node.Goals as goal

pub append-requires : goal.append-requires
append-requires c = omega (arith, count_of node_region c.args.image.now, ap length c.node_bytes.ensures.bytes, node_size c.args.n, c.requires.0.size)

pub returns : goal.returns
returns c =
    let b = c.node_bytes in
    let a = c.args in
    let sound = c.requires.0 in
    rw c.append.ensures
    (nodes_written a.image.now sound _ _
    (appended node_region a.image.now (nodes_fit a.image.now sound) b.result a.n (ap length b.ensures.bytes ∙ node_size a.n) b.ensures.back c.requires.1))
