-- `nodes::put_body` meets its contract.
-- Assumes nothing.
use Rattle.state.proofs.NodeLaws.{body_put}
use Rattle.state.proofs.nodes.put_body.Goals as goal

pub returns : goal.returns
returns c =
    body_put c.args.image.now c.requires.0 c.args.i c.requires.1 _ c.args.value c.args.links c.node_at-n.ensures c.requires.2 c.put_node.ensures
