-- `nodes::body_at` meets its contract.
-- Assumes nothing.
use Rattle.state.proofs.NodeLaws.{body_of}
use Rattle.state.proofs.nodes.body_at.Goals as goal

pub returns : goal.returns
returns c =
    body_of c.args.image.now c.requires.0 c.args.i c.requires.1 c.node_at-n.ensures
