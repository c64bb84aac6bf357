-- `node::node_bytes` meets its contract.
-- Assumes nothing.
use Rattle.records.specs.Records.{encode_node}
use Rattle.records.proofs.Codecs.{FitNode, node_encodes}
use borrow.Author.Rules.{rules}
use Rattle.records.proofs.node.node_bytes.Goals as goal
use Rattle.records.proofs.node.node_bytes.Goals.{Start}

fit : (c : Start) → FitNode c.args.n
fit c = record { value = search rules; links = record { places = search rules }; spare = search rules }

pub returns : goal.returns
unfolding encode_node
returns c = node_encodes c.args.n (fit (goal.at.returns c).Start) _ (search rules)
