-- `nodes::append_body` meets its contract.
-- Assumes nothing.
use mathlib.Core.Path.{ap, ◌∙◌}
use Prim.Native.Nat.{◌+◌}
use native.Mathlib.Numerals.{add-one}
use Rattle.state.proofs.NodeLaws.{node_count_law, body_appended}
use Rattle.state.proofs.nodes.append_body.Goals as goal

pub returns : goal.returns
returns c =
    let n = c.node_count in
    let k = ap (λ m. m + 1) (n.ensures ∙ node_count_law c.args.image.now c.requires.0) ∙ add-one _ in
    body_appended c.args.image.now c.requires.0 _ (n.result + 1) c.args.value _ k c.none.ensures c.append_node.ensures
