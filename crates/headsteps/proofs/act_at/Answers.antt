-- The node after the act, and then the operation after it.
-- Assumes nothing.
use Rattle.graph.proofs.KeyLaws.{normal}
use Rattle.state.specs.Inner.State.{flat_in}
use Rattle.headsteps.proofs.Heads.{in_nodes}
use Rattle.headsteps.proofs.Parts.{act_shown}
use Rattle.headsteps.proofs.act_at.Goals as goal

pub put_body-requires : goal.put_body-requires
put_body-requires c =
    (c.requires.0, rw c.from-i.ensures (in_nodes c.args.k (flat_in c.args.image.now) c.requires.1).inside, normal _ c.links_after-links.ensures)

pub returns : goal.returns
returns c =
    let o = c.operation_at-o in
    let n = c.body_at-n in
    act_shown (flat_in c.args.image.now) c.args.k c.args.p o.result n.result o.ensures (rw c.from-i.ensures at n.ensures)
    _ _ _ _ _ c.value_after-value.ensures c.links_after-links.ensures (rw c.from-i.ensures at c.put_body.ensures) c.acted-after.ensures c.put_operation.ensures
