-- The line has no room, or is written and the result removed.
-- Assumes nothing.
use Rattle.host.proofs.Claiming.{no_room, is_claimed}
use Rattle.host.proofs.claim.claim_result.Goals as goal

pub returns-then-n-out : goal.returns-then-n-out
returns-then-n-out c =
    let o = c.call_result-o in
    let a = c.args in
    no_room a.image.now a.out.now a.at o.result o.ensures _ (rw c.from-label.ensures at c.result_len-n.ensures) c.if-n-out.true

pub returns : goal.returns
returns c =
    let o = c.call_result-o in
    let a = c.args in
    is_claimed a.image.now a.out.now a.at o.result o.ensures _ (rw c.from-label.ensures at c.result_len-n.ensures) _ _ _ c.if-n-out.false (rw c.from-label.ensures at c.put_result.ensures) c.remove.ensures
