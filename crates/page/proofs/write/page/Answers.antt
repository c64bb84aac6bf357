-- Each answer is a case of `WritesPage`.
-- Assumes nothing.
use Rattle.std.proofs.Common.{arith}
use Rattle.std.proofs.lemmas.Result.{err_from_is_err_and}
use Rattle.calls.proofs.Refusing.{refusal_some}
use Rattle.host.specs.Entries.{ImageOf}
use Rattle.host.proofs.Entering.{tested_refused, tested_session, session_valid}
use Rattle.valid.specs.Inner.Decoded.{session_of}
use Rattle.page.proofs.ImagePages.{nodes_few, page_size}
use Rattle.page.proofs.Answering.{no_room, is_written}
use Rattle.page.proofs.write.page.Goals as goal
use Rattle.page.proofs.write.page.Goals.{In_ok-image_refusal}

held : (c : In_ok-image_refusal) → ImageOf c.args.image.now (session_of c.args.image.now)
held c = tested_session c.in_ok-image_refusal.ensures (omega arith)

pub returns-in_err-image_refusal : goal.returns-in_err-image_refusal
returns-in_err-image_refusal c = let p = err_from_is_err_and c.from_residual.result c.from_residual.ensures.1 in rw (p.1, p.2) (tested_refused c.in_err-image_refusal.ensures (refusal_some _))

pub total-requires : goal.total-requires
total-requires c = (session_valid (held (goal.at.total-requires c).In_ok-image_refusal)).proper

pub returns-then-out-total : goal.returns-then-out-total
returns-then-out-total c = no_room _ _ (held (goal.at.returns-then-out-total c).In_ok-image_refusal) (omega arith)

pub put_page-requires : goal.put_page-requires
put_page-requires c = (session_valid (held (goal.at.put_page-requires c).In_ok-image_refusal), omega arith)

pub overflow_cast-result : goal.overflow_cast-result
overflow_cast-result c =
    let v = session_valid (held (goal.at.overflow_cast-result c).In_ok-image_refusal) in
    omega (arith, page_size _ v, nodes_few _ v)

pub returns : goal.returns
returns c = is_written _ _ (held (goal.at.returns c).In_ok-image_refusal) _ _ (omega arith) c.put_page.ensures
