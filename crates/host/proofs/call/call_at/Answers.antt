-- The image's own refusals come first. The part of the frame is the line.
-- Assumes nothing.
use mathlib.Core.Path.{refl}
use Rattle.std.proofs.lemmas.Result.{err_from_is_err_and}
use Rattle.calls.proofs.Refusing.{refusal_some}
use Rattle.host.proofs.Entering.{tested_refused, tested_session}
use Rattle.host.proofs.call.call_at.Goals as goal

pub returns-in_err-image_refusal : goal.returns-in_err-image_refusal
returns-in_err-image_refusal c =
    let p = err_from_is_err_and c.from_residual.result c.from_residual.ensures.1 in
    rw (p.1, p.2) (tested_refused c.in_err-image_refusal.ensures (refusal_some _))

pub accept_on-requires : goal.accept_on-requires
accept_on-requires c = (tested_session c.in_ok-image_refusal.ensures refl, (_, c.parse_call.ensures))

pub returns : goal.returns
returns c = c.accept_on.ensures _ (rw c.part_to.ensures at c.parse_call.ensures)
