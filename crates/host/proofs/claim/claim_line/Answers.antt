-- Each answer is a case of `Claims`.
-- Assumes nothing.
use mathlib.Core.Path.{refl}
use Rattle.std.proofs.lemmas.Result.{err_from_is_err_and}
use Rattle.calls.proofs.Refusing.{refusal_some}
use Rattle.valid.specs.Inner.Decoded.{session_of}
use Rattle.host.specs.Entries.{ImageOf}
use Rattle.host.proofs.Entering.{tested_refused, tested_session}
use Rattle.host.proofs.Claiming.{line_refused, line_claims}
use Rattle.host.proofs.claim.claim_line.Goals as goal
use Rattle.host.proofs.claim.claim_line.Goals.{In_ok-image_refusal}

-- past the test the image holds a session
holds : (c : In_ok-image_refusal) → ImageOf c.args.image.now (session_of c.args.image.now)
holds c = tested_session c.in_ok-image_refusal.ensures refl

pub returns-in_err-image_refusal : goal.returns-in_err-image_refusal
returns-in_err-image_refusal c =
    let p = err_from_is_err_and c.from_residual.result c.from_residual.ensures.1 in
    rw (p.1, p.2) (tested_refused c.in_err-image_refusal.ensures (refusal_some _))

pub returns-in_err-label : goal.returns-in_err-label
returns-in_err-label c =
    let p = err_from_is_err_and c.from_residual-in_err-label.result c.from_residual-in_err-label.ensures.1 in
    rw (p.1, p.2) (line_refused _ _ _ (holds (goal.at.returns-in_err-label c).In_ok-image_refusal) _ c.in_err-label.ensures)

pub claim_label-requires : goal.claim_label-requires
claim_label-requires c = holds (goal.at.claim_label-requires c).In_ok-image_refusal

pub returns : goal.returns
returns c = line_claims _ _ _ (holds (goal.at.returns c).In_ok-image_refusal) _ _ c.in_ok-label.ensures c.claim_label.ensures
