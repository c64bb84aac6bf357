-- Each answer is a case of `Takes`.
-- Assumes nothing.
use mathlib.Core.Path.{refl}
use Rattle.std.proofs.lemmas.Result.{err_from_is_err_and}
use Rattle.calls.proofs.Refusing.{refusal_some}
use Rattle.valid.specs.Inner.Decoded.{session_of}
use Rattle.host.specs.Entries.{ImageOf}
use Rattle.host.proofs.Entering.{tested_refused, tested_session, session_valid}
use Rattle.host.proofs.Stepping.{line_refused, line_drained, line_not_taken, line_taken}
use Rattle.host.proofs.step.step_by.Goals as goal
use Rattle.host.proofs.step.step_by.Goals.{In_ok-image_refusal}

-- past the test the image holds a session
holds : (c : In_ok-image_refusal) → ImageOf c.args.image.now (session_of c.args.image.now)
holds c = tested_session c.in_ok-image_refusal.ensures refl

pub returns-in_err-image_refusal : goal.returns-in_err-image_refusal
returns-in_err-image_refusal c =
    let p = err_from_is_err_and c.from_residual.result c.from_residual.ensures.1 in
    rw (p.1, p.2) (λ t. tested_refused c.in_err-image_refusal.ensures (refusal_some _))

pub returns-in_err-asked : goal.returns-in_err-asked
returns-in_err-asked c =
    let p = err_from_is_err_and c.from_residual-in_err-asked.result c.from_residual-in_err-asked.ensures.1 in
    rw (p.1, p.2) (line_refused _ _ (holds (goal.at.returns-in_err-asked c).In_ok-image_refusal) _ c.in_err-asked.ensures)

pub drain-requires : goal.drain-requires
drain-requires c = session_valid (holds (goal.at.drain-requires c).In_ok-image_refusal)

pub returns-in-Drain : goal.returns-in-Drain
returns-in-Drain c = line_drained _ _ (holds (goal.at.returns-in-Drain c).In_ok-image_refusal) _ _ (rw c.in-Drain.is at c.in_ok-asked.ensures) c.drain.ensures

pub take-requires : goal.take-requires
take-requires c = session_valid (holds (goal.at.take-requires c).In_ok-image_refusal)

pub returns-in_err-take-in-Work : goal.returns-in_err-take-in-Work
returns-in_err-take-in-Work c =
    let p = err_from_is_err_and c.from_residual-in_err-take-in-Work.result c.from_residual-in_err-take-in-Work.ensures.1 in
    rw (p.1, p.2) (line_not_taken _ _ (holds (goal.at.returns-in_err-take-in-Work c).In_ok-image_refusal) _ c.in-Work.w _ (rw c.in-Work.is at c.in_ok-asked.ensures) c.in_err-take-in-Work.ensures.0 _ refl)

pub returns-in_ok-take-in-Work : goal.returns-in_ok-take-in-Work
returns-in_ok-take-in-Work c = line_taken _ _ (holds (goal.at.returns-in_ok-take-in-Work c).In_ok-image_refusal) _ c.in-Work.w _ (rw c.in-Work.is at c.in_ok-asked.ensures) c.in_ok-take-in-Work.ensures.0 _ refl c.tally_place.ensures
