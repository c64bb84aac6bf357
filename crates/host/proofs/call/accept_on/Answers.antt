-- The line's own refusals come first, then the session's; each is a case of `Calls`.
-- Assumes nothing.
use mathlib.Core.Path.{refl, ◌∙◌}
use Rattle.std.proofs.lemmas.Result.{err_from_is_err_and}
use Rattle.calls.proofs.Refusing.{refusal_some}
use Rattle.session.specs.Inner.Accepts.{call_of}
use Rattle.host.proofs.Entering.{session_valid}
use Rattle.host.proofs.Calling.{line_refused, line_good, line_accepts, not_accepted, is_accepted}
use Rattle.host.proofs.call.accept_on.Goals as goal

pub returns-in_err-call : goal.returns-in_err-call
returns-in_err-call c = λ line read.
    let p = err_from_is_err_and c.from_residual.result c.from_residual.ensures.1 in
    rw (p.1, p.2) (line_refused line _ _ c.requires.0 (rw c.in_err-call.was at read))

pub accept-requires : goal.accept-requires
accept-requires c = (session_valid c.requires.0, line_good _ _ (rw c.in_ok-call.was at c.requires.1.1))

pub returns-in_err-accept : goal.returns-in_err-accept
returns-in_err-accept c = λ line read.
    let p = err_from_is_err_and c.from_residual-in_err-accept.result c.from_residual-in_err-accept.ensures.1 in
    rw (p.1, p.2) (line_accepts line _ (rw c.in_ok-call.was at read) _ _ c.requires.0 (not_accepted _ _ (call_of c.in_ok-call.call) _ c.in_err-accept.ensures.0 (refusal_some _)))

pub last-requires : goal.last-requires
last-requires c = c.in_ok-accept.ensures.1.proper

pub returns : goal.returns
returns c = λ line read. line_accepts line _ (rw c.in_ok-call.was at read) _ _ c.requires.0 (is_accepted _ _ (call_of c.in_ok-call.call) _ c.in_ok-accept.ensures.0 _ c.requires.0 refl (c.from.ensures ∙ c.last.ensures))
