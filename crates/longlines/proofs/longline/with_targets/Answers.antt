-- `longlines::longline::with_targets` meets its contract: a refused front and a call are one case each of the definition.
-- Assumes nothing.
use mathlib.Core.Path.{◌≡◌, refl}
use Prim.Native.Nat.{◌≤◌}
use borrow.Author.Tests.{lt-ltb, le-ltb}
use native.Mathlib.Omega.{arith}
use Rattle.graph.specs.Refusals.{refused, done}
use Rattle.graph.specs.Refused.{refusal_number}
use Rattle.graph.specs.declared.remaining.Remaining.TheVariants.{Listed}
use Rattle.std.proofs.lemmas.Result.{err_from_is_err_and}
use Rattle.longlines.proofs.Answers.{targets_refused, targets_done}
use Rattle.longlines.proofs.longline.with_targets.Goals as goal

pub returns-in-Err : goal.returns-in-Err
returns-in-Err c = λ ts p. rw (c.in-Err.is, lt-ltb (refusal_number c.in-Err.refusal) 40 (omega (arith, c.number.ensures))) refl

pub returns-in_err-targets-in-Err-2 : goal.returns-in_err-targets-in-Err-2
returns-in_err-targets-in-Err-2 c = λ ts p.
    let e = err_from_is_err_and c.from_residual.result c.from_residual.ensures.1 in
    let h : c.in-Err.refusal ≡ c.in-Err-2.refusal = cc in
    let late : 40 ≤ refusal_number c.in-Err-2.refusal = rw (← h) (omega (arith, c.number.ensures)) in
    rw (e.1, e.2, c.in-Err-2.is, le-ltb (refusal_number c.in-Err-2.refusal) 40 late)
    (targets_refused ts _ (refused (refusal_number c.in-Err-2.refusal)) (c.in_err-targets-in-Err-2.ensures ts p))

pub returns-in_ok-targets-in-Err-2 : goal.returns-in_ok-targets-in-Err-2
returns-in_ok-targets-in-Err-2 c = λ ts p.
    let h : c.in-Err.refusal ≡ c.in-Err-2.refusal = cc in
    let late : 40 ≤ refusal_number c.in-Err-2.refusal = rw (← h) (omega (arith, c.number.ensures)) in
    rw (c.in-Err-2.is, le-ltb (refusal_number c.in-Err-2.refusal) 40 late)
    (targets_done ts c.in_ok-targets-in-Err-2.field-0 (λ q. refused (refusal_number c.in-Err-2.refusal)) (c.in_ok-targets-in-Err-2.ensures ts p))

pub returns-in_err-keys-in-Ok : goal.returns-in_err-keys-in-Ok
returns-in_err-keys-in-Ok c = λ ts p.
    let e = err_from_is_err_and c.from_residual-in_err-keys-in-Ok.result c.from_residual-in_err-keys-in-Ok.ensures.1 in
    rw (e.1, e.2, c.in-Ok.is) (targets_refused ts _ _ (c.in_err-keys-in-Ok.ensures ts p))

pub returns-in_ok-keys-in-Ok : goal.returns-in_ok-keys-in-Ok
returns-in_ok-keys-in-Ok c = λ ts p.
    let a = c.in-Ok.call in
    rw c.in-Ok.is (targets_done ts c.in_ok-keys-in-Ok.keys (λ q. done (record { kind = a.kind; x = a.x; y = a.y; to = Listed q })) (c.in_ok-keys-in-Ok.ensures ts p))
