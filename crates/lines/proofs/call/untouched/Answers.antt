-- `lines::call::untouched` meets its contract: all, or the keys of a list.
-- Assumes nothing.
use Rattle.std.proofs.lemmas.Result.{err_from_is_err_and}
use Rattle.std.proofs.Common.{Ok, Err}
use Rattle.lines.proofs.Calls.{targets_law}
use Rattle.lines.proofs.call.untouched.Goals as goal

pub returns-in_err-targets-in-Listed : goal.returns-in_err-targets-in-Listed
returns-in_err-targets-in-Listed c = λ t p.
    let e = err_from_is_err_and c.from_residual.result c.from_residual.ensures.1 in
    rw (e.1, e.2) (targets_law t c.in-Listed.list (Err c.in_err-targets-in-Listed.field-0.0) (rw c.in-Listed.is at p) c.in_err-targets-in-Listed.ensures)

pub returns-in_ok-targets-in-Listed : goal.returns-in_ok-targets-in-Listed
returns-in_ok-targets-in-Listed c = λ t p. targets_law t c.in-Listed.list (Ok c.in_ok-targets-in-Listed.field-0) (rw c.in-Listed.is at p) c.in_ok-targets-in-Listed.ensures
