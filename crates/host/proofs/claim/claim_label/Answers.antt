-- What the session makes of the claim: refused, or the result at the place that was found is claimed.
-- Assumes nothing.
use mathlib.Core.Path.{refl}
use Rattle.std.proofs.lemmas.Result.{err_from_is_err_and}
use Rattle.host.proofs.Entering.{session_valid}
use Rattle.host.proofs.Claiming.{claim_served_law}
use Rattle.host.proofs.claim.claim_label.Goals as goal

pub find-requires : goal.find-requires
find-requires c = session_valid c.requires

pub returns-in_err-at : goal.returns-in_err-at
returns-in_err-at c =
    let p = err_from_is_err_and c.from_residual.result c.from_residual.ensures.1 in
    rw (p.1, p.2) (claim_served_law c.args.image.now c.args.out.now c.args.claimed c.in_err-at.ensures refl)

pub claim_result-requires : goal.claim_result-requires
claim_result-requires c = (session_valid c.requires, record { label = c.args.claimed; takes = c.in_ok-at.ensures })

pub returns : goal.returns
returns c = claim_served_law c.args.image.now c.args.out.now c.args.claimed c.in_ok-at.ensures.taken c.claim_result.ensures
