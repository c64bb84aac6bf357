-- `keylists::sofar::ListSoFar::with_comma` meets its contract: the number that has begun is read, and there must be one.
-- Assumes nothing.
use native.Mathlib.Omega.{arith}
use Rattle.std.proofs.Common.{rules, None}
use Rattle.keylists.proofs.ListsBegun.{breaks_at_law, no_digit, list_more}
use Rattle.keylists.proofs.sofar.ListSoFar.with_comma.Goals as goal

pub returns-in_err-self : goal.returns-in_err-self
returns-in_err-self c = λ s g.
    rw c.from_residual.ensures (breaks_at_law s c.args.self g None c.in_err-self.was 44 (no_digit None 44 (λ lo hi. omega arith) (λ v e h. cc)))

pub returns : goal.returns
returns c = λ s g. list_more s c.args.self g _ c.in_ok-self.was (search rules) _ (c.with.ensures g.read g.known)
