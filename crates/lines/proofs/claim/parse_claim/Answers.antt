-- `lines::claim::parse_claim` meets its contract: the label, and the end.
-- Assumes nothing.
use mathlib.Core.Path.{refl, sym, ◌∙◌}
use native.Mathlib.Omega.{arith}
use borrow.Author.Tests.{ltb-false}
use borrow.Author.Rules.{rules}
use Rattle.text.specs.Text.{ascii}
use Rattle.lines.proofs.Claims.{claim_not, claim_more, claim_is}
use Rattle.lines.proofs.claim.parse_claim.Goals as goal

pub returns-in_default : goal.returns-in_default
unfolding ascii
returns-in_default c = claim_not c.args.line.now _ (omega (arith, ltb-false _ _ (sym c.too_long.ensures ∙ c.if-too_long.false))) c.in_default.ensures refl

pub returns-then-n-line : goal.returns-then-n-line
unfolding ascii
returns-then-n-line c = claim_more c.args.line.now _ (omega (arith, ltb-false _ _ (sym c.too_long.ensures ∙ c.if-too_long.false))) _ _ c.in-Some.ensures (search rules) c.if-n-line.true refl

pub returns : goal.returns
unfolding ascii
returns c = claim_is c.args.line.now _ (omega (arith, ltb-false _ _ (sym c.too_long.ensures ∙ c.if-too_long.false))) _ _ c.in-Some.ensures (search rules) c.if-n-line.false refl
