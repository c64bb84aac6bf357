-- The answer follows from what opening says of the length.
-- Assumes nothing.
use mathlib.Core.Path.{◌≡◌, ◌∙◌}
use mathlib.Core.Bool.{true, false}
use borrow.Author.Tests.{not-true, not-false}
use mir.Syntax.{w64}
use mir.Val.{to_z, of_z}
use Rattle.host.proofs.Entering.{is_opened}
use mathlib.Core.Path.{ap}
use mathlib.Core.Bool.{not}
use borrow.Author.Rules.{rules}
use Rattle.host.proofs.lent.cg_open.Goals as goal

pub returns-then-not-open : goal.returns-then-not-open
returns-then-not-open c =
    let same : to_z w64 (of_z w64 c.returned_number.result) ≡ c.returned_number.result = search rules in
    is_opened c.open.ensures false (not-true _ (ap not c.if-not-open.true)) (same ∙ c.returned_number.ensures)

pub returns : goal.returns
returns c =
    let same : to_z w64 (of_z w64 c.returned_number-2.result) ≡ c.returned_number-2.result = search rules in
    is_opened c.open.ensures true (not-false _ (ap not c.if-not-open.false)) (same ∙ c.returned_number-2.ensures)
