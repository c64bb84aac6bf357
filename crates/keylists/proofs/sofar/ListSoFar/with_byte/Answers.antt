-- `keylists::sofar::ListSoFar::with_byte` meets its contract: a comma, a digit, or a byte that no list has.
-- Assumes nothing.
use mathlib.Core.Path.{refl}
use Rattle.text.proofs.Decimals.{outside}
use Rattle.keylists.proofs.ListsBegun.{breaks_at_law, no_digit}
use Rattle.keylists.proofs.sofar.ListSoFar.with_byte.Goals as goal

pub returns-else-is_ascii_digit : goal.returns-else-is_ascii_digit
returns-else-is_ascii_digit c = λ s g. breaks_at_law s c.args.self g c.args.self.number refl c.args.b (no_digit c.args.self.number c.args.b (outside c.if-is_ascii_digit.false c.is_ascii_digit.ensures.cases) (λ v e. c.if-b-eq44.false))
