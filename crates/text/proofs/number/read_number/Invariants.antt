-- `text::number::read_number` meets its contract. The loop's invariant: v is what the digits passed make.
-- Assumes nothing.
use Rattle.text.proofs.Decimals.{Reading}
use Rattle.text.proofs.number.read_number.Given as goal

abbrev pub invariant-loop-b : goal.invariant-loop-b
invariant-loop-b l = Reading l.s l.v l.b-index
