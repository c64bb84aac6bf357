-- A load has four arguments.
-- Assumes nothing.
use Rattle.cgtool.proofs.Asking.{other_number}
use Rattle.cgtool.proofs.commands.load_asked.Goals as goal

pub returns-then-given-ne4 : goal.returns-then-given-ne4
returns-then-given-ne4 c = other_number _ _ _ c.if-given-ne4.true
