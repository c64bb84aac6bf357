-- `text::cut::up_to` meets its contract: what `position` finds is the first stop.
-- Assumes nothing.
use Rattle.std.proofs.Common.{rules}
use Rattle.text.proofs.Splits.{first_stop, no_stop}
use Rattle.text.proofs.cut.up_to.Goals as goal

pub returns-in-Some : goal.returns-in-Some
returns-in-Some c = first_stop c.args.stop c.args.s.now c.in-Some.k (search rules) (search rules) (search rules)

pub returns-in-None : goal.returns-in-None
returns-in-None c = no_stop c.args.stop c.args.s.now (search rules)
