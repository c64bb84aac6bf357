-- `longlines::longline::list_at` meets its contract: what `rposition` finds is the last equals sign.
-- Assumes nothing.
use borrow.Author.Rules.{rules}
use Rattle.longlines.proofs.Cuts.{last_equals, no_equals_sign}
use Rattle.longlines.proofs.longline.list_at.Goals as goal

pub returns-in-Some : goal.returns-in-Some
returns-in-Some c = last_equals c.args.line.now c.in-Some.k (search rules) (search rules) (search rules)

pub returns-in-None : goal.returns-in-None
returns-in-None c = no_equals_sign c.args.line.now (search rules)
