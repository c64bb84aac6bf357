-- What `position` finds is the first byte that is no blank.
-- Assumes nothing.
use Rattle.std.proofs.Common.{rules, ◌∙◌}
use Rattle.text.proofs.Splits.{from_eq}
use Rattle.pagelines.proofs.BlanksRead.{past_first, past_none}
use Rattle.pagelines.proofs.columns.past_blanks.Goals as goal

pub returns-in-Some : goal.returns-in-Some
returns-in-Some c = from_eq c.args.s.now c.in-Some.first ∙ past_first c.args.s.now c.in-Some.first (search rules) (search rules) (search rules)

pub returns-in-None : goal.returns-in-None
returns-in-None c = past_none c.args.s.now (search rules)
