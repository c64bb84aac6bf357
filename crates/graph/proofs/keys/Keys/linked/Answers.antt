-- A list that is not full has room for the key, before the zeros.
-- Assumes nothing.
use mathlib.Core.Path.{sym, ◌∙◌}
use Rattle.graph.proofs.KeyLaws.{linked_full, linked_more}
use Rattle.graph.proofs.keys.Keys.linked.Goals as goal

pub returns-then-is_full : goal.returns-then-is_full
returns-then-is_full c = linked_full c.args.self c.args.k c.requires (sym c.is_full.ensures ∙ c.if-is_full.true)

pub returns : goal.returns
returns c = rw c.from.ensures (linked_more c.args.self c.args.k c.requires (sym c.is_full.ensures ∙ c.if-is_full.false))
