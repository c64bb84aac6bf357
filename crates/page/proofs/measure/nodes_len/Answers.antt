-- The head says how many lines follow.
-- Assumes nothing.
use Rattle.page.proofs.Measured.{too_short, other_length_law, page_measured}
use Rattle.page.proofs.measure.nodes_len.Goals as goal

pub returns-then-page-lt38 : goal.returns-then-page-lt38
returns-then-page-lt38 c = too_short _ c.if-page-lt38.true

pub returns-then-page-n : goal.returns-then-page-n
returns-then-page-n c = other_length_law _ _ c.in_ok-n.ensures c.if-page-n.true

pub returns : goal.returns
returns c = page_measured _ _ c.in_ok-n.ensures c.if-page-n.false _ c.lines_len.ensures
