-- The head by its parts.
-- Assumes nothing.
use Rattle.text.specs.Text.{ascii}
use Rattle.text.specs.Inner.PartsRead.{LiteralAt}
use Rattle.std.specs.Prelude.{Some}
use Rattle.pagelines.proofs.LinesRead.{no_word, no_count, head_stands, no_head_newline}
use Rattle.pagelines.proofs.read.read_page_head.Goals as goal
use Rattle.pagelines.proofs.read.read_page_head.Goals.{In_ok-from}

-- what `past` found
word : (c : In_ok-from) → LiteralAt c.args.page.now 0 (ascii "nodes") (Some c.in_ok-from.from)
unfolding ascii
word c = c.in_ok-from.ensures

pub returns-in_err-from : goal.returns-in_err-from
unfolding ascii
returns-in_err-from c = rw c.from_residual.ensures (no_word _ c.in_err-from.ensures)

pub returns-in_err-n : goal.returns-in_err-n
returns-in_err-n c = let f = (goal.at.returns-in_err-n c).In_ok-from in rw c.from_residual-in_err-n.ensures (no_count _ _ (word f) c.in_err-n.ensures)

pub returns-then-page-ne10 : goal.returns-then-page-ne10
returns-then-page-ne10 c = no_head_newline _ c.if-page-ne10.true

pub returns : goal.returns
returns c = let f = (goal.at.returns c).In_ok-from in head_stands _ _ (word f) c.requires _ c.in_ok-n.ensures c.if-page-ne10.false
