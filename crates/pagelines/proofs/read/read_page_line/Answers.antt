-- A node's line by its parts.
-- Assumes nothing.
use Rattle.pagelines.proofs.LinesRead.{no_key, no_third, no_value, no_fourteenth, no_links_law, no_newline, line_stands}
use Rattle.pagelines.proofs.read.read_page_line.Goals as goal

pub returns-in_err-key : goal.returns-in_err-key
returns-in_err-key c = rw c.from_residual.ensures (no_key c.args.page.now c.args.at c.in_err-key.ensures)

pub returns-then-page-at-ne32 : goal.returns-then-page-at-ne32
returns-then-page-at-ne32 c = no_third c.args.page.now c.args.at c.if-page-at-ne32.true

pub returns-in_err-value : goal.returns-in_err-value
returns-in_err-value c = rw c.from_residual-in_err-value.ensures (no_value c.args.page.now c.args.at c.in_err-value.ensures)

pub returns-then-page-at-ne32-2 : goal.returns-then-page-at-ne32-2
returns-then-page-at-ne32-2 c = no_fourteenth c.args.page.now c.args.at c.if-page-at-ne32-2.true

pub returns-in_err-links : goal.returns-in_err-links
returns-in_err-links c = rw c.from_residual-in_err-links.ensures (no_links_law c.args.page.now c.args.at c.in_err-links.ensures)

pub returns-then-page-at-ne10 : goal.returns-then-page-at-ne10
returns-then-page-at-ne10 c = no_newline c.args.page.now c.args.at c.if-page-at-ne10.true

pub returns : goal.returns
returns c =
    line_stands _ _ c.requires _ _ c.in_ok-links.links c.in_ok-key.ensures c.if-page-at-ne32.false c.in_ok-value.ensures c.if-page-at-ne32-2.false c.in_ok-links.ensures c.if-page-at-ne10.false
