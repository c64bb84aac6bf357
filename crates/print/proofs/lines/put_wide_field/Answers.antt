-- Its texts, one after another.
-- Assumes nothing.
use Rattle.std.proofs.Common.{rules}
use Rattle.text.specs.Text.{ascii}
use Rattle.text.proofs.Pasting.{written_then}
use Rattle.print.proofs.lines.put_wide_field.Goals as goal

pub returns : goal.returns
unfolding ascii
returns c = search (rules, written_then)
