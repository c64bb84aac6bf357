-- Four texts, one after another.
-- Assumes nothing.
use Rattle.std.proofs.Common.{rules}
use Rattle.text.specs.Text.{ascii}
use Rattle.text.proofs.Pasting.{front_fits, written_then}
use Rattle.load.proofs.write.put_one.Goals as goal

pub returns : goal.returns
unfolding ascii
returns c = search (rules, written_then, front_fits)
