-- `print::keylist::keys_len` meets its contract. The loop's invariant: the sum is the length of the entries before place i.
-- Assumes nothing.
use Rattle.std.proofs.Common.{rules, arith}
use Rattle.text.specs.Text.{commas}
use Rattle.print.proofs.Entries.{length_next}
use Rattle.print.proofs.keylist.keys_len.Goals as goal

pub loop-i-init : goal.loop-i-init
unfolding commas
loop-i-init c = search rules

pub loop-i-preserved : goal.loop-i-preserved
loop-i-preserved c = grind (arith, length_next)
