-- `print::keylist::put_keys` meets its contract. The loop's invariant: the entries before place i are written.
-- Assumes nothing.
use lib.ListN.{take}
use Rattle.text.specs.Text.{commas}
use Rattle.text.specs.Inner.Put.{TextPut}
use Rattle.print.proofs.keylist.put_keys.Given as goal

abbrev pub invariant-loop-i : goal.invariant-loop-i
invariant-loop-i l = TextPut l.initial.out l.at (commas (take l.i l.key-items)) l.out l.p
