-- `print::keylist::keys_len` meets its contract. The loop's invariant: the sum is the length of the entries before place i.
-- Assumes nothing.
use Prim.Native.Nat.{◌*◌, ◌≤◌}
use mathlib.Core.Path.{◌≡◌}
use lib.ListN.{length, take}
use Rattle.text.specs.Text.{commas}
use Rattle.print.proofs.keylist.keys_len.Given as goal

abbrev pub invariant-loop-i : goal.invariant-loop-i
invariant-loop-i l = (l.sum ≡ length (commas (take l.i l.key-items))) × (l.sum ≤ 11 * l.i)
