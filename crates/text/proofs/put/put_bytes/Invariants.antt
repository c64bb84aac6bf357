-- `text::put::put_bytes` meets its contract. The loop's invariant: the first i bytes of the literal are written.
-- Assumes nothing.
use Prim.Native.Nat.{◌+◌}
use mathlib.Core.Path.{◌≡◌}
use lib.ListN.{length, take}
use Rattle.text.specs.Inner.Put.{TextPut}
use Rattle.text.proofs.put.put_bytes.Given as goal

abbrev pub invariant-loop-i : goal.invariant-loop-i
invariant-loop-i l = (length l.out ≡ length l.initial.out) × TextPut l.initial.out l.at (take l.i l.literal) l.out (l.at + l.i)
