-- The loop's invariant: the sum is the length of the lines before place i.
-- Assumes nothing.
use Prim.Native.Nat.{◌*◌, ◌≤◌}
use mathlib.Core.Path.{◌≡◌}
use lib.ListN.{length, take}
use Rattle.state.specs.Inner.State.{flat_in}
use Rattle.listing.specs.Inner.Rows.{rows_of, joined}
use Rattle.listing.proofs.measure.rows_len.Given as goal

abbrev pub invariant-loop-i : goal.invariant-loop-i
invariant-loop-i l = (l.sum ≤ 128 * l.i) × (l.sum ≡ length (joined (take l.i (rows_of (flat_in l.image)))))
