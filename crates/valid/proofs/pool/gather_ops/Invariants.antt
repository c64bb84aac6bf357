-- `pool::gather_ops` meets its contract.
-- Assumes nothing.
use Prim.Native.Nat.{◌*◌, ◌≤◌}
use lib.ListN.{take}
use Rattle.image.specs.Inner.Regions.{view}
use Rattle.valid.specs.Inner.Tests.{op_labels, Gathers}
use Rattle.valid.proofs.pool.gather_ops.Given as goal

abbrev pub invariant-loop-i : goal.invariant-loop-i
invariant-loop-i l = (l.at ≤ 4 * l.i) × (Gathers (op_labels (take l.i (view l.image).ops)) 0 l.initial.pool l.pool l.at)
