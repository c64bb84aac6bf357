-- `pool::gather_results` meets its contract.
-- Assumes nothing.
use mathlib.Core.Path.{◌≡◌}
use Prim.Native.Nat.{◌+◌}
use lib.ListN.{length, take}
use mathlib.Core.List.{◌++◌}
use Rattle.image.specs.Inner.Regions.{view}
use Rattle.valid.specs.Inner.Tests.{result_labels}
use Rattle.valid.proofs.pool.gather_results.Given as goal

abbrev pub invariant-loop-i : goal.invariant-loop-i
invariant-loop-i l = (length l.pool ≡ length l.initial.pool) × (take (l.at + l.i) l.pool ≡ take l.at l.initial.pool ++ result_labels (take l.i (view l.image).results))
