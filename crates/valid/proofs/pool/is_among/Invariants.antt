-- `pool::is_among` meets its contract.
-- Assumes nothing.
use mathlib.Core.Path.{◌≡◌}
use lib.ListN.{take}
use Rattle.graph.specs.KeyLists.{contains}
use Rattle.valid.proofs.pool.is_among.Given as goal

abbrev pub invariant-loop-y : goal.invariant-loop-y
invariant-loop-y l = l.found ≡ contains l.x (take l.y-index l.y-items)
