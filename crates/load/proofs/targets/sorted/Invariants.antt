-- The loop's invariant: of the keys below this one, those that were drawn are kept.
-- Assumes nothing.
use mathlib.Core.Path.{◌≡◌}
use Prim.Native.Nat.{◌-◌}
use Rattle.graph.specs.Packed.{listed, packed}
use Rattle.load.specs.Load.{kept_from}
use Rattle.load.proofs.targets.sorted.Given as goal

abbrev pub invariant-loop-k : goal.invariant-loop-k
invariant-loop-k l = l.keys ≡ packed (kept_from (l.k - 1) 1 (listed l.drawn))
