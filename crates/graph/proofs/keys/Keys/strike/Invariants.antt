-- The loop's invariant: what is kept is the struct of the keys passed, without the key.
-- Assumes nothing.
use mathlib.Core.Path.{◌≡◌}
use lib.ListN.{take}
use Rattle.graph.specs.KeyLists.{strike}
use Rattle.graph.specs.Packed.{packed}
use Rattle.graph.proofs.keys.Keys.strike.Given as goal

abbrev pub invariant-loop-key : goal.invariant-loop-key
invariant-loop-key l = l.kept ≡ packed (strike l.k (take l.key-index l.key-items))
