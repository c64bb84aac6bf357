-- The loop's invariant: so many keys are drawn, and the state is the one after them.
-- Assumes nothing.
use mathlib.Core.Path.{◌≡◌}
use Rattle.graph.specs.Packed.{packed}
use Rattle.load.specs.Load.{after, keys_drawn}
use Rattle.load.proofs.targets.keys_drawn.Given as goal

abbrev pub invariant-loop : goal.invariant-loop
invariant-loop l = (l.keys ≡ packed (keys_drawn l.counter l.state)) × (l.s ≡ after l.counter l.state)
