-- No keys and eight zeros.
-- Assumes nothing.
use mathlib.Core.Path.{refl}
use Rattle.graph.specs.Packed.{packed}
use Rattle.graph.proofs.keys.Keys.none.Goals as goal

pub returns : goal.returns
unfolding packed
returns c = refl
