-- `keylists::keylist::KeyList::none` meets its contract, by computing.
-- Assumes nothing.
use mathlib.Core.Path.{refl}
use Rattle.graph.specs.Packed.{packed}
use Rattle.keylists.proofs.keylist.KeyList.none.Goals as goal

pub returns : goal.returns
unfolding packed
returns c = record { count = refl; latest = refl; keys = refl; rising = refl; stored = λ a l. refl }
