-- `keylists::sofar::ListSoFar::none` meets its contract: no byte has come, and no number.
-- Assumes nothing.
use mathlib.Core.List.{[]}
use mathlib.Core.Path.{refl}
use Rattle.keylists.specs.Inner.ListsRead.{passed}
use Rattle.keylists.proofs.sofar.ListSoFar.none.Goals as goal

pub returns : goal.returns
unfolding passed
returns c = record { read = []; below = tt; text = refl; known = c.none.ensures }
