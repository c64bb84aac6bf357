-- The cases hold: each side computes to the other.
-- Assumes nothing.
use mathlib.Core.Path.{refl}
use Rattle.text.specs.Text.{ascii, digits, decimal, further, commas, pasted}
use Rattle.pagelines.specs.Page.{set_right, set_left}
use Rattle.page.specs.Cases.{Cases}

pub cases : Cases
unfolding set_right set_left ascii digits decimal further commas pasted
cases = record { three = refl; three_back = refl; none = refl; no_room = refl; room = refl }
