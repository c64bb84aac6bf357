-- The map that the constructor `set` makes.
-- Assumes nothing.
use Rattle.std.specs.Prelude.{ℕ}
use Rattle.graph.specs.declared.affine.Affine.{Affine}

-- the map that gives this value, whatever it is applied to
abbrev pub set_to : ℕ → Affine
set_to v = record { a = 0; b = v }
