-- Inputs and their lines, computed: none; an empty line; the last newline opens no further line, with or without it; empty
-- lines count.
-- Assumes nothing.
use mathlib.Core.Path.{◌≡◌, refl}
use mathlib.Core.List.{[], ◌∷◌}
use Rattle.program.specs.Transcript.{lines_of}

pub record Cases : Type 0 where
  pub nothing : lines_of [] ≡ []
  pub newline : lines_of (10 ∷ []) ≡ [] ∷ []
  pub ended : lines_of (97 ∷ 10 ∷ []) ≡ (97 ∷ []) ∷ []
  pub unended : lines_of (97 ∷ []) ≡ (97 ∷ []) ∷ []
  pub between : lines_of (97 ∷ 10 ∷ 10 ∷ 98 ∷ []) ≡ (97 ∷ []) ∷ [] ∷ (98 ∷ []) ∷ []

pub cases : Cases
unfolding lines_of
cases = record { nothing = refl; newline = refl; ended = refl; unended = refl; between = refl }
