-- What serving leaves of an image.
-- Assumes nothing.
use Rattle.std.specs.Prelude.{ℕ, List}
use Rattle.program.specs.Transcript.{LineRun}

-- lines were served, numbered from n on, each on the image as the one before left it; m is the number of the line after them
pub record LinesRun (image : List ℕ) (n : ℕ) (after : List ℕ) (m : ℕ) : Type 0 where
  pub lines : List (List ℕ)
  pub text : List ℕ
  pub runs : LineRun image n lines after m text

-- the same, whatever their number
pub record LinesOn (image : List ℕ) (n : ℕ) (after : List ℕ) : Type 0 where
  pub count : ℕ
  pub run : LinesRun image n after count
