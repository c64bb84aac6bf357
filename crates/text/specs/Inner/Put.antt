-- What the writers of texts into a buffer state.
-- Assumes nothing.
use Rattle.std.specs.Prelude.{ℕ, ◌+◌, List, ◌≡◌, length}
use Rattle.text.specs.Text.{pasted}

-- a writer put this text into the buffer `was`: `place` is where it ends, and no byte outside it changed
pub record TextPut (was : List ℕ) (at : ℕ) (text out : List ℕ) (r : ℕ) : Type 0 where
  pub place : r ≡ at + length text
  pub bytes : out ≡ pasted was at text
