-- Lengths of what is written, with the bounds by which their sums fit.
-- Assumes nothing.
use Rattle.std.specs.Prelude.{ℕ, ◌≤◌, List, ◌≡◌, length}
use Rattle.graph.specs.Packed.{listed}
use Rattle.graph.specs.declared.keys.Keys.{Keys}
use Rattle.text.specs.Text.{commas}
use Rattle.print.specs.Inner.Values.{entry}

pub record EntryLength (place key r : ℕ) : Type 0 where
  pub text : r ≡ length (entry place key)
  pub few : r ≤ 11

pub record KeysLength (keys : Keys) (r : ℕ) : Type 0 where
  pub text : r ≡ length (commas (listed keys))
  pub few : r ≤ 88

-- a line's length: of its text, and small
pub record LineLength (line : List ℕ) (r : ℕ) : Type 0 where
  pub text : r ≡ length line
  pub few : r ≤ 128
