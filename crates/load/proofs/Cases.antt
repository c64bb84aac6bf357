-- The cases hold: each side computes to the other.
-- Assumes nothing.
use mathlib.Core.Path.{refl}
use Rattle.text.specs.Text.{ascii, digits, decimal, further, commas, pasted}
use Rattle.load.specs.Load.{next, draw, kept_from, sorted, load_text}
use Rattle.load.specs.Cases.{Cases}

pub cases : Cases
unfolding next draw kept_from sorted load_text ascii digits decimal further commas pasted
cases = record {
  first_draw = refl;
  first_kind = refl;
  three_calls = refl;
  first_line = refl;
  bare = refl;
  repeated = refl;
  longest = refl;
  longest_text = refl;
  served = refl;
  no_lines = refl;
  many = refl;
  no_room = refl;
}
