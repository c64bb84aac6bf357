-- What `cg_load` gives and leaves, for every seed, count and output (S-14).
-- Assumes nothing.
use Rattle.std.specs.Prelude.{ℕ, List, [], ◌∷◌, ltb, ℤ, length}
use Rattle.graph.specs.Refusals.{Answer, refused, done, Test, on, unless}
use Rattle.text.specs.Text.{pasted}
use Rattle.panel.specs.Returned.{answer_number}
use Rattle.load.specs.Load.{load_text}

pub record Loaded : Type 0 where
  pub answer : ℤ
  pub output : List ℕ

-- "It refuses with 46 a count above 64, then with 47 an output shorter than the lines."
abbrev pub load_tests : (seed count room : ℕ) → List Test
load_tests seed count room = on (ltb 64 count) 46 ∷ on (ltb room (length (load_text seed count))) 47 ∷ []

-- a refusal leaves the output as it was; else the lines are written at its start, their length is given, and the bytes after them stay
abbrev pub load_answered : List ℕ → Answer (List ℕ) → Loaded
load_answered out (refused n) = record { answer = answer_number (refused n); output = out }
load_answered out (done lines) = record { answer = answer_number (done (length lines)); output = pasted out 0 lines }

abbrev pub loaded : (seed count : ℕ) (out : List ℕ) → Loaded
loaded seed count out = load_answered out (unless (load_tests seed count (length out)) (load_text seed count))
