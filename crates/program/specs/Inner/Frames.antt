-- What serving a line, and the lines of a frame, gives and leaves.
-- Assumes nothing.
use Rattle.std.specs.Prelude.{ℕ, ◌+◌, ◌≤◌, ◌<◌, Bool, true, false, ◌⊎◌, ◌≡◌, List, ◌++◌, ℤ, length, take, drop}
use Rattle.lines.specs.Forms.{line_at}
use Rattle.program.specs.Lines.{answer_text, Line}
use Rattle.program.specs.Transcript.{lines_of, LineRun, ListingPrinted}
use Rattle.program.specs.declared.frame.FramePlace.{FramePlace}

-- what is printed by the answer, the text where the line is served, is the first r bytes of the output
pub record AnswerPrinted (n : ℕ) (answer : ℤ) (text out : List ℕ) (r : ℕ) : Type 0 where
  pub within : r ≤ length out
  pub bytes : take r out ≡ answer_text n answer text

-- what is printed of the line is the first r bytes of the output
pub record Served (image line : List ℕ) (n : ℕ) (after out : List ℕ) (r : ℕ) : Type 0 where
  pub within : r ≤ length out
  pub served : Line image line n after (take r out)

-- a whole line stands next, and the output has room for what is printed of it; or one of the two is not so
abbrev pub Ready : (frame : List ℕ) → FramePlace → (out : List ℕ) → Bool → Type 0
Ready frame p out true = (p.at + length (line_at frame p.at) < length frame) × (p.used + 128 ≤ length out)
Ready frame p out false = (length frame ≤ p.at + length (line_at frame p.at)) ⊎ (length out < p.used + 128)

-- the line that stands next was served, and what is printed of it stands behind what was there
pub record Next (image frame : List ℕ) (p : FramePlace) (out after written : List ℕ) (q : FramePlace) : Type 0 where
  pub text : List ℕ
  pub served : Line image (line_at frame p.at) p.line after text
  pub bytes : take q.used written ≡ take p.used out ++ text
  pub fits : q.used ≤ length written
  pub short : q.used ≤ p.used + 128
  pub past : q.at ≡ p.at + length (line_at frame p.at) + 1
  pub number : q.line ≡ p.line + 1

-- the lines of the frame from `at` on were served as far as p says, and what is printed of them is the first bytes of the output
pub record LinesServed (image frame : List ℕ) (at n : ℕ) (after out : List ℕ) (p : FramePlace) : Type 0 where
  pub lines : List (List ℕ)
  pub runs : LineRun image n lines after p.line (take p.used out)
  pub parts : lines_of (drop at frame) ≡ lines ++ lines_of (drop p.at frame)
  pub fits : p.used ≤ length out
  pub on : at ≤ p.at
  pub inside : p.at ≤ length frame
  pub fewer : p.line + at ≤ n + p.at

-- the listing is the first r bytes of the output
pub record Ended (image out : List ℕ) (r : ℕ) : Type 0 where
  pub within : r ≤ length out
  pub listing : ListingPrinted image (take r out)
