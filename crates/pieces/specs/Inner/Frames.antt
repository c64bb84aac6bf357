-- What serving the lines of the line buffer gives and leaves.
-- Assumes nothing.
use Rattle.std.specs.Prelude.{ℕ, ◌+◌, ◌*◌, ◌-◌, ◌≤◌, ◌≡◌, List, ◌++◌, length, take, drop}
use Rattle.program.specs.Transcript.{lines_of, LineRun}
use Rattle.program.specs.declared.frame.FramePlace.{FramePlace}

-- the first lines of the bytes were served, numbered from n on, and text is printed of them; what is left of the bytes goes on with
-- what follows. m is the number of the next line
pub record LinesTaken (image : List ℕ) (n : ℕ) (bytes after : List ℕ) (m : ℕ) (text left : List ℕ) : Type 0 where
  pub lines : List (List ℕ)
  pub runs : LineRun image n lines after m text
  pub parts : (rest : List ℕ) → lines_of (bytes ++ rest) ≡ lines ++ lines_of (left ++ rest)

-- the lines of the frame from p on were served up to q, and what is printed of them stands behind what was there; each line left may
-- print 128 bytes more
pub record LinesServed (image frame : List ℕ) (p : FramePlace) (out after written : List ℕ) (q : FramePlace) : Type 0 where
  pub text : List ℕ
  pub taken : LinesTaken image p.line (drop p.at frame) after q.line text (drop q.at frame)
  pub bytes : take q.used written ≡ take p.used out ++ text
  pub room : q.used + 128 * (length frame - q.at) ≤ length written
  pub inside : q.at ≤ length frame
  pub fewer : q.line + p.at ≤ p.line + q.at
