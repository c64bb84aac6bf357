-- What is kept between two reads, and what feeding a piece and ending give and leave.
-- Assumes nothing.
use Rattle.std.specs.Prelude.{ℕ, ◌+◌, ◌≤◌, ◌<◌, ◌≡◌, List, [], ◌++◌, length, take, drop}
use Rattle.graph.specs.Sessions.{fresh}
use Rattle.text.specs.Text.{up_to}
use Rattle.longlines.specs.Inner.LongLines.{LongOf}
use Rattle.valid.specs.Values.{encode}
use Rattle.program.specs.Transcript.{lines_of, LineRun, Transcript}
use Rattle.pieces.specs.Inner.Frames.{LinesTaken}
use Rattle.pieces.specs.declared.between.Kept.{Kept}
use Rattle.pieces.specs.declared.between.Kept.TheVariants.{Bytes, Long}
use Rattle.pieces.specs.declared.between.State.{State}

-- how many bytes are kept at the buffer's start
abbrev pub bytes_kept : Kept → ℕ
bytes_kept (Bytes n) = n
bytes_kept (Long l) = 0

-- this is kept of a line of which this part came: its bytes, less than 64; or what stands for 64 and more
abbrev pub KeptOf : Kept → (buffer part : List ℕ) → Type 0
KeptOf (Bytes n) buffer part = (n < 64) × (take n buffer ≡ part)
KeptOf (Long l) buffer part = LongOf part l

-- the lines of the input so far were served, from the image that opening writes on, and text is printed of them. Of the last line, a
-- part without a newline, enough is kept
pub record InputTaken (input text image buffer : List ℕ) (s : State) : Type 0 where
  pub part : List ℕ
  pub taken : LinesTaken (encode fresh) 1 input image s.line text part
  pub unended : up_to 10 part ≡ part
  pub kept : KeptOf s.kept buffer part

-- so of some input
pub record SomeTaken (image buffer : List ℕ) (s : State) : Type 0 where
  pub input : List ℕ
  pub text : List ℕ
  pub taken : InputTaken input text image buffer s

-- ---- the functions

pub record Begins (image : List ℕ) (s : State) : Type 0 where
  pub taken : (buffer : List ℕ) → InputTaken [] [] image buffer s
  pub first : s.line ≡ 1

-- the piece: so many bytes of the buffer behind what is kept
abbrev pub piece_in : (buffer : List ℕ) → State → (got : ℕ) → List ℕ
piece_in buffer s got = take got (drop (bytes_kept s.kept) buffer)

-- the bytes were served, the first line with the number n: what is printed of them stands behind `before` in the output, and of their
-- last line, which has no newline, enough is kept
pub record BytesFed (image : List ℕ) (n : ℕ) (bytes before after left written : List ℕ) (r : State) : Type 0 where
  pub text : List ℕ
  pub part : List ℕ
  pub taken : LinesTaken image n bytes after r.line text part
  pub printed : take r.printed written ≡ before ++ text
  pub within : r.printed ≤ length written
  pub unended : up_to 10 part ≡ part
  pub kept : KeptOf r.kept left part

pub record Feeds (image buffer : List ℕ) (s : State) (got : ℕ) (after left written : List ℕ) (r : State) : Type 0 where
  pub taken :
      (input text : List ℕ)
      → InputTaken input text image buffer s
      → InputTaken (input ++ piece_in buffer s got) (text ++ take r.printed written) after left r
  pub within : r.printed ≤ length written
  pub fewer : r.line ≤ s.line + 64

-- all lines of the input were served
pub record AllServed (input text image : List ℕ) : Type 0 where
  pub count : ℕ
  pub runs : LineRun (encode fresh) 1 (lines_of input) image count text

pub record LastServed (image buffer : List ℕ) (s : State) (after written : List ℕ) (r : ℕ) : Type 0 where
  pub all : (input text : List ℕ) → InputTaken input text image buffer s → AllServed input (text ++ take r written) after
  pub within : r ≤ length written

pub record Finishes (image buffer : List ℕ) (s : State) (written : List ℕ) (r : ℕ) : Type 0 where
  pub whole : (input text : List ℕ) → InputTaken input text image buffer s → Transcript input (text ++ take r written)
  pub within : r ≤ length written
