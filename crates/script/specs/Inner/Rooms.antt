-- What keeps the places inside the buffers and the line numbers from wrapping.
-- Assumes nothing.
use Rattle.std.specs.Prelude.{ℕ, ◌+◌, ◌≤◌, ◌<◌, ◌^◌, List, length}
use Rattle.script.specs.declared.serve.Rest.{Rest}

-- numbers for the lines of a frame, which have at least a byte each, and room for what is printed of one
pub record RoomToServe (frame : List ℕ) (line : ℕ) (out : List ℕ) : Type 0 where
  pub small : length frame ≤ 65536
  pub low : line < 2 ^ 63
  pub room : 128 ≤ length out

-- serving stopped inside the frame, and took at most one line number for each of its bytes
pub record RestWithin (frame : List ℕ) (line : ℕ) (r : Rest) : Type 0 where
  pub within : r.at ≤ length frame
  pub few : r.line ≤ line + length frame
