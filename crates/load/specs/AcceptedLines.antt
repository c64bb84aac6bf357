-- Statement, proved as `every_line` in proofs/AcceptedLines.antt: S-14, "Every line made has an accepted form and ends in a newline".
-- Assumes nothing.
use Rattle.std.specs.Prelude.{ℕ, ◌≤◌, ◌*◌, ◌≡◌, List, ◌++◌, length}
use Rattle.graph.specs.Calls.{Call, form_tests}
use Rattle.graph.specs.Refusals.{done, unless}
use Rattle.graph.specs.Valid.{Each}
use Rattle.lines.specs.Forms.{IsCall, line_at}
use Rattle.load.specs.Load.{load, line_text, load_text}

-- the line of a call is read as this call wherever it stands in a buffer, and ends at its newline, whatever follows; and no test of the
-- form applies: not 10, 11 or 12, nor 40, which an unmap alone can be refused with
pub record AcceptedLine (c : Call) : Type 0 where
  pub read : (before rest : List ℕ) → IsCall (line_at (before ++ (line_text c ++ rest)) (length before)) c
  pub passes : unless (form_tests c) c ≡ done c
  -- with its newline
  pub short : length (line_text c) ≤ 56

pub record LoadAccepted (seed count : ℕ) : Type 0 where
  pub lines : Each AcceptedLine (load seed count)
  -- so 3,584 bytes have room for 64 lines
  pub room : length (load_text seed count) ≤ 56 * count
