-- What is kept of a line of 64 bytes or more in place of its bytes.
-- Assumes nothing.
use Rattle.std.specs.Prelude.{ℕ, ◌+◌, ◌<◌, ◌≤◌, min, cond, ◌&&◌, List, ◌∷◌, ◌++◌, ◌≡◌, leb, ltb, length, take, drop}
use Rattle.graph.specs.KeyLists.{are_keys, rising}
use Rattle.graph.specs.Targets.{named}
use Rattle.keylists.specs.Inner.ListsRead.{last_or, ReadSoFar}
use Rattle.graph.specs.Refusals.{Answer, refused, done}
use Rattle.lines.specs.Inner.Answers.{CallRead, call_line}
use Rattle.lines.specs.declared.call.Call.{Call as Asked}
use Rattle.longlines.specs.declared.longline.LongLine.{LongLine}

-- ---- the cut after an equals sign

-- empty, or the last byte is an equals sign
abbrev pub EndsInEquals : List ℕ → Type 0
EndsInEquals l = last_or 61 l ≡ 61

-- no byte is an equals sign
abbrev pub NoEquals : List ℕ → Type 0
NoEquals l = (a b : List ℕ) → l ≡ a ++ (61 ∷ b) → ⊥

-- `at` is the place after the last equals sign, or 0
pub record CutAt (line : List ℕ) (at : ℕ) : Type 0 where
  pub within : at ≤ length line
  pub ends : EndsInEquals (take at line)
  pub none : NoEquals (drop at line)

-- an equals sign in the rest stands behind the first 64 bytes of the line
abbrev pub Far : (front rest : List ℕ) → Type 0
Far front rest = (a b : List ℕ) → rest ≡ a ++ (61 ∷ b) → 64 ≤ length front + length a

-- ---- what is kept

-- the line is cut after the last equals sign among its first 64 bytes: the front is read as if the line ended there, the rest as a list
pub record CutRead (line : List ℕ) (l : LongLine) : Type 0 where
  pub front : List ℕ
  pub rest : List ℕ
  pub parts : line ≡ front ++ rest
  pub ends : EndsInEquals front
  pub far : Far front rest
  pub start : CallRead front l.start
  pub list : ReadSoFar rest l.list

pub record LongOf (line : List ℕ) (l : LongLine) : Type 0 where
  pub long : 64 ≤ length line
  pub size : l.length ≡ min (length line) 256
  pub kept : length line < 256 → CutRead line l

-- ---- the answer

-- by the targets ts: 11 where one is no key, 12 where they are more than eight or do not rise, else r
abbrev pub by_targets : List ℕ → Answer Asked → Answer Asked
by_targets ts r = cond (are_keys ts) (cond (leb (length ts) 8 && rising ts) r (refused 12)) (refused 11)

-- the answer to a call with the targets ts, by that to the call with none: 10 and 11 come before what refuses the targets, 40 after it
abbrev pub retargeted : Answer Asked → List ℕ → Answer Asked
retargeted (refused n) ts = cond (ltb n 40) (refused n) (by_targets ts (refused n))
retargeted (done c) ts = by_targets ts (done (call_line c.kind c.x c.y (named ts)))
