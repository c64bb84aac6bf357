-- The whole of what the program prints, for every input: a relation, because no parser stands in the definitions of the
-- host's functions.
-- Assumes nothing.
use Rattle.std.specs.Prelude.{ℕ, suc, ◌≤◌, ◌≡◌, cond, List, [], ◌∷◌, ◌++◌, eqb, length, take}
use Rattle.graph.specs.Sessions.{fresh}
use Rattle.valid.specs.Values.{encode}
use Rattle.host.specs.Entries.{Listed, Lists}
use Rattle.program.specs.Lines.{length_in, Line}

-- a byte in front of the first line
abbrev pub on_first : ℕ → List (List ℕ) → List (List ℕ)
on_first c [] = (c ∷ []) ∷ []
on_first c (l ∷ ls) = (c ∷ l) ∷ ls

-- the lines of an input, parted by newlines; "last newline optional": it opens no further line
unfoldable pub lines_of : List ℕ → List (List ℕ)
lines_of [] = []
lines_of (c ∷ cs) = cond (eqb c 10) ([] ∷ lines_of cs) (on_first c (lines_of cs))

-- lines one after the other, numbered from n on: each gets the image as the one before left it. m is the number of the line
-- after them.
pub data LineRun : (image : List ℕ) (n : ℕ) (lines : List (List ℕ)) (after : List ℕ) (m : ℕ) (text : List ℕ) → Type 0 where
  none : {image : List ℕ} {n : ℕ} → LineRun image n [] image n []
  next : {image between after l : List ℕ} {n m : ℕ} {ls : List (List ℕ)} {text texts : List ℕ}
      → Line image l n between text
      → LineRun between (suc n) ls after m texts
      → LineRun image n (l ∷ ls) after m (text ++ texts)

-- the listing that is printed of an image, with room for every listing
pub record ListingPrinted (image text : List ℕ) : Type 0 where
  pub out : List ℕ
  pub room : 16512 ≤ length out
  pub listed : Listed
  pub lists : Lists image out listed
  pub bytes : take (length_in listed.answer) listed.output ≡ text

-- "reads lines from standard input, .. prints [refusals] as they occur (lines from 1), claims as result lines, then the
-- listing", from the image that opening writes
pub record Transcript (input output : List ℕ) : Type 0 where
  pub after : List ℕ
  pub count : ℕ
  pub text : List ℕ
  pub listing : List ℕ
  pub runs : LineRun (encode fresh) 1 (lines_of input) after count text
  pub ends : ListingPrinted after listing
  pub whole : text ++ listing ≡ output
