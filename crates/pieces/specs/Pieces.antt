-- "A console partner gives `cgrun` a 64-byte line buffer in place of whatever it has now, and no other memory for a line's bytes. Every
-- line must be answered as before" (S-7): however the input is cut into pieces, what the program's functions print is its transcript.
-- Assumes nothing.
use Rattle.std.specs.Prelude.{ℕ, ◌≡◌, List, [], ◌∷◌, ◌++◌, take}
use Rattle.text.specs.Text.{texts}
use Rattle.program.specs.Transcript.{Transcript}
use Rattle.pieces.specs.Inner.Feeding.{bytes_kept, Begins, piece_in, Feeds, Finishes}
use Rattle.pieces.specs.declared.between.State.{State}

-- `start`, and then for each piece a read and `feed`: the read puts the piece behind the bytes that the line buffer keeps and leaves
-- these, and `feed` prints the text. A piece may be empty, and is as long as the buffer has room at most
pub data Fed : (pieces : List (List ℕ)) (image buffer : List ℕ) (s : State) (text : List ℕ) → Type 0 where
  starts : {image buffer : List ℕ} {s : State} → Begins image s → Fed [] image buffer s []
  feeds :
      {pieces : List (List ℕ)} {image buffer : List ℕ} {s : State} {text filled : List ℕ} {got : ℕ} {after left written : List ℕ} {r : State}
      → Fed pieces image buffer s text
      → take (bytes_kept s.kept) filled ≡ take (bytes_kept s.kept) buffer
      → Feeds image filled s got after left written r
      → Fed (pieces ++ piece_in filled s got ∷ []) after left r (text ++ take r.printed written)

-- the same, and `finish` at the end of the input: this is all that is printed of the pieces
pub record Printed (pieces : List (List ℕ)) (output : List ℕ) : Type 0 where
  pub image : List ℕ
  pub buffer : List ℕ
  pub state : State
  pub text : List ℕ
  pub written : List ℕ
  pub length : ℕ
  pub fed : Fed pieces image buffer state text
  pub finishes : Finishes image buffer state written length
  pub whole : text ++ take length written ≡ output

-- the input that pieces make up
abbrev pub joined : List (List ℕ) → List ℕ
joined pieces = texts (λ (piece : List ℕ). piece) pieces

pub record EveryCut : Type 0 where
  -- what is printed of the pieces is the transcript of the input
  pub transcript : {pieces : List (List ℕ)} {output : List ℕ} → Printed pieces output → Transcript (joined pieces) output
  -- so however an input is cut, the same is printed
  pub same :
      {pieces others : List (List ℕ)} {output output' : List ℕ}
      → joined pieces ≡ joined others
      → Printed pieces output
      → Printed others output'
      → output ≡ output'
