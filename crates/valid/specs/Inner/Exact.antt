-- What the test of an image states, that is refusal 2: bytes that are not the image of such a session; and what opening states.
-- Assumes nothing.
use Rattle.std.specs.Prelude.{ℕ, ◌≡◌, Bool, true, cond, List, eqb, length}
use Rattle.graph.specs.Sessions.{Session, fresh}
use Rattle.graph.specs.Valid.{Valid}
use Rattle.valid.specs.Values.{encode}
use Rattle.valid.specs.Inner.Decoded.{session_of}

-- the answer is true exactly where some valid session has these bytes as its image, and that session is the only one
pub record Exact (bytes : List ℕ) (answer : Bool) : Type 0 where
  pub implies : answer ≡ true → Valid (session_of bytes) × (encode (session_of bytes) ≡ bytes)
  pub implied : (x : Session) → Valid x → encode x ≡ bytes → (answer ≡ true) × (x ≡ session_of bytes)

-- the answer is true exactly where the fact holds
pub record Decides (fact : Type 0) (answer : Bool) : Type 0 where
  pub implies : answer ≡ true → fact
  pub implied : fact → answer ≡ true

-- opening: the image of the fresh session, where the length is right
pub record Opened (bytes after : List ℕ) (answer : Bool) : Type 0 where
  pub right : answer ≡ eqb (length bytes) 4112
  pub written : after ≡ cond (eqb (length bytes) 4112) (encode fresh) bytes
