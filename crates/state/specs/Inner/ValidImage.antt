-- What a function that works on an image states: of the flat session that the image holds, and of the session itself.
-- Assumes nothing.
use Rattle.std.specs.Prelude.{ℕ, ◌≡◌, List}
use Rattle.graph.specs.Refusals.{Answer, refused, done}
use Rattle.graph.specs.RefusalOrder.{number_of}
use Rattle.graph.specs.Sessions.{Session}
use Rattle.graph.specs.Valid.{Valid}
use Rattle.flat.specs.Flat.{Flat, flat}
use Rattle.flat.specs.Inner.Nested.{nest}
use Rattle.valid.specs.Values.{encode}
use Rattle.state.specs.Inner.State.{flat_in, Proper, Shows}

-- the image holds a valid session
pub record ValidImage (image : List ℕ) : Type 0 where
  pub proper : Proper image
  pub valid : Valid (nest (flat_in image))
  pub flat : flat (nest (flat_in image)) ≡ flat_in image

-- what is left of an image: a refusal changes no byte
abbrev pub Leaves : Answer Flat → List ℕ → List ℕ → Type 0
Leaves (refused n) before after = after ≡ before
Leaves (done f) before after = Shows f after

-- the answer's number, and the image after it
pub record Works (x : Answer Flat) (before after : List ℕ) (r : ℕ) : Type 0 where
  pub number : r ≡ number_of x
  pub leaves : Leaves x before after

-- the same of sessions: the image after is that of the session after, or as it was
abbrev pub image_after : Answer Session → List ℕ → List ℕ
image_after (refused n) before = before
image_after (done s) before = encode s

pub record Serves (x : Answer Session) (before after : List ℕ) (r : ℕ) : Type 0 where
  pub number : r ≡ number_of x
  pub image : after ≡ image_after x before
