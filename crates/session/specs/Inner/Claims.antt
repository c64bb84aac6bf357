-- What a claim finds: its refusal, or the result that is claimed.
-- Assumes nothing.
use Rattle.std.specs.Prelude.{ℕ, ◌<◌, ◌≡◌, List, length, Result, Ok, Err}
use Rattle.graph.specs.Refusals.{refused, done}
use Rattle.graph.specs.Refused.{refusal_number}
use Rattle.graph.specs.declared.refusal.Refusal.{Refusal}
use Rattle.graph.specs.Acceptance.{claim}
use Rattle.valid.specs.Inner.Decoded.{session_of}
use Rattle.state.specs.Inner.State.{flat_in}
use Rattle.state.specs.Inner.Results.{taken_at}

-- the claim of this label takes the result at this place
pub record TakesResult (label : ℕ) (image : List ℕ) (at : ℕ) : Type 0 where
  pub within : at < length (flat_in image).results
  pub taken : claim label (session_of image) ≡ done (taken_at at (flat_in image).results)

-- the claim of some label does
pub record Claimable (image : List ℕ) (at : ℕ) : Type 0 where
  pub label : ℕ
  pub takes : TakesResult label image at

-- the claim takes the result at this place, or is refused
abbrev pub Finds : ℕ → List ℕ → Result ℕ Refusal → Type 0
Finds label image (Err r) = claim label (session_of image) ≡ refused (refusal_number r)
Finds label image (Ok p) = TakesResult label image p
