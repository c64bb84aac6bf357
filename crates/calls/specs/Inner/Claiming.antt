-- Where a claim finds its result.
-- Assumes nothing.
use Rattle.std.specs.Prelude.{◌≡◌, ℕ, ◌<◌, length, Result, Ok, Err}
use Rattle.graph.specs.Refusals.{refused, done}
use Rattle.graph.specs.Refused.{refusal_number}
use Rattle.graph.specs.declared.refusal.Refusal.{Refusal}
use Rattle.flat.specs.Flat.{Flat}
use Rattle.flat.specs.Inner.FlatEvents.{flat_claim}
use Rattle.state.specs.Inner.Results.{taken_at}

-- the claim takes the result at this place, or is refused
abbrev pub FindsFlat : ℕ → Flat → Result ℕ Refusal → Type 0
FindsFlat l f (Err r) = flat_claim l f ≡ refused (refusal_number r)
FindsFlat l f (Ok p) = (p < length f.results) × (flat_claim l f ≡ done (taken_at p f.results))
