-- What a claim finds.
-- Assumes nothing.
use mathlib.Core.Path.{◌≡◌, sym, ap, ◌∙◌}
use Prim.Native.Nat.{ℕ, ◌-◌, ◌≤◌, ◌<◌}
use native.Mathlib.Omega.{arith}
use mathlib.Core.Bool.{true, false}
use lib.ListN.{length, get_or}
use borrow.Author.Tests.{le-leb}
use Rattle.graph.specs.Acceptance.{take_result}
use Rattle.graph.specs.KeyLists.{contains, rising}
use Rattle.graph.specs.Refusals.{done}
use Rattle.graph.specs.Sessions.{labels_of_results}
use Rattle.flat.specs.Flat.{Flat}
use Rattle.flat.specs.Inner.Queues.{queued}
use Rattle.flat.specs.Inner.FlatEvents.{flat_claim}
use Rattle.state.specs.Inner.Results.{no_result, place_of, taken_at}
use Rattle.state.proofs.ResultLaws.{take_there, take_missing}
use Rattle.graph.specs.declared.refusal.Refusal.TheVariants.{AlreadyClaimed}
use Rattle.std.specs.Prelude.{Ok, Err}
use Rattle.calls.specs.Inner.Claiming.{FindsFlat}

module _ (l : ℕ) (f : Flat) where
  -- and one that was
  module _ (low : 1 ≤ l) (high : l ≤ f.last) where
    module _ (free : contains l (queued f.queue) ≡ false) where
      claim_results : flat_claim l f ≡ take_result l f.results
      claim_results = rw (le-leb 1 l low, le-leb l f.last high, free)

      pub finds_claimed : rising (labels_of_results f.results) ≡ true → (place_of (l - 1) f.results < length f.results → (get_or f.results (place_of (l - 1) f.results) no_result).label ≡ l → ⊥) → FindsFlat l f (Err AlreadyClaimed)
      finds_claimed o n = claim_results ∙ take_missing l low f.results o n

      pub finds_at : (p : ℕ) → p ≡ place_of (l - 1) f.results → p < length f.results → (get_or f.results p no_result).label ≡ l → FindsFlat l f (Ok p)
      finds_at p e h is = (
        h,
        claim_results ∙ take_there l low f.results (omega (arith, e)) (ap (λ (q : ℕ). (get_or f.results q no_result).label) (sym e) ∙ is) ∙ ap (λ (q : ℕ). done (taken_at q f.results)) (sym e),
      )
