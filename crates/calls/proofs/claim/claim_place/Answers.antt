-- The tests in order; then the label's place among the results.
-- Assumes nothing.
use mathlib.Core.Path.{◌≡◌, sym, ap, ◌∙◌}
use Prim.Native.Nat.{ℕ, ◌≤◌}
use native.Mathlib.Omega.{arith}
use mathlib.Core.Bool.{true}
use lib.ListN.{get_or}
use Rattle.graph.specs.KeyLists.{rising}
use Rattle.graph.specs.Sessions.{labels_of_results}
use Rattle.flat.specs.Flat.{Flat}
use Rattle.state.specs.Inner.Results.{no_result}
use Rattle.state.specs.Inner.State.{flat_in}
use Rattle.calls.proofs.Claims.{finds_claimed, finds_at}
use Rattle.calls.proofs.claim.claim_place.Goals as goal
use Rattle.calls.proofs.claim.claim_place.Goals.{After-is_queued, Start}

-- the label was given; whether it waits is what `is_queued` said
module _ (q : After-is_queued) where
  abbrev f : Flat
  f = flat_in q.args.image.now

  low : 1 ≤ q.args.label
  low = omega (arith, q.if-label-eq0.false)

  high : q.args.label ≤ f.last
  high = omega (arith, q.from.ensures, q.last.ensures, q.if-from-label.false)

  order : rising (labels_of_results f.results) ≡ true
  order = q.requires.valid.order

pub returns-then-label_at-l : goal.returns-then-label_at-l
returns-then-label_at-l c =
    let p = c.place_of-at in
    finds_at c.args.label (f (goal.at.returns-then-label_at-l c).After-is_queued) (low (goal.at.returns-then-label_at-l c).After-is_queued) (high (goal.at.returns-then-label_at-l c).After-is_queued) (sym c.is_queued.ensures ∙ c.if-is_queued.false) p.result p.ensures
    (omega (arith, c.total.ensures.is, c.if-at-total.true)) (sym c.label_at.ensures ∙ c.if-label_at-l.true)

pub returns-else-label_at-l : goal.returns-else-label_at-l
returns-else-label_at-l c =
    let p = c.place_of-at in
    finds_claimed c.args.label (f (goal.at.returns-else-label_at-l c).After-is_queued) (low (goal.at.returns-else-label_at-l c).After-is_queued) (high (goal.at.returns-else-label_at-l c).After-is_queued) (sym c.is_queued.ensures ∙ c.if-is_queued.false) (order (goal.at.returns-else-label_at-l c).After-is_queued)
    (λ h e. c.if-label_at-l.false (c.label_at.ensures ∙ ap (λ (i : ℕ). (get_or (f (goal.at.returns-else-label_at-l c).After-is_queued).results i no_result).label) p.ensures ∙ e))

pub returns-else-at-total : goal.returns-else-at-total
returns-else-at-total c =
    let p = c.place_of-at in
    finds_claimed c.args.label (f (goal.at.returns-else-at-total c).After-is_queued) (low (goal.at.returns-else-at-total c).After-is_queued) (high (goal.at.returns-else-at-total c).After-is_queued) (sym c.is_queued.ensures ∙ c.if-is_queued.false) (order (goal.at.returns-else-at-total c).After-is_queued)
    (λ h e. omega (arith, h, p.ensures, c.total.ensures.is, c.if-at-total.false))
