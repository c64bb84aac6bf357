-- The loop's invariant: counted from p, what is left of the number is the unit that is looked for.
-- Assumes nothing.
use Rattle.std.proofs.Common.{◌≡◌, ℕ, ◌+◌, ◌-◌, ◌<◌, ◌≤◌, ◌∙◌, sym, ap, arith}
use Rattle.flat.specs.Inner.Nested.{at_place}
use Rattle.flat.specs.Inner.FlatSteps.{unit_start}
use Rattle.flat.proofs.Places.{find_within}
use Rattle.state.specs.Inner.State.{flat_in}
use Rattle.units.proofs.Located.{start_next, start_none}
use Rattle.units.proofs.unit_start.Goals as goal

pub loop-init : goal.loop-init
loop-init c =
    let a = c.args in
    let q = (flat_in a.image.now).queue in
    let same : a.unit + 1 - 1 ≡ a.unit = omega arith in
    (omega (arith, c.first_at-p.ensures, find_within (at_place a.k) q), λ i. unit_start a.k (same i) (c.first_at-p.ensures i) q)

pub returns-then-not-is_at : goal.returns-then-not-is_at
returns-then-not-is_at c =
    let a = c.args in
    let q = (flat_in a.image.now).queue in
    let n = c.total-n.ensures in
    let left : 1 < a.unit + 1 - c.loop.counter = omega arith in
    record { is = n.is ∙ sym (start_none a.k q _ c.loop.p left (sym c.if-not-is_at.ensures)) ∙ c.loop.invariant.1; within = omega (arith, n.is) }

pub loop-preserved : goal.loop-preserved
loop-preserved c =
    let a = c.args in
    let q = (flat_in a.image.now).queue in
    let left : a.unit + 1 - c.loop.counter ≡ a.unit + 1 - (c.loop.counter + 1) + 1 = omega arith in
    let more : 1 ≤ a.unit + 1 - (c.loop.counter + 1) = omega arith in
    (c.unit_end-p.ensures.within, ap (λ (p : ℕ). unit_start a.k (a.unit + 1 - (c.loop.counter + 1)) p q) c.unit_end-p.ensures.is ∙ sym (start_next a.k q _ _ c.loop.p left more (sym c.if-not-is_at.ensures)) ∙ c.loop.invariant.1)

pub returns : goal.returns
returns c =
    let a = c.args in
    let q = (flat_in a.image.now).queue in
    let one : 1 ≡ a.unit + 1 - c.loop.counter = omega (arith, c.if-unit-eq0.false) in
    record { is = ap (λ (n : ℕ). unit_start a.k n c.loop.p q) one ∙ c.loop.invariant.1; within = c.loop.invariant.0 }
