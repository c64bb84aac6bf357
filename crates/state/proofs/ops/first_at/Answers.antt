-- The loop's invariant: what stands before i is not at the station.
-- Assumes nothing.
use mathlib.Core.Path.{◌≡◌, sym, ◌∙◌}
use Prim.Native.Nat.{◌≤◌, ◌<◌}
use native.Mathlib.Nat.{zero-add}
use lib.ListN.{length}
use borrow.Author.Tests.{eq-eqb, ne_eqb}
use Rattle.flat.specs.Inner.Nested.{at_place}
use Rattle.flat.specs.Inner.FlatSteps.{no_op}
use Rattle.flat.proofs.Turns.{find_end, find_hit, find_next}
use Rattle.state.specs.Inner.State.{flat_in}
use native.Mathlib.Omega.{arith}
use Rattle.state.proofs.ops.first_at.Goals as goal

pub loop-i-init : goal.loop-i-init
loop-i-init c = (omega arith, zero-add _)

pub place_at-requires : goal.place_at-requires
place_at-requires c = (c.requires, omega (arith, c.total-n.ensures.is))

pub returns-then-place_at-k : goal.returns-then-place_at-k
returns-then-place_at-k c =
    let a = c.args in
    let h : c.loop-i.i < length (flat_in a.image.now).queue = omega (arith, c.total-n.ensures.is) in
    sym (find_hit (at_place a.k) (flat_in a.image.now).queue c.loop-i.i no_op h (eq-eqb _ _ (sym c.place_at.ensures ∙ c.if-place_at-k.true))) ∙ c.loop-i.invariant.1

pub loop-i-preserved : goal.loop-i-preserved
loop-i-preserved c =
    let a = c.args in
    let h : c.loop-i.i < length (flat_in a.image.now).queue = omega (arith, c.total-n.ensures.is) in (
      omega arith,
      find_next (at_place a.k) (flat_in a.image.now).queue c.loop-i.i no_op h (ne_eqb _ _ (λ e. c.if-place_at-k.false (c.place_at.ensures ∙ e))) ∙ c.loop-i.invariant.1,
    )

pub returns : goal.returns
returns c =
    let a = c.args in
    let end : length (flat_in a.image.now).queue ≤ c.loop-i.i = omega (arith, c.total-n.ensures.is) in
    let here : c.total-n.result ≡ c.loop-i.i = omega arith in
    here ∙ sym (find_end (at_place a.k) (flat_in a.image.now).queue c.loop-i.i end) ∙ c.loop-i.invariant.1
