-- The loop's invariant: what stands after p and before i goes on with the unit.
-- Assumes nothing.
use mathlib.Core.Path.{◌≡◌, sym, ap, ◌∙◌}
use Prim.Native.Nat.{ℕ, ◌+◌, ◌≤◌, ◌<◌}
use native.Mathlib.Numerals.{add-one}
use lib.ListN.{length, drop}
use Rattle.flat.specs.Inner.Queues.{first_index, breaks}
use Rattle.flat.specs.Inner.FlatSteps.{no_op}
use Rattle.flat.proofs.Turns.{find_end, find_hit, find_next}
use Rattle.state.specs.Inner.State.{flat_in}
use native.Mathlib.Omega.{arith}
use Rattle.state.proofs.ops.unit_end.Goals as goal

pub loop-i-init : goal.loop-i-init
loop-i-init c =
    let a = c.args in
    (omega (arith, c.total-n.ensures.is, c.requires.1), ap (λ (m : ℕ). m + first_index (breaks a.k) (drop m (flat_in a.image.now).queue)) (add-one a.p))

pub breaks_at-requires : goal.breaks_at-requires
breaks_at-requires c = (c.requires.0, omega (arith, c.total-n.ensures.is))

pub returns-then-breaks_at : goal.returns-then-breaks_at
returns-then-breaks_at c =
    let a = c.args in
    let h : c.loop-i.i < length (flat_in a.image.now).queue = omega (arith, c.total-n.ensures.is) in
    record {
      is = sym (find_hit (breaks a.k) (flat_in a.image.now).queue c.loop-i.i no_op h (sym c.breaks_at.ensures ∙ c.if-breaks_at.true)) ∙ c.loop-i.invariant.1;
      within = omega arith;
    }

pub loop-i-preserved : goal.loop-i-preserved
loop-i-preserved c =
    let a = c.args in
    let h : c.loop-i.i < length (flat_in a.image.now).queue = omega (arith, c.total-n.ensures.is) in
    (omega arith, find_next (breaks a.k) (flat_in a.image.now).queue c.loop-i.i no_op h (sym c.breaks_at.ensures ∙ c.if-breaks_at.false) ∙ c.loop-i.invariant.1)

pub returns : goal.returns
returns c =
    let a = c.args in
    let n = c.total-n in
    let end : length (flat_in a.image.now).queue ≤ c.loop-i.i = omega (arith, n.ensures.is) in
    let here : n.result ≡ c.loop-i.i = omega arith in
    record { is = here ∙ sym (find_end (breaks a.k) (flat_in a.image.now).queue c.loop-i.i end) ∙ c.loop-i.invariant.1; within = omega (arith, n.ensures.is) }
