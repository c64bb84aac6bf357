-- The loop's invariant: no result before i has a label above.
-- Assumes nothing.
use mathlib.Core.Path.{◌≡◌, sym, ◌∙◌}
use Prim.Native.Nat.{◌≤◌, ◌<◌}
use native.Mathlib.Omega.{arith}
use native.Mathlib.Nat.{zero-add}
use lib.ListN.{length, get_or}
use borrow.Author.Tests.{lt-ltb, le-ltb}
use Rattle.flat.proofs.Turns.{find_end, find_hit, find_next}
use Rattle.state.specs.Inner.State.{flat_in}
use Rattle.state.specs.Inner.Results.{no_result, is_above}
use Rattle.state.proofs.results.place_of.Goals as goal

pub loop-i-init : goal.loop-i-init
loop-i-init c = (omega arith, zero-add _)

pub label_at-requires : goal.label_at-requires
label_at-requires c =
    (c.requires, omega (arith, c.total-n.ensures.is))

pub returns-then-label-label_at : goal.returns-then-label-label_at
returns-then-label-label_at c =
    let rs = (flat_in c.args.image.now).results in
    let h : c.loop-i.i < length rs = omega (arith, c.total-n.ensures.is) in
    sym (find_hit (is_above c.args.label) rs c.loop-i.i no_result h (lt-ltb c.args.label (get_or rs c.loop-i.i no_result).label (omega (arith, c.if-label-label_at.true, c.label_at.ensures)))) ∙ c.loop-i.invariant.1

pub loop-i-preserved : goal.loop-i-preserved
loop-i-preserved c =
    let rs = (flat_in c.args.image.now).results in
    let h : c.loop-i.i < length rs = omega (arith, c.total-n.ensures.is) in
    (omega arith, find_next (is_above c.args.label) rs c.loop-i.i no_result h (le-ltb c.args.label (get_or rs c.loop-i.i no_result).label (omega (arith, c.if-label-label_at.false, c.label_at.ensures))) ∙ c.loop-i.invariant.1)

pub returns : goal.returns
returns c =
    let a = c.args in
    let rs = (flat_in a.image.now).results in
    let end : length rs ≤ c.loop-i.i = omega (arith, c.total-n.ensures.is) in
    let here : c.total-n.result ≡ c.loop-i.i = omega arith in
    here ∙ sym (find_end (is_above a.label) rs c.loop-i.i end) ∙ c.loop-i.invariant.1
