-- `rows::results_ok` meets its contract.
-- Assumes nothing.
use mathlib.Core.Path.{refl, sym, ap, ◌∙◌}
use Prim.Native.Nat.{ℕ, ◌+◌, ◌*◌, ◌<◌}
use native.Mathlib.Omega.{arith}
use mathlib.Core.Bool.{not}
use lib.ListN.{length, drop}
use Rattle.image.specs.Inner.Regions.{view, blank, result_region}
use Rattle.valid.specs.Inner.Tests.{walk, result_ok}
use Rattle.valid.proofs.Turns.{walk_end}
use Rattle.valid.proofs.InPlace.{row_not, row_next}
use Rattle.valid.proofs.rows.results_ok.Goals as goal

pub returns-then-not-result_ok : goal.returns-then-not-result_ok
returns-then-not-result_ok c =
    let l = c.loop-i in
    let s = c.args.image.now in
    let h : l.i < length (view s).results = omega arith in
    sym (row_not result_region result_ok (λ p r. r.label) s l.i (3088 + 16 * l.i) l.prev refl h c.result_ok.ensures (ap not c.if-not-result_ok.true)) ∙ l.invariant

pub loop-i-preserved : goal.loop-i-preserved
loop-i-preserved c =
    let l = c.loop-i in
    let s = c.args.image.now in
    let h : l.i < length (view s).results = omega arith in
    ap (λ (p : ℕ). walk result_ok (λ p r. r.label) p (drop (l.i + 1) (view s).results)) c.label_at-prev.ensures
    ∙ row_next result_region result_ok (λ p r. r.label) s l.i (3088 + 16 * l.i) l.prev refl h c.result_ok.ensures (ap not c.if-not-result_ok.false) ∙ l.invariant

pub returns : goal.returns
returns c =
    let l = c.loop-i in
    let xs = (view c.args.image.now).results in
    sym (walk_end result_ok (λ p r. r.label) xs (blank result_region) l.i l.prev (omega arith)) ∙ l.invariant
