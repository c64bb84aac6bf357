-- `rows::ops_ok` meets its contract.
-- Assumes nothing.
use lib.Dec.{eqb, leb}
use mathlib.Core.Path.{◌≡◌, refl, sym, ap, ◌∙◌}
use Prim.Native.Nat.{ℕ, ◌+◌, ◌*◌, ◌≤◌, ◌<◌}
use native.Mathlib.Omega.{arith}
use mathlib.Core.Bool.{Bool, true, false, cond, ◌&&◌}
use lib.ListN.{length, drop}
use borrow.Author.Tests.{eq-eqb, ne_eqb}
use Rattle.image.specs.Inner.Regions.{view, blank, op_region}
use Rattle.valid.specs.Inner.Tests.{walk, op_ok, ops_ok, adds_among}
use Rattle.valid.proofs.Turns.{walk_end, adds_next, adds_end, yes_test}
use Rattle.valid.proofs.InPlace.{row_not, row_next}
use mathlib.Core.Bool.{not}
use Rattle.valid.proofs.rows.ops_ok.Goals as goal
use Rattle.valid.proofs.rows.ops_ok.Goals.{then-kind_at-eq0, else-kind_at-eq0}

pub returns-then-not-op_ok : goal.returns-then-not-op_ok
returns-then-not-op_ok c =
    let l = c.loop-i in
    let s = c.args.image.now in
    let xs = (view s).ops in
    let n = c.node_count-n in
    let h : l.i < length xs = omega arith in
    let none : ops_ok (length (view s).nodes) xs ≡ false =
    ap (λ (k : ℕ). ops_ok k xs) (sym n.ensures) ∙ sym l.invariant.1 ∙ row_not op_region (op_ok n.result) (λ p o. o.station) s l.i (1040 + 32 * l.i) l.prev refl h c.op_ok.ensures (ap not c.if-not-op_ok.true) in
    sym (ap (λ (b : Bool). b && leb (length (view s).nodes + adds_among xs) 64) none)

pub loop-i-preserved : goal.loop-i-preserved
loop-i-preserved c =
    let l = c.loop-i in
    let s = c.args.image.now in
    let xs = (view s).ops in
    let n = c.node_count-n in
    let h : l.i < length xs = omega arith in
    let k = c.kind_at in
    let walked = ap (λ (p : ℕ). walk (op_ok n.result) (λ p o. o.station) p (drop (l.i + 1) xs)) c.station_at-prev.ensures
    ∙ row_next op_region (op_ok n.result) (λ p o. o.station) s l.i (1040 + 32 * l.i) l.prev refl h c.op_ok.ensures (ap not c.if-not-op_ok.false) ∙ l.invariant.1 in
    let next : (b : Bool) → eqb k.result 0 ≡ b → adds_among (drop l.i xs) ≡ cond b 1 0 + adds_among (drop (l.i + 1) xs) = λ b q. adds_next xs (blank op_region) l.i b h (ap (λ (n : ℕ). eqb n 0) (sym k.ensures) ∙ q) in
    elim c.if-kind_at-eq0.branch [
      | then-kind_at-eq0 w ↦ (omega (arith, w.adds-is, l.invariant.0), walked, omega (arith, w.adds-is, l.invariant.2, next true (eq-eqb k.result 0 w.if-kind_at-eq0.true)))
      | else-kind_at-eq0 w ↦ (omega (arith, w.adds-is, l.invariant.0), walked, omega (arith, w.adds-is, l.invariant.2, next false (ne_eqb k.result 0 w.if-kind_at-eq0.false)))
    ]

pub returns : goal.returns
returns c =
    let l = c.loop-i in
    let s = c.args.image.now in
    let xs = (view s).ops in
    let n = c.node_count-n in
    let h : length xs ≤ l.i = omega arith in
    let all : ops_ok (length (view s).nodes) xs ≡ true =
    ap (λ (k : ℕ). ops_ok k xs) (sym n.ensures) ∙ sym l.invariant.1 ∙ walk_end (op_ok n.result) (λ p o. o.station) xs (blank op_region) l.i l.prev h in
    let adds : l.adds ≡ adds_among xs = omega (arith, l.invariant.2, adds_end xs (blank op_region) l.i h) in
    yes_test all (λ i. leb (n.ensures i + adds i) 64)
