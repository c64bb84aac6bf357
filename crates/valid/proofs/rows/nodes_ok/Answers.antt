-- `rows::nodes_ok` meets its contract.
-- Assumes nothing.
use mathlib.Core.Path.{refl, sym, ap, ◌∙◌}
use Prim.Native.Nat.{◌+◌, ◌*◌, ◌<◌}
use native.Mathlib.Omega.{arith}
use mathlib.Core.Bool.{not}
use lib.ListN.{length}
use Rattle.image.specs.Inner.Regions.{view, blank, node_region}
use Rattle.valid.specs.Inner.Tests.{node_ok}
use Rattle.valid.proofs.Turns.{walk_end}
use Rattle.valid.proofs.InPlace.{row_not, row_next}
use Rattle.valid.proofs.rows.nodes_ok.Goals as goal

pub returns-then-not-node_ok : goal.returns-then-not-node_ok
returns-then-not-node_ok c =
    let l = c.loop-i in
    let s = c.args.image.now in
    let h : l.i < length (view s).nodes = omega arith in
    sym (row_not node_region node_ok (λ k r. k + 1) s l.i (16 + 16 * l.i) l.i refl h c.node_ok.ensures (ap not c.if-not-node_ok.true)) ∙ l.invariant

pub loop-i-preserved : goal.loop-i-preserved
loop-i-preserved c =
    let l = c.loop-i in
    let s = c.args.image.now in
    let h : l.i < length (view s).nodes = omega arith in
    row_next node_region node_ok (λ k r. k + 1) s l.i (16 + 16 * l.i) l.i refl h c.node_ok.ensures (ap not c.if-not-node_ok.false) ∙ l.invariant

pub returns : goal.returns
returns c =
    let l = c.loop-i in
    let xs = (view c.args.image.now).nodes in
    sym (walk_end node_ok (λ k r. k + 1) xs (blank node_region) l.i l.i (omega arith)) ∙ l.invariant
