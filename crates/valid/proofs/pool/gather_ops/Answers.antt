-- `pool::gather_ops` meets its contract.
-- Assumes nothing.
use mathlib.Core.Path.{◌≡◌, refl, sym, ap, ◌∙◌}
use Prim.Native.Nat.{ℕ, ◌+◌, ◌<◌}
use lib.ListN.{length, take, length-append}
use mathlib.Core.List.{List, ◌++◌}
use Rattle.records.specs.declared.labels.Labels.{Labels}
use Rattle.image.specs.Inner.Regions.{view, blank, op_region}
use Rattle.valid.specs.Inner.Decoded.{labels_of}
use Rattle.valid.specs.Inner.Tests.{op_labels}
use Rattle.valid.proofs.Turns.{ops_next}
use native.Mathlib.Omega.{arith}
use Rattle.valid.proofs.pool.gather_ops.Goals as goal

pub loop-i-init : goal.loop-i-init
unfolding op_labels
loop-i-init c = (omega arith, record { size = refl; count = refl; front = refl })

pub loop-i-preserved : goal.loop-i-preserved
loop-i-preserved c =
    let l = c.loop-i in
    let a = c.args in
    let os = (view a.image.now).ops in
    let h : l.i < length os = omega arith in
    let p = c.push_labels-at.ensures in
    let o = c.op_labels in
    let e : op_labels (take (l.i + 1) os) ≡ op_labels (take l.i os) ++ labels_of o.result = ops_next os (blank op_region) l.i h ∙ ap (λ (x : Labels). op_labels (take l.i os) ++ labels_of x) (sym o.ensures) in (
      omega (arith, p.1, l.invariant.0),
      record {
        size = p.0.size ∙ l.invariant.1.size;
        count = p.0.count ∙ omega (arith, l.invariant.1.count, length-append (op_labels (take l.i os)) (labels_of o.result), ap length e);
        front = p.0.front ∙ ap (λ (x : List ℕ). x ++ labels_of o.result) l.invariant.1.front ∙ sym e;
      },
    )
