-- `text::put::put_bytes` meets its contract. The loop's invariant: the first i bytes of the literal are written.
-- Assumes nothing.
use mathlib.Core.Path.{◌≡◌, refl, subst}
use Prim.Native.Nat.{ℕ, ◌+◌}
use lib.ListN.{length, length-set}
use Rattle.text.specs.Inner.Put.{TextPut}
use Rattle.text.proofs.Pasting.{written_none, copy_more, copy_all}
use native.Mathlib.Nat.{add-zero}
use native.Mathlib.Omega.{arith}
use Rattle.text.proofs.put.put_bytes.Goals as goal

pub loop-i-init : goal.loop-i-init
loop-i-init c = (refl, simp add-zero (written_none _ _))

pub loop-i-preserved : goal.loop-i-preserved
loop-i-preserved c =
    (simp length-set c.loop-i.invariant.0, copy_more _ _ _ _ _ c.requires c.loop-i.invariant.1 c.loop-i-test.true c.loop-i.invariant.0)

pub returns : goal.returns
returns c =
    let a = c.args in
    let e : c.loop-i.i ≡ length a.literal.now = omega arith in
    subst (λ (n : ℕ). TextPut a.out.now a.at a.literal.now c.loop-i.out (a.at + n)) e (copy_all _ _ _ _ _ c.requires c.loop-i.invariant.1 c.loop-i-test.false)
