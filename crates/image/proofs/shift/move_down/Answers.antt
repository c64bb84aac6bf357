-- `shift::move_down` meets its contract.
-- Assumes nothing.
use mathlib.Core.Path.{◌≡◌, subst}
use Prim.Native.Nat.{ℕ, ◌+◌}
use Rattle.image.specs.Inner.Moves.{MovedDown}
use Rattle.image.proofs.Moves.{down_none, down_turn}
use native.Mathlib.Omega.{arith}
use Rattle.image.proofs.shift.move_down.Goals as goal

pub loop-i-init : goal.loop-i-init
loop-i-init c = (omega arith, omega arith, down_none _ _ _)

pub loop-i-preserved : goal.loop-i-preserved
loop-i-preserved c =
    let v = c.loop-i.invariant in
    (omega arith, omega arith, down_turn _ _ _ _ _ v.0 (omega (arith, v.2.size)) v.2)

pub returns : goal.returns
returns c =
    let a = c.args in
    let e : c.loop-i.i + a.by ≡ a.end = omega arith in
    subst (λ (n : ℕ). MovedDown a.at n a.by a.s.now c.loop-i.s) e c.loop-i.invariant.2
