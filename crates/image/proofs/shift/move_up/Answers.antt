-- `shift::move_up` meets its contract.
-- Assumes nothing.
use mathlib.Core.Path.{◌≡◌, subst}
use Prim.Native.Nat.{ℕ, ◌+◌, ◌-◌}
use Rattle.image.specs.Inner.Moves.{MovedUp}
use Rattle.image.proofs.Moves.{up_none, up_turn}
use native.Mathlib.Omega.{arith}
use Rattle.image.proofs.shift.move_up.Goals as goal

pub loop-i-init : goal.loop-i-init
loop-i-init c = (omega arith, omega arith, up_none _ _ _)

pub loop-i-preserved : goal.loop-i-preserved
loop-i-preserved c =
    let v = c.loop-i.invariant in
    let i = c.loop-i.i in
    let e : i ≡ i - 1 + 1 = omega arith in
    let m = subst (λ (n : ℕ). MovedUp n c.args.end c.args.by c.args.s.now c.loop-i.s) e v.2 in
    (omega arith, omega arith, up_turn _ _ _ _ _ (omega arith) (omega (arith, v.2.size)) m)

pub returns : goal.returns
returns c =
    let a = c.args in
    let e : c.loop-i.i ≡ a.at = omega arith in
    subst (λ (n : ℕ). MovedUp n a.end a.by a.s.now c.loop-i.s) e c.loop-i.invariant.2
