-- `text::number::read_number` meets its contract. The loop's invariant: v is what the digits passed make.
-- Assumes nothing.
use mathlib.Core.Path.{refl}
use Rattle.text.proofs.Decimals.{outside, refute_large, refute_digit, refute_empty, is_zero, refute_zero, read_whole}
use native.Mathlib.Omega.{arith}
use Rattle.std.proofs.Common.{rules}
use Rattle.text.proofs.number.read_number.Goals as goal

pub returns-then-is_empty : goal.returns-then-is_empty
returns-then-is_empty c = refute_empty _ (search rules)

pub returns-then-s-eq1 : goal.returns-then-s-eq1
returns-then-s-eq1 c = is_zero _ c.if-s-eq48.true c.if-s-eq1.true

pub returns-else-s-eq1 : goal.returns-else-s-eq1
returns-else-s-eq1 c = refute_zero _ c.if-s-eq48.true c.if-s-eq1.false

pub returns-then-not-is_ascii_digit : goal.returns-then-not-is_ascii_digit
returns-then-not-is_ascii_digit c =
    refute_digit _ _ _ _ c.loop-b.invariant c.loop-b-test.true refl (outside c.if-not-is_ascii_digit.true c.is_ascii_digit.ensures.cases)

pub returns-in_err-checked_mul : goal.returns-in_err-checked_mul
returns-in_err-checked_mul c =
    rw c.from_residual.ensures (refute_large _ _ _ _ c.loop-b.invariant c.loop-b-test.true refl (omega (arith, c.in_err-checked_mul.ensures)))

pub returns-in_err-v : goal.returns-in_err-v
returns-in_err-v c =
    rw c.from_residual-in_err-v.ensures (refute_large _ _ _ _ c.loop-b.invariant c.loop-b-test.true refl (omega (arith, c.in_err-v.ensures)))

pub returns : goal.returns
returns c =
    read_whole _ _ _ c.loop-b.invariant c.loop-b-test.false (search rules) c.if-s-eq48.false
