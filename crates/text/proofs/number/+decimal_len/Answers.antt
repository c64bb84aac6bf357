-- `text::number::decimal_len` meets its contract, by recursion on the number.
-- Assumes nothing.
use Rattle.text.proofs.Decimals.{len_low, len_high, len_ten}
use native.Mathlib.Omega.{arith}
use Rattle.text.proofs.number.+decimal_len.Goals as goal

pub returns-then-v-lt10 : goal.returns-then-v-lt10
returns-then-v-lt10 t c = omega (arith, len_low c.args.v c.if-v-lt10.true)

pub returns : goal.returns
returns t c =
    let v = c.args.v in
    omega (arith, len_high v c.if-v-lt10.false, len_ten v (omega arith))
