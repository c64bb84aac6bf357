-- `text::number::put_wide` meets its contract, by recursion on the number: all digits but the last are written first.
-- Assumes nothing.
use Rattle.text.proofs.Decimals.{len_low, len_high}
use Rattle.text.proofs.Pasting.{put_low, put_high, put_within}
use native.Mathlib.Omega.{arith}
use Rattle.text.proofs.number.+put_wide.Goals as goal

pub bounds-out-at : goal.bounds-out-at
bounds-out-at t c = omega (arith, len_low c.args.v c.if-v-lt10.true)

pub returns-then-v-lt10 : goal.returns-then-v-lt10
returns-then-v-lt10 t c = put_low c.args.out.now c.args.at c.args.v c.if-v-lt10.true c.requires

pub put_wide-n-requires : goal.put_wide-n-requires
put_wide-n-requires t c =
    (omega arith, omega (arith, len_high c.args.v c.if-v-lt10.false, c.requires))

pub bounds-out-n : goal.bounds-out-n
bounds-out-n t c =
    let p = c.put_wide-n in
    put_within c.if-v-lt10.false c.requires p.ensures

pub overflow_add-result-2 : goal.overflow_add-result-2
overflow_add-result-2 t c =
    omega (arith, len_high c.args.v c.if-v-lt10.false, c.requires, c.put_wide-n.ensures.place, c.well_formed.0.0)

pub returns : goal.returns
returns t c =
    let p = c.put_wide-n in
    put_high c.if-v-lt10.false c.requires p.ensures
