-- The loop's invariant: the lines measured and those left have the load's length.
-- Assumes nothing.
use Rattle.std.proofs.Common.{arith, ℕ, length, ap, ◌-◌, ◌+◌}
use Rattle.load.specs.Load.{load_text}
use Rattle.load.proofs.Lengths.{line_short, load_over, load_short, first_length}
use Rattle.load.proofs.measure.load_len.Goals as goal

pub put_drawn-w-requires : goal.put_drawn-w-requires
put_drawn-w-requires c = omega (arith, line_short c.loop.state)

pub overflow_add-sum : goal.overflow_add-sum
overflow_add-sum c = omega (arith, first_length c.loop.state c.args.count c.loop.counter, load_short c.args.seed c.args.count)

pub loop-preserved : goal.loop-preserved
loop-preserved c =
    let rest = ap (λ (s : ℕ). length (load_text s (c.args.count - (c.loop.counter + 1)))) c.put_drawn-w.ensures.ends in
    omega (arith, first_length c.loop.state c.args.count c.loop.counter, rest)

pub returns : goal.returns
returns c = omega (arith, ap length (load_over c.loop.state c.args.count c.loop.counter (omega arith)))
