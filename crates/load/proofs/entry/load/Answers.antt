-- A load is short.
-- Assumes nothing.
use Rattle.std.proofs.Common.{arith}
use Rattle.load.proofs.Lengths.{load_short}
use Rattle.load.proofs.entry.load.Goals as goal

pub overflow_cast-result : goal.overflow_cast-result
overflow_cast-result c = omega (arith, load_short c.args.seed c.args.count)
