-- Room for 64 lines of 56 bytes is room for any load.
-- Assumes nothing.
use Rattle.std.proofs.Common.{arith}
use Rattle.load.proofs.Lengths.{load_short}
use Rattle.load.proofs.measure.fits.Goals as goal

pub returns-then-room : goal.returns-then-room
returns-then-room c = grind (arith, load_short c.args.seed c.args.count)
