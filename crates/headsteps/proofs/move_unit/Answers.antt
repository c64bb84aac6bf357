-- The loop's invariant: the operations from h up to i are at the next station.
-- Assumes nothing.
use Rattle.std.proofs.Common.{◌-◌, arith}
use Rattle.flat.specs.Inner.FlatSteps.{move_on}
use Rattle.headsteps.proofs.Parts.{moved_next}
use Rattle.headsteps.proofs.move_unit.Goals as goal

pub loop-i-preserved : goal.loop-i-preserved
loop-i-preserved c =
    moved_next c.args.image.now (move_on (c.args.k - 1)) c.args.h c.loop-i.i c.loop-i.image (omega arith) (omega (arith, c.requires.3)) c.loop-i.invariant _ c.move_op.ensures
