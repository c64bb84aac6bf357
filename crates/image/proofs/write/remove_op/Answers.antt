-- `write::remove_op` meets its contract.
-- Assumes nothing.
use native.Mathlib.Omega.{arith}
use Rattle.image.specs.Inner.Regions.{op_region}
use Rattle.image.proofs.Regions.{count_of}
use Rattle.image.proofs.Writers.{removed, ops_fit, ops_written}
use Rattle.image.proofs.write.remove_op.Goals as goal

pub remove-requires : goal.remove-requires
remove-requires c = omega (arith, count_of op_region c.args.image.now, c.requires.0.size)

pub returns : goal.returns
returns c =
    let a = c.args in
    let sound = c.requires.0 in
    ops_written a.image.now sound _ _ (removed op_region a.image.now (ops_fit a.image.now sound) _ a.p c.requires.1 c.remove.ensures)
