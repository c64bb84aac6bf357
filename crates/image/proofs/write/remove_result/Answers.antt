-- `write::remove_result` meets its contract.
-- Assumes nothing.
use native.Mathlib.Omega.{arith}
use Rattle.image.specs.Inner.Regions.{result_region}
use Rattle.image.proofs.Regions.{count_of}
use Rattle.image.proofs.Writers.{removed, results_fit, results_written}
use Rattle.image.proofs.write.remove_result.Goals as goal

pub remove-requires : goal.remove-requires
remove-requires c = omega (arith, count_of result_region c.args.image.now, c.requires.0.size)

pub returns : goal.returns
returns c =
    let a = c.args in
    let sound = c.requires.0 in
    results_written a.image.now sound _ _ (removed result_region a.image.now (results_fit a.image.now sound) _ a.p c.requires.1 c.remove.ensures)
