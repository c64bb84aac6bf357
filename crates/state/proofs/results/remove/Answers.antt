-- `results::remove` meets its contract.
-- Assumes nothing.
use Rattle.state.proofs.ResultLaws.{result_taken}
use Rattle.state.proofs.results.remove.Goals as goal

pub returns : goal.returns
returns c =
    result_taken c.args.image.now c.requires.0 _ c.args.i c.remove_result.ensures
