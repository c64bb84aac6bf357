-- `results::call_result_at` meets its contract.
-- Assumes nothing.
use Rattle.state.proofs.ResultLaws.{call_result_of}
use Rattle.state.proofs.results.call_result_at.Goals as goal

pub returns : goal.returns
returns c =
    call_result_of c.args.image.now c.requires.0 c.args.i c.requires.1 c.result_at-r.ensures
