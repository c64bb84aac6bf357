-- `results::set_last` meets its contract.
-- Assumes nothing.
use Rattle.state.proofs.Holding.{last_shown}
use Rattle.state.proofs.results.set_last.Goals as goal

pub returns : goal.returns
returns c =
    last_shown c.args.image.now c.requires _ c.set_last.ensures
