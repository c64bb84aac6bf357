-- The result is removed where it stands.
-- Assumes nothing.
use Rattle.session.proofs.Claiming.{removed}
use Rattle.session.proofs.claims.remove.Goals as goal

pub returns : goal.returns
returns c =
    removed c.args.at c.args.image.now _ c.requires.0 (λ i. (c.slice_known-2-1.given i).fits) c.requires.1 c.remove.ensures
