-- What the flat session's claim finds is what the session's does.
-- Assumes nothing.
use Rattle.session.proofs.Claiming.{found}
use Rattle.session.proofs.claims.find.Goals as goal

pub returns : goal.returns
returns c =
    found c.args.label c.args.image.now c.requires c.claim_place.result c.claim_place.ensures
