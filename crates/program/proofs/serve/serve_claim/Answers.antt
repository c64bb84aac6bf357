-- The result line stays, or the refusal is printed.
-- Assumes nothing.
use Rattle.program.proofs.Serving.{claim_served_law}
use Rattle.program.proofs.serve.serve_claim.Goals as goal

pub returns : goal.returns
returns c = claim_served_law c.claim_at-answer.ensures c.length_in.ensures c.requires.0 c.requires.1 c.put_answer.ensures
