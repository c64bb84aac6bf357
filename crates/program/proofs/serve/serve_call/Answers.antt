-- What the host answered is printed.
-- Assumes nothing.
use Rattle.program.proofs.Serving.{call_served_law}
use Rattle.program.proofs.serve.serve_call.Goals as goal

pub returns : goal.returns
returns c = call_served_law c.requires.1 c.requires.2 c.call_at.ensures c.put_answer.ensures
