-- What the host answered is printed.
-- Assumes nothing.
use Rattle.panel.specs.Tally.{zeros}
use Rattle.host.proofs.Stepping.{takes_steps}
use Rattle.program.proofs.Serving.{step_served_law}
use Rattle.program.proofs.serve.serve_step.Goals as goal

pub returns : goal.returns
returns c = step_served_law c.requires.1 (takes_steps c.step_at.result c.step_at.ensures zeros).1 (rw c.step_answer.ensures at c.put_answer.ensures)
