-- A line is served, or there is none.
-- Assumes nothing.
use Rattle.script.proofs.Running.{no_lines, one_line}
use Rattle.script.proofs.serve.serve_last.Goals as goal

pub returns-then-frame-gt0 : goal.returns-then-frame-gt0
returns-then-frame-gt0 g c = record { count = _; run = one_line c.serve_line-n.ensures.served }

pub returns-else-frame-gt0 : goal.returns-else-frame-gt0
returns-else-frame-gt0 g c = record { count = _; run = no_lines }
