-- One line is served, or none.
-- Assumes nothing.
use Rattle.std.proofs.Common.{rules}
use Rattle.script.proofs.Running.{no_lines, one_line}
use Rattle.script.proofs.serve.serve_long.Goals as goal

pub returns-then-frame-at-lt-LONG : goal.returns-then-frame-at-lt-LONG
returns-then-frame-at-lt-LONG g c = (search rules, no_lines)

pub returns : goal.returns
returns g c = (search rules, one_line c.serve_line-n.ensures.served)
