-- What each turn serves follows what was served before.
-- Assumes nothing.
use Rattle.std.proofs.Common.{rules}
use Rattle.script.proofs.Running.{no_lines, then}
use Rattle.script.proofs.input.serve_input.Goals as goal

pub loop-init : goal.loop-init
loop-init g c = search (rules, no_lines)

pub loop-preserved : goal.loop-preserved
loop-preserved g c = search (rules, then)
