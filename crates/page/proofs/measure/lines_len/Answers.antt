-- The loop's invariant: the lines from line i on are read, and their keys are marked.
-- Assumes nothing.
use Rattle.std.proofs.Common.{◌-◌, arith}
use Rattle.page.proofs.Scanning.{scanned_none, scan_missing, scan_repeated, scan_more}
use Rattle.page.proofs.measure.lines_len.Goals as goal

pub loop-i-init : goal.loop-i-init
loop-i-init c = scanned_none _ c.requires

pub returns-in_err-n : goal.returns-in_err-n
returns-in_err-n c = rw c.from_residual.ensures (scan_missing c.loop-i.invariant (c.loop-i.i - 1) (omega arith) (omega arith) c.in_err-n.ensures)

pub returns-then-seen-key : goal.returns-then-seen-key
returns-then-seen-key c = scan_repeated c.loop-i.invariant (c.loop-i.i - 1) (omega arith) (omega arith) _ c.in_ok-n.ensures c.if-seen-key.true

pub loop-i-preserved : goal.loop-i-preserved
loop-i-preserved c = scan_more c.loop-i.invariant (c.loop-i.i - 1) (omega arith) (omega arith) _ c.in_ok-n.ensures _ c.if-seen-key.false c.node_len-sum.ensures
