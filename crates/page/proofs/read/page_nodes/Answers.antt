-- Each answer is a case of `ReadsPage`.
-- Assumes nothing.
use Rattle.std.proofs.Common.{◌≡◌, arith}
use Rattle.std.specs.Prelude.{Some}
use Rattle.page.specs.Inner.Measuring.{PageMeasured}
use Rattle.page.proofs.Answering.{no_nodes_room, nodes_written}
use Rattle.page.proofs.read.page_nodes.Goals as goal
use Rattle.page.proofs.read.page_nodes.Goals.{In_ok-n}

measured : (c : In_ok-n) → PageMeasured c.args.page.now (Some c.in_ok-n.n)
measured c = let e : c.nodes_len.result ≡ Some c.in_ok-n.n = grind arith in rw e at c.nodes_len.ensures

pub returns-then-out-n : goal.returns-then-out-n
returns-then-out-n c = no_nodes_room _ _ _ (measured (goal.at.returns-then-out-n c).In_ok-n) c.if-out-n.true

pub returns : goal.returns
returns c = nodes_written _ _ _ (measured (goal.at.returns c).In_ok-n) _ c.if-out-n.false c.put_nodes.ensures
