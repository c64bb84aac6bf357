-- The loop's invariant: the lines of the nodes before line i are written.
-- Assumes nothing.
use Rattle.page.proofs.Putting.{put_none, line_there, node_room, put_more, put_all}
use Rattle.page.proofs.read.put_nodes.Goals as goal

pub loop-i-init : goal.loop-i-init
loop-i-init c = λ r. put_none _ _ r

pub unwrap-n-requires : goal.unwrap-n-requires
unwrap-n-requires c = line_there _ _ c.requires _ _ _ (c.loop-i.invariant c.requires) c.loop-i-test.true _ c.read_page_line.ensures

pub put_node-p-requires : goal.put_node-p-requires
put_node-p-requires c = node_room _ _ c.requires _ _ _ (c.loop-i.invariant c.requires) c.loop-i-test.true _ (rw c.unwrap-n.ensures at c.read_page_line.ensures)

pub loop-i-preserved : goal.loop-i-preserved
loop-i-preserved c = λ room. put_more _ _ room _ _ _ (c.loop-i.invariant room) c.loop-i-test.true _ (rw c.unwrap-n.ensures at c.read_page_line.ensures) _ _ c.put_node-p.ensures

pub returns : goal.returns
returns c = put_all _ _ c.requires _ _ _ (c.loop-i.invariant c.requires) c.loop-i-test.false
