-- The loop's invariant: the first lines are written, and the rest is drawn from the state.
-- Assumes nothing.
use Rattle.std.proofs.Common.{arith}
use Rattle.load.proofs.Writing.{begun_none, begun_all, begun_room, begun_more}
use Rattle.load.proofs.write.put_load.Goals as goal

pub loop-init : goal.loop-init
loop-init c = begun_none _ c.args.seed c.args.count

pub put_drawn-w-requires : goal.put_drawn-w-requires
put_drawn-w-requires c = begun_room _ _ _ c.requires c.loop.invariant (omega arith)

pub loop-preserved : goal.loop-preserved
loop-preserved c = begun_more _ _ _ c.requires c.loop.invariant (omega arith) _ _ c.put_drawn-w.ensures

pub returns : goal.returns
returns c = begun_all _ _ _ c.requires c.loop.invariant (omega arith)
