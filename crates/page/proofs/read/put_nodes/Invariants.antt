-- The loop's invariant: the lines of the nodes before line i are written.
-- Assumes nothing.
use Rattle.page.specs.Inner.Measuring.{RoomForNodes}
use Rattle.page.proofs.Putting.{Put}
use Rattle.page.proofs.read.put_nodes.Given as goal

abbrev pub invariant-loop-i : goal.invariant-loop-i
invariant-loop-i l = (r : RoomForNodes l.page l.initial.out) → Put l.page l.initial.out r.ns l.out l.p l.i
