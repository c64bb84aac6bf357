-- The loop's invariant: the first lines are written, and the rest is drawn from the state.
-- Assumes nothing.
use Rattle.load.proofs.Writing.{Begun}
use Rattle.load.proofs.write.put_load.Given as goal

abbrev pub invariant-loop : goal.invariant-loop
invariant-loop l = Begun l.initial.out l.seed l.count l.out l.p l.state l.counter
