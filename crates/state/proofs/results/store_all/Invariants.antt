-- The loop's invariant: the results of the labels before the index are stored.
-- Assumes nothing.
use Rattle.graph.specs.Packed.{listed}
use Rattle.state.proofs.ResultLaws.{Stored}
use Rattle.state.proofs.results.store_all.Given as goal

abbrev pub invariant-loop-label : goal.invariant-loop-label
invariant-loop-label l = Stored l.initial.image l.label-items l.value (listed l.left) l.label-index l.image
