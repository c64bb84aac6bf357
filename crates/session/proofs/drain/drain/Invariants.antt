-- What is counted, with what is still to be taken, is what drain takes.
-- Assumes nothing.
use Rattle.graph.proofs.Weights.{weight_of}
use Rattle.valid.specs.Inner.Decoded.{session_of}
use Rattle.session.proofs.DrainLoop.{Loop}
use Rattle.session.proofs.drain.drain.Given as goal

abbrev pub invariant-loop-image : goal.invariant-loop-image
invariant-loop-image l = Loop l.initial.image l.image l.c

abbrev pub decreases-loop-image : goal.decreases-loop-image
decreases-loop-image l = weight_of (session_of l.image)
