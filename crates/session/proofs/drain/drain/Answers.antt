-- What is counted, with what is still to be taken, is what drain takes.
-- Assumes nothing.
use mathlib.Core.Path.{sym, subst}
use Rattle.session.proofs.DrainLoop.{Goes, Loop, loop_next, loop_done, counts_fit}
use native.Mathlib.Omega.{arith}
use borrow.Author.Rules.{rules}
use Rattle.session.proofs.drain.drain.Goals as goal
use Rattle.session.proofs.drain.drain.Goals.{After-slice_known-in-loop-image-1}

pub raise-requires : goal.raise-requires
raise-requires c =
    counts_fit c.args.image.now c.loop-image.image c.loop-image.c c.requires c.loop-image.invariant

-- a turn took a step
turn : (e : After-slice_known-in-loop-image-1) →
    Goes e.args.image.now e.loop-image.image e.drain_one-taken.new.image e.loop-image.c e.drain_one-taken.result
turn e = loop_next _ _ _ _ _ e.loop-image.invariant e.drain_one-taken.ensures (search rules) (λ i. (e.slice_known-in-loop-image-1.given i).fits)

pub loop-image-smaller : goal.loop-image-smaller
loop-image-smaller c = (turn (goal.at.loop-image-smaller c).After-slice_known-in-loop-image-1).lighter

pub loop-image-preserved : goal.loop-image-preserved
loop-image-preserved c = subst (Loop _ _) (sym c.raise.ensures) (turn (goal.at.loop-image-preserved c).After-slice_known-in-loop-image-1).loop

pub returns : goal.returns
returns c =
    loop_done c.args.image.now c.loop-image.image c.loop-image.c c.loop-image.invariant (omega (arith, c.total.ensures.is, c.loop-image-test.false))
