-- The labels that wait, and the results.
-- Assumes nothing.
use native.Mathlib.Omega.{arith}
use Rattle.state.specs.Inner.State.{flat_in}
use Rattle.calls.proofs.Room.{live_parts}
use Rattle.calls.proofs.accept.live_total.Goals as goal

pub returns : goal.returns
returns c =
    let f = flat_in c.args.image.now in
    let l = c.labels_waiting.ensures in
    record { is = omega (arith, l.is, c.total.ensures.is, live_parts f); within = omega (arith, l.within, c.total.ensures.within) }
