-- First the next is to open the unit, then the operation goes.
-- Assumes nothing.
use mathlib.Core.Path.{ap, ◌∙◌}
use lib.ListN.{length, get_or}
use Rattle.flat.specs.Flat.{Flat}
use Rattle.flat.specs.Inner.FlatSteps.{no_op}
use Rattle.state.specs.Inner.State.{flat_in}
use Rattle.headsteps.proofs.Parts.{hand_length}
use native.Mathlib.Omega.{arith}
use Rattle.headsteps.proofs.take_out.Goals as goal

pub remove-requires : goal.remove-requires
remove-requires c =
    let hand = c.hand_on.ensures in
    (hand.proper, rw (ap (λ (f : Flat). length f.queue) hand.shows ∙ hand_length c.args.p c.args.e (get_or (flat_in c.args.image.now).queue c.args.p no_op) (flat_in c.args.image.now).queue) (omega (arith, c.requires.1, c.requires.2)))
