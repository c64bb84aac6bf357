-- The record at i is clean, and stands for the call there.
-- Assumes nothing.
use lib.ListN.{get_or}
use Rattle.flat.specs.Inner.FlatSteps.{no_op}
use Rattle.state.specs.Inner.State.{flat_in}
use Rattle.state.proofs.QueueHeld.{in_view, reads_at}
use Rattle.waiting.proofs.Naming.{names_of}
use Rattle.waiting.proofs.labels_at.Goals as goal

pub op_at-requires : goal.op_at-requires
op_at-requires c = (c.requires.0.sound, in_view c.args.image.now c.requires.0 c.args.i c.requires.1)

pub returns : goal.returns
returns c =
    let g = reads_at c.args.image.now c.requires.0 c.args.i c.requires.1 in
    names_of (get_or (flat_in c.args.image.now).queue c.args.i no_op) c.op_at.result (rw c.op_at.ensures g)
