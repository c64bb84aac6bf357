-- The operation goes, and its results are stored.
-- Assumes nothing.
use mathlib.Core.Path.{ap}
use lib.ListN.{length}
use Rattle.graph.specs.Targets.{left_of}
use Rattle.graph.specs.Packed.{targets_in}
use Rattle.graph.proofs.KeyLaws.{normal}
use Rattle.flat.specs.Flat.{Flat}
use Rattle.state.specs.Inner.State.{flat_in}
use Rattle.headsteps.proofs.Parts.{room_for, finish_shown}
use native.Mathlib.Omega.{arith}
use Rattle.headsteps.proofs.finish_at.Goals as goal

pub store_all-requires : goal.store_all-requires
store_all-requires c =
    let o = c.operation_at-o in
    let out = c.take_out.ensures in
    let room = room_for c.args.image.now c.args.p o.result c.requires.0 (omega (arith, c.requires.1, c.requires.2)) o.ensures in
    (out.proper, o.ensures.normal.names, rw (ap (λ (f : Flat). length f.results) out.shows) room, normal (left_of (targets_in o.result.targets)) c.left.ensures)

pub returns : goal.returns
returns c =
    let o = c.operation_at-o in
    finish_shown (flat_in c.args.image.now) c.args.p c.args.e o.result _ c.left.result _ _ o.ensures c.result_value-value.ensures c.left.ensures
    c.take_out.ensures c.store_all.ensures
