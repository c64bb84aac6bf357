-- The loop's invariant: the results of the labels before the index are stored.
-- Assumes nothing.
use Rattle.std.proofs.Common.{arith, ◌≡◌, length, take, ap}
use Rattle.graph.specs.Packed.{listed}
use Rattle.valid.specs.Inner.Decoded.{labels_of}
use Rattle.state.proofs.ResultLaws.{stored_count, stored_next, labels_count, labels_fit}
use Rattle.state.proofs.results.store_all.Goals as goal

pub slice_bounds-each-end : goal.slice_bounds-each-end
slice_bounds-each-end c = rw c.from.ensures (labels_fit c.args.labels c.requires.1)

pub slice_bounds-label-items-end : goal.slice_bounds-label-items-end
slice_bounds-label-items-end c = rw c.from.ensures (labels_count c.args.labels c.requires.1)

pub store_one-requires : goal.store_one-requires
store_one-requires c =
    let a = c.args in
    let all : length (take c.from.result a.labels.label) ≡ length (labels_of a.labels) = ap (λ n. length (take n a.labels.label)) c.from.ensures in
    let stored = stored_count a.image.now (take c.from.result a.labels.label) a.value (listed a.left) c.loop-label.label-index c.loop-label.image c.loop-label-test.true c.loop-label.invariant in
    (c.loop-label.invariant.proper, omega (arith, c.requires.2), c.requires.3)

pub loop-label-preserved : goal.loop-label-preserved
loop-label-preserved c =
    let a = c.args in
    stored_next a.image.now (take c.from.result a.labels.label) a.value (listed a.left) c.loop-label.label-index c.loop-label.image c.loop-label-test.true c.loop-label.invariant _ c.store_one.ensures
