-- The node, the call and the result, one after another.
-- Assumes nothing.
use mathlib.Core.Path.{ap, ◌∙◌}
use Prim.Native.Nat.{suc}
use native.Mathlib.Numerals.{add-one}
use lib.ListN.{length}
use Rattle.graph.specs.Packed.{listed}
use Rattle.flat.specs.Flat.{Flat}
use Rattle.calls.proofs.Admitting.{add_shown}
use Rattle.waiting.proofs.Naming.{none_listed}
use Rattle.calls.proofs.admit.admit_add.Goals as goal

pub store_one-requires : goal.store_one-requires
store_one-requires c =
    let node = c.append_body.ensures in
    let gone = c.remove.ensures in
    (gone.proper, rw (ap (λ (f : Flat). length f.results) gone.shows ∙ ap (λ (f : Flat). length f.results) node.shows) c.requires.4, (none_listed c.none-left.result c.none-left.ensures).keys)

pub returns : goal.returns
returns c =
    let a = c.add_at-a in
    let n = c.total-n in
    let none = c.none-left in
    add_shown c.args.image.now _ _ _ c.args.w a.result.label a.result.value _ (listed none.result) a.ensures (add-one n.result ∙ ap suc n.ensures.is) (none_listed none.result none.ensures).is
    c.append_body.ensures c.remove.ensures c.store_one.ensures
