-- Some call has the label where the queue's labels have it.
-- Assumes nothing.
use Rattle.std.proofs.Common.{◌∙◌, refl, arith, rules, tests}
use Rattle.std.proofs.lemmas.Iterator.{YieldsList-from_range}
use Rattle.std.proofs.lemmas.Iterator.Search.{any_from_yields_List}
use Rattle.graph.specs.KeyLists.{contains}
use Rattle.flat.specs.Inner.Queues.{labels_in}
use Rattle.state.specs.Inner.State.{flat_in}
use Rattle.waiting.proofs.Loops.{names_any, call_at}
use Rattle.waiting.proofs.is_queued.Goals as goal

pub returns : goal.returns
returns c =
    let q = (flat_in c.args.image.now).queue in
    let n = c.total.result in
    any_from_yields_List (λ i. contains c.args.label (labels_in (call_at q i))) _ _ _ c.any.ensures.ran (YieldsList-from_range 0 n n refl (omega arith)) (λ x r f k. search (rules, tests))
    ∙ names_any q c.args.label n c.total.ensures.is
