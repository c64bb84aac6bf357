-- The adds counted are those of the queue.
-- Assumes nothing.
use Rattle.std.proofs.Common.{not, ◌∙◌, arith, rules, tests}
use Rattle.std.proofs.lemmas.Iterator.{YieldsList-from_range}
use Rattle.std.proofs.lemmas.Iterator.Consumers.{YieldsList-from_filter, count_from_yields_List}
use Rattle.graph.specs.OneAtATime.{is_op}
use Rattle.state.specs.Inner.State.{flat_in}
use Rattle.waiting.proofs.Loops.{adds_counted, adds_few, call_at}
use Rattle.waiting.proofs.adds_waiting.Goals as goal

pub returns : goal.returns
returns c =
    let q = (flat_in c.args.image.now).queue in
    let n = c.total.result in
    let is = count_from_yields_List c.filter.result c.count.result c.count.ensures.ran
    (YieldsList-from_filter _ (λ i. not (is_op (call_at q i))) (YieldsList-from_range 0 n n c.filter.ensures.source (omega arith)) c.filter.ensures.closure (λ x r f k. search (rules, tests)))
    ∙ adds_counted q n c.total.ensures.is in
    record { is = is; within = omega (arith, is, adds_few q, c.total.ensures.is, c.total.ensures.within) }
