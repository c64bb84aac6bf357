-- The filter keeps the copies of the key.
-- Assumes nothing.
use mathlib.Core.Path.{ap, ◌∙◌}
use Rattle.std.proofs.Common.{rules, tests}
use Rattle.std.proofs.lemmas.Iterator.{YieldsList-from_slice}
use Rattle.std.proofs.lemmas.Iterator.Consumers.{count_from_yields_List, YieldsList-from_filter}
use Rattle.graph.specs.KeyLists.{count}
use Rattle.graph.proofs.KeyLaws.{count_filter}
use Rattle.graph.proofs.keys.Keys.copies.Goals as goal

pub returns : goal.returns
returns c =
    let keys = c.as_slice.result.now in
    count_from_yields_List c.filter.result _ c.count.ensures.ran
    (YieldsList-from_filter _ _ (YieldsList-from_slice keys cc) c.filter.ensures.closure (λ x r q k. search (rules, tests)))
    ∙ count_filter c.args.k keys
    ∙ ap (count c.args.k) c.as_slice.ensures
