-- Some key of the list is the one.
-- Assumes nothing.
use mathlib.Core.Path.{ap, ◌∙◌}
use lib.Dec.{eqb}
use Prim.Native.Nat.{ℕ}
use Rattle.std.proofs.Common.{rules, tests}
use Rattle.std.proofs.lemmas.Iterator.{YieldsList-from_slice}
use Rattle.std.proofs.lemmas.Iterator.Search.{any_from_yields_List}
use Rattle.graph.specs.KeyLists.{contains}
use Rattle.graph.proofs.KeyLaws.{any_contains}
use Rattle.graph.proofs.keys.Keys.contains.Goals as goal

pub returns : goal.returns
returns c =
    let keys = c.as_slice.result.now in
    any_from_yields_List (λ (t : ℕ). eqb t c.args.k) _ _ _ c.any.ensures.ran (YieldsList-from_slice keys cc) (λ x b q k. search (rules, tests))
    ∙ any_contains c.args.k keys
    ∙ ap (contains c.args.k) c.as_slice.ensures
