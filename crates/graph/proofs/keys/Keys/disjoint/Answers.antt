-- No key of the first list is in the second.
-- Assumes nothing.
use mathlib.Core.Path.{ap, ◌∙◌}
use mathlib.Core.Bool.{not}
use mathlib.Core.List.{List}
use Prim.Native.Nat.{ℕ}
use Rattle.std.proofs.Common.{rules, tests}
use Rattle.std.proofs.lemmas.Iterator.{YieldsList-from_slice}
use Rattle.std.proofs.lemmas.Iterator.Search.{all_from_yields_List}
use Rattle.graph.specs.KeyLists.{contains, disjoint}
use Rattle.graph.specs.Packed.{listed}
use Rattle.graph.proofs.KeyLaws.{all_disjoint}
use Rattle.graph.proofs.keys.Keys.disjoint.Goals as goal

pub returns : goal.returns
returns c =
    let keys = c.as_slice.result.now in
    let others = listed c.args.other in
    all_from_yields_List (λ (t : ℕ). not (contains t others)) _ _ _ c.all.ensures.ran (YieldsList-from_slice keys cc) (λ x b q k. search (rules, tests))
    ∙ all_disjoint keys others
    ∙ ap (λ (ts : List ℕ). disjoint ts others) c.as_slice.ensures
