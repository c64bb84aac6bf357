-- `longlines::longline::begin` meets its contract: the two parts of the cut are read.
-- Assumes nothing.
use mathlib.Core.List.{List, []}
use mathlib.Core.Path.{refl, subst}
use Prim.Native.Nat.{ℕ}
use Rattle.keylists.specs.Inner.ListsRead.{ReadSoFar}
use Rattle.text.proofs.Splits.{from_eq}
use Rattle.longlines.proofs.Kept.{begins}
use Rattle.longlines.proofs.longline.begin.Goals as goal

pub returns : goal.returns
returns c =
    let n = c.list_at-at in
    let list = subst (λ (q : List ℕ). ReadSoFar q c.with_bytes.result) (from_eq c.args.bytes.now n.result) (c.with_bytes.ensures [] c.none.ensures) in
    begins c.args.bytes.now n.result _ c.requires n.ensures c.parse_call.ensures list refl
