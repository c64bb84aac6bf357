-- `longlines::longline::go_on` meets its contract: from 256 bytes on the length alone is owed, else the list is fed.
-- Assumes nothing.
use mathlib.Core.Path.{refl}
use lib.ListN.{length-append}
use Rattle.longlines.proofs.Kept.{past, goes_on_law}
use native.Mathlib.Omega.{arith}
use Rattle.longlines.proofs.longline.go_on.Goals as goal
use Rattle.longlines.proofs.longline.go_on.Goals.{in-Some, in-None}
use Prim.Native.Nat.{ℕ}
use mathlib.Core.List.{List, ◌++◌}
use Rattle.keylists.specs.Inner.ListsRead.{ReadSoFar}
use Rattle.keylists.proofs.ListsBegun.{still_broken}

pub returns-then-l-gt255 : goal.returns-then-l-gt255
returns-then-l-gt255 c = λ line g. past _ _ (omega (arith, g.size, length-append line c.args.piece.now)) (omega (arith, g.size))

pub returns : goal.returns
returns c = λ line g.
    let fed : (s : List ℕ) → ReadSoFar s c.args.l.list → ReadSoFar (s ++ c.args.piece.now) c.match-l.list =
    λ s h. elim c.match-l.branch [
      | in-Some w ↦ rw w.list-is (w.with_bytes-list.ensures s (rw w.in-Some.is at h))
      | in-None w ↦ rw w.list-is (still_broken s c.args.piece.now (rw w.in-None.is at h))
    ] in
    goes_on_law line _ c.args.l _ g (omega (arith, g.size)) refl fed refl
