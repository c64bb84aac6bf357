-- `pool::labels_live` meets its contract.
-- Assumes nothing.
use mathlib.Core.Path.{◌≡◌, refl}
use Prim.Native.Nat.{◌+◌, ◌-◌, ◌≤◌}
use lib.ListN.{length, replicate}
use borrow.Author.Rules.{rules}
use borrow.Rule.Slice.PartMut.{put_mid}
use Rattle.valid.specs.Inner.Tests.{Gathers}
use Rattle.valid.proofs.Turns.{padded, put_part}
use native.Mathlib.Omega.{arith}
use Rattle.valid.proofs.pool.labels_live.Goals as goal
use Rattle.valid.proofs.pool.labels_live.Goals.{After-fill}

room : (c : After-fill) → c.gather_results-n.result + 64 ≤ length c.gather_results-n.new.pool
room c = omega (arith, c.if-n-gt64.false, c.gather_results-n.ensures.0.size, c.gather_ops-a.ensures.0.size)

-- 64 zeros after the labels
zeros : (c : After-fill) → Gathers (replicate 64 0) c.gather_results-n.result c.gather_results-n.new.pool (put_mid c.gather_results-n.result (c.gather_results-n.result + 64 - c.gather_results-n.result) c.gather_results-n.new.pool c.fill.new.self) (c.gather_results-n.result + 64)
zeros c =
    let e : c.fill.new.self ≡ replicate 64 0 = search rules in
    rw e (put_part c.gather_results-n.new.pool (replicate 64 0) c.gather_results-n.result _ 64 (omega arith) refl (room c))

pub given_once-requires : goal.given_once-requires
given_once-requires c = padded _ _ _ c.if-n-gt64.false (room (goal.at.given_once-requires c).After-fill) (zeros (goal.at.given_once-requires c).After-fill)
