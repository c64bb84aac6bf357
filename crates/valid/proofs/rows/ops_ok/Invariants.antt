-- `rows::ops_ok` meets its contract.
-- Assumes nothing.
use mathlib.Core.Path.{◌≡◌}
use Prim.Native.Nat.{◌+◌, ◌≤◌}
use lib.ListN.{drop}
use Rattle.image.specs.Inner.Regions.{view}
use Rattle.valid.specs.Inner.Tests.{walk, op_ok, ops_ok, adds_among}
use Rattle.valid.proofs.rows.ops_ok.Given as goal

abbrev pub invariant-loop-i : goal.invariant-loop-i
invariant-loop-i l =
    (l.adds ≤ l.i) × (walk (op_ok l.n) (λ p o. o.station) l.prev (drop l.i (view l.image).ops) ≡ ops_ok l.n (view l.image).ops) × (l.adds + adds_among (drop l.i (view l.image).ops) ≡ adds_among (view l.image).ops)
