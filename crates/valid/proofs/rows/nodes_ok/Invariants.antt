-- `rows::nodes_ok` meets its contract.
-- Assumes nothing.
use mathlib.Core.Path.{◌≡◌}
use Prim.Native.Nat.{◌+◌}
use lib.ListN.{drop}
use Rattle.image.specs.Inner.Regions.{view}
use Rattle.valid.specs.Inner.Tests.{walk, node_ok, nodes_ok}
use Rattle.valid.proofs.rows.nodes_ok.Given as goal

abbrev pub invariant-loop-i : goal.invariant-loop-i
invariant-loop-i l = walk node_ok (λ k r. k + 1) l.i (drop l.i (view l.image).nodes) ≡ nodes_ok (view l.image).nodes
