-- `rows::results_ok` meets its contract.
-- Assumes nothing.
use mathlib.Core.Path.{◌≡◌}
use lib.ListN.{drop}
use Rattle.image.specs.Inner.Regions.{view}
use Rattle.valid.specs.Inner.Tests.{walk, result_ok, results_ok}
use Rattle.valid.proofs.rows.results_ok.Given as goal

abbrev pub invariant-loop-i : goal.invariant-loop-i
invariant-loop-i l = walk result_ok (λ p r. r.label) l.prev (drop l.i (view l.image).results) ≡ results_ok (view l.image).results
