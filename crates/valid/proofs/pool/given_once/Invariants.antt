-- `pool::given_once` meets its contract.
-- Assumes nothing.
use mathlib.Core.Path.{◌≡◌}
use mathlib.Core.Bool.{true}
use lib.ListN.{take, drop}
use Rattle.valid.specs.Inner.Tests.{given_once}
use Rattle.valid.proofs.Turns.{Seen}
use Rattle.valid.proofs.pool.given_once.Given as goal

abbrev pub invariant-loop-i : goal.invariant-loop-i
invariant-loop-i l = (given_once l.last (drop l.i (take l.n l.s)) ≡ true) × Seen (take l.n l.s) l.i l.seen
