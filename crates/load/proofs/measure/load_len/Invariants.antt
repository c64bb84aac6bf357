-- The loop's invariant: the lines measured and those left have the load's length.
-- Assumes nothing.
use Prim.Native.Nat.{◌+◌, ◌-◌}
use mathlib.Core.Path.{◌≡◌}
use lib.ListN.{length}
use Rattle.load.specs.Load.{load_text}
use Rattle.load.proofs.measure.load_len.Given as goal

abbrev pub invariant-loop : goal.invariant-loop
invariant-loop l = l.sum + length (load_text l.state (l.count - l.counter)) ≡ length (load_text l.seed l.count)
