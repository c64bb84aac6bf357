-- `lines::call::call_targets` meets its contract: the line ends after an add's number.
-- Assumes nothing.
use mathlib.Core.List.{[]}
use mathlib.Core.Path.{refl, ap}
use native.Mathlib.Omega.{arith}
use lib.ListN.{length, length-drop, drop_of_length-le}
use Rattle.graph.specs.Targets.{named}
use Rattle.lines.proofs.call.call_targets.Goals as goal

pub returns-in-Add : goal.returns-in-Add
returns-in-Add c = rw c.in-Add.is (λ to b t e. omega (arith, ap length e, length-drop c.args.at c.args.line.now))

pub returns-in-Add-2 : goal.returns-in-Add-2
returns-in-Add-2 c = rw c.in-Add.is (named [], refl, drop_of_length-le c.args.line.now c.if-at-line.false, (tt, c.none.ensures))
