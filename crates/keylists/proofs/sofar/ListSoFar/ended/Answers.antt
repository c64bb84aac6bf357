-- `keylists::sofar::ListSoFar::ended` meets its contract: a number is the last, or no byte came.
-- Assumes nothing.
use Rattle.std.proofs.Common.{rules}
use Rattle.keylists.proofs.ListsBegun.{number_last, comma_last, no_byte}
use Rattle.keylists.proofs.sofar.ListSoFar.ended.Goals as goal

pub returns-in-Some : goal.returns-in-Some
returns-in-Some c = λ s g. number_last s c.args.self g c.in-Some.v c.in-Some.is (search rules) _ (c.with.ensures g.read g.known)

pub returns-in-None : goal.returns-in-None
returns-in-None c = λ s g. no_byte s c.args.self g c.in-None.is c.if-self-eq0.true

pub returns-in-None-2 : goal.returns-in-None-2
returns-in-None-2 c = λ s g. comma_last s c.args.self g c.in-None.is c.if-self-eq0.false
