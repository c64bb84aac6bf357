-- `keylists::keylist::KeyList::targets` meets its contract: the tests stand in the order of the definition.
-- Assumes nothing.
use borrow.Author.Tests.{not-true, not-false}
use Rattle.keylists.proofs.KeyLists.{no_keys, too_many, not_rising, are_targets}
use Rattle.keylists.proofs.keylist.KeyList.targets.Goals as goal
use Rattle.keylists.proofs.keylist.KeyList.targets.Goals.{then-self-gt8-via-then-self-gt8, then-self-gt8-via-else-self-gt8+then-not-self-2}

pub returns-then-not-self : goal.returns-then-not-self
returns-then-not-self c = λ ts p. no_keys ts c.args.self p (not-true c.args.self.keys c.if-not-self.true)

pub returns-then-self-gt8 : goal.returns-then-self-gt8
returns-then-self-gt8 c = λ ts p.
    let k = c.args.self in
    let on = not-false k.keys c.if-not-self.false in
    elim c.then-self-gt8.branch [
      | then-self-gt8-via-then-self-gt8 w ↦ too_many ts k p on w.if-self-gt8.true
      | then-self-gt8-via-else-self-gt8+then-not-self-2 w ↦ not_rising ts k p on w.if-self-gt8.false (not-true k.rising w.if-not-self-2.true)
    ]

pub returns : goal.returns
returns c = λ ts p. are_targets ts c.args.self p (not-false c.args.self.keys c.if-not-self.false) c.if-self-gt8.false (not-false c.args.self.rising c.if-not-self-2.false)
