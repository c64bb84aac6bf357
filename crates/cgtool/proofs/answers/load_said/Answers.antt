-- What `load` answered is said.
-- Assumes nothing.
use Rattle.std.proofs.Common.{List, ℕ, subst}
use Rattle.graph.specs.Refusals.{Answer}
use Rattle.cgtool.specs.Commands.{said}
use Rattle.cgtool.specs.Inner.Outputs.{Says}
use Rattle.cgtool.proofs.Loads.{load_answered_law}
use Rattle.cgtool.proofs.answers.load_said.Goals as goal

pub returns : goal.returns
returns c =
    let a = load_answered_law c.args.seed c.args.count c.args.out.now c.requires c.load-returned.result c.load-returned.ensures in
    subst (λ (x : Answer (List ℕ)). Says c.returned_said.new.out c.returned_said.result (said x)) a.same c.returned_said.ensures
