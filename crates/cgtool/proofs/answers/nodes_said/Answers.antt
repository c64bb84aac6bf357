-- What `page_nodes` answered is said.
-- Assumes nothing.
use Rattle.cgtool.proofs.Pages.{nodes_answered_law}
use Rattle.cgtool.proofs.answers.nodes_said.Goals as goal

pub returns : goal.returns
returns c =
    let a = nodes_answered_law c.args.out.now c.requires _ c.page_nodes-returned.ensures in
    record { answer = _; answers = a.answers; says = c.returned_said.ensures }
