-- What `page` answered is said.
-- Assumes nothing.
use Rattle.cgtool.proofs.Pages.{page_answered_law}
use Rattle.cgtool.proofs.answers.page_said.Goals as goal

pub returns : goal.returns
returns c =
    let a = page_answered_law c.args.out.now c.requires _ c.page-returned.ensures in
    record { answer = _; answers = a.answers; says = c.returned_said.ensures }
