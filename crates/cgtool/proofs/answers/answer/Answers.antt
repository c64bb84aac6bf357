-- Each answer is that of what was asked for.
-- Assumes nothing.
use Rattle.std.proofs.Common.{◌∙◌, ap, Some}
use Rattle.cgtool.proofs.Ends.{load_answer_law, page_answer, nodes_answer}
use Rattle.cgtool.proofs.answers.answer.Goals as goal

pub returns-in-Load : goal.returns-in-Load
returns-in-Load c = load_answer_law _ _ (c.in-Some.is ∙ ap Some c.in-Load.is) c.load_said.ensures

pub returns-in-Page : goal.returns-in-Page
returns-in-Page c = page_answer _ _ (c.in-Some.is ∙ ap Some c.in-Page.is) c.page_said.ensures

pub returns-in-Nodes : goal.returns-in-Nodes
returns-in-Nodes c = nodes_answer _ _ (c.in-Some.is ∙ ap Some c.in-Nodes.is) c.nodes_said.ensures
