-- The test of the line is what each server asks.
-- Assumes nothing.
use Rattle.text.specs.Text.{ascii}
use Rattle.program.proofs.Serving.{starts_line}
use Rattle.program.proofs.serve.serve_line.Goals as goal

pub serve_step-requires : goal.serve_step-requires
unfolding ascii
serve_step-requires c = (c.requires, starts_line (ascii "step=") c.part_to-text.ensures c.starts_with.ensures c.if-starts_with.true)

pub serve_claim-requires : goal.serve_claim-requires
unfolding ascii
serve_claim-requires c = (c.requires, starts_line (ascii "claim=") c.part_to-text.ensures c.starts_with-else-starts_with.ensures c.if-starts_with-2.true)

pub serve_call-requires : goal.serve_call-requires
unfolding ascii
serve_call-requires c = (c.requires, starts_line (ascii "step=") c.part_to-text.ensures c.starts_with.ensures c.if-starts_with.false, starts_line (ascii "claim=") c.part_to-text.ensures c.starts_with-else-starts_with.ensures c.if-starts_with-2.false)
