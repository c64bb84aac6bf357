-- What the host answered to the line, as it is read of what is kept, is printed.
-- Assumes nothing.
use Rattle.pieces.proofs.LongServing.{long_served}
use Rattle.pieces.proofs.serving.serve_long.Goals as goal

pub accept_read-answer-requires : goal.accept_read-answer-requires
accept_read-answer-requires c = let some = c.requires.1 in (some.0, c.read_long.ensures some.0 some.1)

pub returns : goal.returns
returns c = λ text o. long_served c.args.out.now c.requires.0 o.long (c.accept_read-answer.ensures text (c.read_long.ensures text o)) c.put_answer.ensures
