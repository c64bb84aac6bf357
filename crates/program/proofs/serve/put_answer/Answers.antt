-- What was written stays, or the refusal is written, which has room.
-- Assumes nothing.
use Rattle.std.proofs.Common.{rules}
use Rattle.program.proofs.Serving.{printed_served, refusal_room, printed_refusal}
use Rattle.program.proofs.serve.put_answer.Goals as goal

pub returns-in-Ok : goal.returns-in-Ok
returns-in-Ok c = rw c.in-Ok.is (printed_served _ _ _ _ c.requires.1)

pub put_refusal-requires : goal.put_refusal-requires
put_refusal-requires c = refusal_room _ _ (search rules) (search rules) c.args.out.now c.requires.0

pub returns-in-Err : goal.returns-in-Err
returns-in-Err c = rw c.in-Err.is (printed_refusal _ _ (search rules) (search rules) _ c.requires.0 _ c.number.ensures _ _ _ c.put_refusal.ensures)
