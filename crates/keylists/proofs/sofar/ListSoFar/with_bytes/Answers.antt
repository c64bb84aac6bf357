-- `keylists::sofar::ListSoFar::with_bytes` meets its contract. The loop's invariant: the bytes passed are read.
-- Assumes nothing.
use Rattle.keylists.proofs.ListsBegun.{piece_broken}
use Rattle.keylists.proofs.sofar.ListSoFar.with_bytes.Goals as goal

pub returns-in_err-f : goal.returns-in_err-f
returns-in_err-f c = λ s g.
    rw c.from_residual.ensures (piece_broken s c.args.piece.now c.loop-b.b-index c.loop-b-test.true (rw c.in_err-f.was at (c.with_byte.ensures _ (c.loop-b.invariant s g))))
