-- `keylists::sofar::read_keys` meets its contract: all bytes come in one piece.
-- Assumes nothing.
use mathlib.Core.List.{[]}
use Rattle.keylists.proofs.ListsBegun.{breaks_end}
use Rattle.keylists.proofs.sofar.read_keys.Goals as goal

pub returns-in_err-with_bytes : goal.returns-in_err-with_bytes
returns-in_err-with_bytes c = rw c.from_residual.ensures (breaks_end c.args.s.now (rw c.in_err-with_bytes.was at (c.with_bytes.ensures [] c.none.ensures)))
