-- A refusal's line has room.
-- Assumes nothing.
use Rattle.std.proofs.Common.{rules}
use Rattle.print.proofs.Refusals.{refusal_fits}
use Rattle.testlines.proofs.show_refusal.Goals as goal

pub slice_bounds-write_all-end : goal.slice_bounds-write_all-end
slice_bounds-write_all-end g c = search (rules, refusal_fits c.from.result c.number.result (search rules) (search rules))
