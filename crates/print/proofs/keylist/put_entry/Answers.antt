-- `print::keylist::put_entry` meets its contract: a decimal, with a comma before it past the first place.
-- Assumes nothing.
use Rattle.std.proofs.Common.{arith}
use Rattle.print.proofs.Entries.{entry_later}
use Rattle.text.proofs.Pasting.{written_one, written_then}
use Rattle.print.proofs.keylist.put_entry.Goals as goal

pub returns : goal.returns
returns c =
    let e = entry_later c.args.place c.args.key _ c.if-place-eq0.false c.from-2.ensures in
    let fits = rw e at c.requires in
    rw e (written_then (written_one c.args.out.now c.args.at 44 (omega arith)) c.put_decimal-2.ensures fits)
