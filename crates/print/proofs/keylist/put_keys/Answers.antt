-- `print::keylist::put_keys` meets its contract. The loop's invariant: the entries before place i are written.
-- Assumes nothing.
use Rattle.std.proofs.Common.{arith}
use Rattle.print.proofs.Entries.{entries_none, entry_room, entry_more}
use Rattle.print.proofs.keylist.put_keys.Goals as goal

pub loop-i-init : goal.loop-i-init
loop-i-init c = entries_none _ _ c.as_slice-key-items.result.now

pub put_entry-p-requires : goal.put_entry-p-requires
put_entry-p-requires c =
    let fits = rw (← c.as_slice-key-items.ensures) at c.requires in
    entry_room _ _ _ _ _ _ fits c.loop-i.invariant (omega arith)

pub loop-i-preserved : goal.loop-i-preserved
loop-i-preserved c =
    let fits = rw (← c.as_slice-key-items.ensures) at c.requires in
    entry_more _ _ _ _ _ _ fits c.loop-i.invariant (omega arith) _ _ c.put_entry-p.ensures
