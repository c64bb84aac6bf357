-- Each kind's line, by its names.
-- Assumes nothing.
use Rattle.std.proofs.Common.{append_assoc}
use Rattle.text.specs.Text.{ascii}
use Rattle.load.proofs.write.put_call.Goals as goal

pub returns-in-Unlink : goal.returns-in-Unlink
unfolding ascii
returns-in-Unlink c = rw c.in-Unlink.is (simp append_assoc (simp append_assoc at c.put_one-in-Unlink.ensures))

pub returns-in-Pick : goal.returns-in-Pick
unfolding ascii
returns-in-Pick c = rw c.in-Pick.is (simp append_assoc (simp append_assoc at c.put_one-in-Pick.ensures))
