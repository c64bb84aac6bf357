-- `write::set_last` meets its contract.
-- Assumes nothing.
use borrow.Author.Rules.{rules}
use Rattle.image.proofs.Writers.{last_written}
use Rattle.image.proofs.write.set_last.Goals as goal

pub returns : goal.returns
returns c = rw (c.put_bytes.ensures.bytes, c.to_le_bytes.ensures) (last_written c.args.image.now c.requires c.args.label (search rules))
