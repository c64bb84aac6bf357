-- The blanks fill their part of the buffer.
-- Assumes nothing.
use Rattle.std.proofs.Common.{◌≡◌, rules}
use lib.ListN.{replicate, length-replicate}
use Rattle.text.proofs.Pasting.{copied}
use Rattle.pagelines.proofs.write.put_blanks.Goals as goal

pub returns : goal.returns
returns c =
    let n = c.args.n in
    let filled : c.fill.new.self ≡ replicate n 32 = search rules in
    simp length-replicate at (copied c.args.out.now c.args.at (replicate n 32) _ filled)
