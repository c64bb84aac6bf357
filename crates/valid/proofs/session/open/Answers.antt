-- `session::open` meets its contract.
-- Assumes nothing.
use mathlib.Core.Path.{ap, ◌∙◌}
use lib.ListN.{length}
use borrow.Author.Tests.{eq-eqb}
use Rattle.text.specs.Text.{pasted}
use Rattle.valid.proofs.Unused.{opened}
use Rattle.valid.proofs.session.open.Goals as goal

pub returns : goal.returns
returns c =
    let s = c.args.image.now in
    let size = c.if-image-ne4112.false in
    let e = eq-eqb (length s) 4112 size in
    let head = c.head_bytes-head.ensures in
    let cleared = c.clear in
    let put = c.put_bytes.ensures in
    record { right = rw e; written = rw e (put.bytes ∙ ap (pasted cleared.new.s 0) head ∙ opened s cleared.new.s size cleared.ensures) }
