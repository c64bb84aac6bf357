-- Two texts, one after the other: the head, and the lines.
-- Assumes nothing.
use native.Mathlib.Omega.{arith}
use Rattle.text.proofs.Pasting.{written_then}
use Rattle.listing.proofs.Joined.{written_as}
use Rattle.pagelines.proofs.Widths.{head_length}
use Rattle.page.proofs.ImagePages.{nodes_few, head_counted, page_room}
use Rattle.page.proofs.write.put_page.Goals as goal

pub put_lines-requires : goal.put_lines-requires
put_lines-requires c =
    let n = c.total-n in
    let few = nodes_few c.args.image.now c.requires.0 in
    (c.requires.0, omega (arith, c.requires.1, c.put_page_head-p.ensures.place, c.put_page_head-p.auto.out, head_length n.result (omega (arith, n.ensures.is, few))))

pub returns : goal.returns
returns c =
    let image = c.args.image.now in
    written_then (written_as (head_counted image c.requires.0 c.total-n.ensures.is) c.put_page_head-p.ensures) c.put_lines.ensures (page_room image c.requires.0 c.requires.1)
