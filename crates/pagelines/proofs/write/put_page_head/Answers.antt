-- Three texts, one after another.
-- Assumes nothing.
use native.Mathlib.Omega.{arith}
use Rattle.text.specs.Text.{ascii, decimal}
use Rattle.pagelines.proofs.Widths.{length_right, count_columns}
use Rattle.pagelines.proofs.Blanks.{head_put}
use Rattle.pagelines.proofs.write.put_page_head.Goals as goal

pub put_right-q-requires : goal.put_right-q-requires
put_right-q-requires c =
    (count_columns c.args.n c.requires.0, omega (arith, c.put_bytes-p.ensures.place))

pub put_bytes-requires : goal.put_bytes-requires
put_bytes-requires c =
    omega (arith, c.put_bytes-p.ensures.place, c.put_right-q.ensures.place, length_right 32 (decimal c.args.n) (count_columns c.args.n c.requires.0))

pub returns : goal.returns
unfolding ascii
returns c =
    head_put _ c.requires.0 c.requires.1 c.put_bytes-p.ensures c.put_right-q.ensures c.put_bytes.ensures
