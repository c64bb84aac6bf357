-- The whole lines are served, and the rest is kept.
-- Assumes nothing.
use lib.Seq.{length-take-le}
use Rattle.pieces.proofs.Feeding.{lines_fed}
use native.Mathlib.Omega.{arith}
use Rattle.pieces.proofs.feed.feed_lines.Goals as goal

pub returns : goal.returns
returns c =
    let w = c.serve_lines-q.ensures in
    let k = c.keep_rest.ensures in
    let size = length-take-le c.args.filled c.args.buffer.now (omega (arith, c.requires.0, c.requires.2)) in
    (lines_fed w.0 w.1 k.0 k.1 k.2, omega (arith, size, k.1, w.0.fewer, w.0.inside))
