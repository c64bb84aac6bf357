-- The bytes that are fed are those that were kept, and the piece.
-- Assumes nothing.
use mathlib.Core.Path.{ap}
use Rattle.pieces.specs.Inner.Feeding.{bytes_kept}
use Rattle.pieces.proofs.Feeding.{kept_as, long_input, short_input}
use native.Mathlib.Omega.{arith}
use Rattle.pieces.proofs.feed.feed.Goals as goal

pub returns-in-Bytes : goal.returns-in-Bytes
returns-in-Bytes c =
    let f = c.feed_lines.ensures in
    record {
      taken = λ input text t. short_input c.args.got t c.in-Bytes.is f.0;
      within = f.0.within;
      fewer = omega (arith, f.1, c.requires.1, ap bytes_kept c.in-Bytes.is);
    }

pub returns-in-Long : goal.returns-in-Long
returns-in-Long c =
    let f = c.feed_long.ensures in
    let some = c.requires.4.taken in
    record {
      taken = λ input text t. long_input c.args.got t c.in-Long.is (f.0 t.part t.unended);
      within = (f.0 some.part some.unended (kept_as _ _ c.in-Long.is some.kept)).within;
      fewer = omega (arith, f.1, c.requires.1);
    }
