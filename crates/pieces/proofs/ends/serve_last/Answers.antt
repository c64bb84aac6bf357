-- None, the bytes that are kept, or a line that filled the buffer.
-- Assumes nothing.
use mathlib.Core.Path.{◌≡◌, sym, ap, ◌∙◌}
use Rattle.pieces.specs.declared.between.Kept.TheVariants.{Bytes}
use Rattle.pieces.proofs.Feeding.{kept_as, none_left, last_left, bytes_left}
use native.Mathlib.Omega.{arith}
use borrow.Author.Rules.{rules}
use Rattle.pieces.proofs.ends.serve_last.Goals as goal

pub returns-in-Bytes-eq0 : goal.returns-in-Bytes-eq0
returns-in-Bytes-eq0 c =
    let none : c.args.s.kept ≡ Bytes 0 = c.in-Bytes-eq0.is ∙ ap Bytes (search rules) in
    record {
      all = λ input text t. none_left t (sym (kept_as _ _ none t.kept).1) c.args.out.now;
      within = omega arith;
    }

pub returns-in-Bytes : goal.returns-in-Bytes
returns-in-Bytes c =
    let few = (kept_as _ _ c.in-Bytes.is c.requires.2.taken.kept).0 in
    record {
      all = λ input text t. bytes_left t c.in-Bytes.is (omega (arith, few, c.requires.0)) (search rules) c.serve_line.ensures;
      within = c.serve_line.ensures.within;
    }

pub returns-in-Long : goal.returns-in-Long
returns-in-Long c =
    let some = c.requires.2.taken in
    record {
      all = λ input text t.
          let o = kept_as _ _ c.in-Long.is t.kept in
          last_left t (omega (arith, o.long)) (c.serve_long.ensures t.part o);
      within = (c.serve_long.ensures some.part (kept_as _ _ c.in-Long.is some.kept)).within;
    }
