-- The last line, and the listing behind what is printed of it.
-- Assumes nothing.
use mathlib.Core.Path.{◌≡◌, ◌∙◌, sym, subst}
use mathlib.Core.List.{List, ◌++◌}
use Prim.Native.Nat.{ℕ, ◌+◌, ◌-◌, ◌≤◌}
use lib.ListN.{length, take, drop, length-append, length-drop}
use lib.Seq.{length-take-le, take-append-le}
use borrow.Rule.Slice.PartMut.{mid_of, mid_len, same_len_mid}
use Rattle.pieces.specs.Inner.Feeding.{AllServed}
use Rattle.pieces.proofs.Feeding.{all_listed}
use native.Mathlib.Omega.{arith}
use Rattle.pieces.proofs.ends.finish.Goals as goal
use Rattle.pieces.proofs.ends.finish.Goals.{After-serve_last-last}

module _ (c : After-serve_last-last) where
  abbrev out : List ℕ
  out = c.args.out.now

  abbrev lent : List ℕ
  lent = c.serve_last-last.new.out

  abbrev filled : List ℕ
  filled = lent ++ drop 128 out

  lent_size : length lent ≡ 128
  lent_size = c.serve_last-last.auto.out ∙ length-take-le 128 out (omega (arith, c.requires.1))

  -- what is printed of the last line has at most 128 bytes
  used : c.serve_last-last.result ≤ 128
  used = omega (arith, c.serve_last-last.ensures.within, lent_size)

  whole : length filled ≡ length out
  whole = omega (arith, length-append lent (drop 128 out), lent_size, length-drop 128 out, c.requires.1)

  room : 16640 ≤ length filled
  room = omega (arith, whole, c.requires.1)

  enough : c.serve_last-last.result ≤ length filled
  enough = omega (arith, used, room)

  -- the listing ends inside the output
  total : (listed : List ℕ) (r : ℕ) → r ≤ length listed → length listed ≡ length (mid_of c.serve_last-last.result (length filled - c.serve_last-last.result) filled)
      → c.serve_last-last.result + r ≤ length filled
  total listed r within same = omega (arith, within, same, mid_len c.serve_last-last.result (length filled) filled (omega arith), enough)

pub slice_bounds-serve_last-end : goal.slice_bounds-serve_last-end
slice_bounds-serve_last-end c = omega (arith, c.requires.1)

pub slice_bounds-serve_last-end-2 : goal.slice_bounds-serve_last-end-2
slice_bounds-serve_last-end-2 c = sym (length-take-le 128 c.args.out.now (omega (arith, c.requires.1)))

pub serve_last-last-requires : goal.serve_last-last-requires
serve_last-last-requires c =
    let all : length (take 128 c.args.out.now) ≡ 128 = length-take-le 128 c.args.out.now (omega (arith, c.requires.1)) in
    (c.requires.0, omega (arith, all), c.requires.2)

pub serve_end-n-requires : goal.serve_end-n-requires
serve_end-n-requires c =
    let a = (goal.at.serve_end-n-requires c).After-serve_last-last in
    omega (arith, used a, room a, mid_len c.serve_last-last.result (length (filled a)) (filled a) (omega arith))

pub returns : goal.returns
returns c =
    let a = (goal.at.returns c).After-serve_last-last in
    let last = c.serve_last-last in
    let end = c.serve_end-n in
    let k : ℕ = length (filled a) - last.result in
    record {
      whole = λ input text t.
          all_listed text (filled a) k (enough a)
          (subst (λ (x : List ℕ). AllServed input (text ++ x) last.new.image) (sym (take-append-le last.result (lent a) (drop 128 (out a)) last.ensures.within)) (last.ensures.all input text t))
          end.ensures;
      within = omega (arith, total a end.new.out end.result end.ensures.within end.auto.out, same_len_mid last.result k (filled a) end.new.out end.auto.out);
    }
