-- What the piece has of the line is taken; where it ends the line, this is served, and then the lines that follow.
-- Assumes nothing.
use mathlib.Core.Path.{◌≡◌, sym, ap, ◌∙◌}
use mathlib.Core.List.{List, ◌++◌}
use Prim.Native.Nat.{ℕ, ◌≤◌}
use lib.ListN.{length, take, drop, length-append, length-drop}
use lib.Seq.{length-take-le}
use Rattle.text.specs.Text.{up_to}
use Rattle.pieces.proofs.Feeding.{line_within, long_more, long_ends}
use native.Mathlib.Omega.{arith}
use Rattle.pieces.proofs.feed.feed_long.Goals as goal
use Rattle.pieces.proofs.feed.feed_long.Goals.{After-part_to-n, After-serve_long-used}

module _ (c : After-part_to-n) where
  -- the part ends inside the piece
  size : length c.part_to-n.result.now ≡ length (up_to 10 (take c.args.got c.args.buffer.now))
  size = ap length c.part_to-n.ensures

  inside : length (up_to 10 (take c.args.got c.args.buffer.now)) ≤ c.args.got
  inside = line_within _ _ (omega (arith, c.requires.0, c.requires.1))

module _ (c : After-serve_long-used) where
  abbrev out : List ℕ
  out = c.args.out.now

  abbrev lent : List ℕ
  lent = c.serve_long-used.new.out

  lent_size : length lent ≡ 128
  lent_size = c.serve_long-used.auto.out ∙ length-take-le 128 out (omega (arith, c.requires.2))

  -- what is printed of the line has at most 128 bytes
  used : c.serve_long-used.result ≤ 128
  used = let some = c.requires.4 in omega (arith, (c.serve_long-used.ensures _ (c.go_on-l.ensures some.0 some.1)).within, lent_size)

  room : 8192 ≤ length (lent ++ drop 128 out)
  room = omega (arith, length-append lent (drop 128 out), lent_size, length-drop 128 out, c.requires.2)

pub slice_bounds-go_on-end : goal.slice_bounds-go_on-end
slice_bounds-go_on-end c =
    let a = (goal.at.slice_bounds-go_on-end c).After-part_to-n in
    omega (arith, size a, inside a, c.requires.0, c.requires.1)

pub slice_bounds-go_on-end-2 : goal.slice_bounds-go_on-end-2
slice_bounds-go_on-end-2 c =
    let a = (goal.at.slice_bounds-go_on-end-2 c).After-part_to-n in
    sym (length-take-le _ _ (omega (arith, size a, inside a, c.requires.0, c.requires.1)))

pub returns-then-n-got : goal.returns-then-n-got
returns-then-n-got c =
    let a = (goal.at.returns-then-n-got c).After-part_to-n in
    (λ part clean o. long_more part c.args.buffer.now c.args.got _ (omega (arith, c.requires.0, c.requires.1)) (size a) c.if-n-got.true clean (c.go_on-l.ensures part o), omega arith)

pub slice_bounds-serve_long-end-2 : goal.slice_bounds-serve_long-end-2
slice_bounds-serve_long-end-2 c = sym (length-take-le 128 c.args.out.now (omega (arith, c.requires.2)))

pub serve_long-used-requires : goal.serve_long-used-requires
serve_long-used-requires c =
    let some = c.requires.4 in
    let all : length (take 128 c.args.out.now) ≡ 128 = length-take-le 128 c.args.out.now (omega (arith, c.requires.2)) in
    (omega (arith, all), (_, c.go_on-l.ensures some.0 some.1))

pub feed_lines-requires : goal.feed_lines-requires
feed_lines-requires c =
    let a = (goal.at.feed_lines-requires c).After-part_to-n in
    let b = (goal.at.feed_lines-requires c).After-serve_long-used in
    (c.requires.0, omega (arith, size a, inside a, c.if-n-got.false), c.requires.1, omega (arith, used b, room b, c.requires.1), omega (arith, c.requires.3))

pub returns : goal.returns
returns c =
    let a = (goal.at.returns c).After-part_to-n in
    let b = (goal.at.returns c).After-serve_long-used in (
      λ part clean o.
          long_ends part c.args.buffer.now (lent b) (drop 128 (out b)) c.args.got (length c.part_to-n.result.now) (omega (arith, c.requires.0, c.requires.1)) (size a) c.if-n-got.false clean
          (c.serve_long-used.ensures _ (c.go_on-l.ensures part o)) c.feed_lines.ensures.0,
      omega (arith, c.feed_lines.ensures.1),
    )
