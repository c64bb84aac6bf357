-- The loop's invariant: the lines of the nodes from place i on are written.
-- Assumes nothing.
use Rattle.std.proofs.Common.{suc, ◌+◌, ◌-◌, ◌<◌, ◌≡◌, length, take, sym, ap, ◌∙◌, arith, ℕ}
use Rattle.text.proofs.Pasting.{written_none}
use Rattle.state.specs.Inner.State.{flat_in}
use Rattle.listing.specs.Inner.Rows.{joined}
use Rattle.listing.proofs.Joined.{written_as, row_room, row_more}
use Rattle.page.proofs.ImagePages.{lines_in, lines_counted, lines_joined, lines_room, line_node, line_there, line_size}
use lib.Seq.{take_all}
use Rattle.page.proofs.write.put_lines.Goals as goal
use Rattle.page.proofs.write.put_lines.Goals.{After-body_at-b}

-- how many lines are written before this one
abbrev done : After-body_at-b → ℕ
done c = length (lines_in c.args.image.now) - c.loop-i.i

place : (c : After-body_at-b) → done c + suc (c.loop-i.i - 1) ≡ length (flat_in c.args.image.now).nodes
place c = omega (arith, lines_counted c.args.image.now c.requires.0)

inside : (c : After-body_at-b) → done c < length (lines_in c.args.image.now)
inside c = omega (arith, place c, lines_counted c.args.image.now c.requires.0)

pub loop-i-init : goal.loop-i-init
loop-i-init c =
    let none : length (lines_in c.args.image.now) - c.total-i.result ≡ 0 = omega (arith, lines_counted c.args.image.now c.requires.0) in
    written_as (ap (λ (n : ℕ). joined (take n (lines_in c.args.image.now))) (sym none)) (written_none _ _)

pub put_page_line-p-requires : goal.put_page_line-p-requires
put_page_line-p-requires c =
    let image = c.args.image.now in
    let b = (goal.at.put_page_line-p-requires c).After-body_at-b in
    let room = row_room (lines_in image) (done b) (inside b) (lines_room image c.requires.0 c.args.at c.requires.1) c.loop-i.invariant in
    (rw c.from.ensures (line_node image c.requires.0 _ _ c.body_at-b.result (place b) c.body_at-b.ensures), omega (arith, room, line_size image c.requires.0 _ _ c.body_at-b.result (place b) c.body_at-b.ensures))

pub loop-i-preserved : goal.loop-i-preserved
loop-i-preserved c =
    let image = c.args.image.now in
    let b = (goal.at.loop-i-preserved c).After-body_at-b in
    let next : done b + 1 ≡ length (lines_in image) - (c.loop-i.i - 1) = omega (arith, lines_counted image c.requires.0) in
    written_as (ap (λ (n : ℕ). joined (take n (lines_in image))) next)
    (row_more (lines_in image) (done b) (inside b) (lines_room image c.requires.0 c.args.at c.requires.1) c.loop-i.invariant
    (written_as (line_there image c.requires.0 _ _ c.body_at-b.result (place b) c.body_at-b.ensures) (rw c.from.ensures at c.put_page_line-p.ensures)))

pub returns : goal.returns
returns c =
    let image = c.args.image.now in
    written_as (ap joined (take_all (length (lines_in image) - c.loop-i.i) (lines_in image) (omega arith)) ∙ lines_joined image c.requires.0) c.loop-i.invariant
