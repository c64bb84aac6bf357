-- Six texts, one after another.
-- Assumes nothing.
use Rattle.std.proofs.Common.{arith, ◌≤◌, length}
use Rattle.graph.specs.Packed.{listed}
use Rattle.text.specs.Text.{decimal, commas}
use Rattle.print.specs.Inner.Values.{node_by_value}
use Rattle.pagelines.proofs.Widths.{length_right, length_left, key_columns, value_columns, link_columns}
use Rattle.pagelines.proofs.Blanks.{line_put}
use Rattle.pagelines.proofs.write.put_page_line.Goals as goal
use Rattle.pagelines.proofs.write.put_page_line.Goals.{Start}

module _ (c : Start) where
  key : length (decimal c.args.key) ≤ 2
  key = key_columns (node_by_value c.args.key c.args.value c.args.links) c.requires.0

  value : length (decimal c.args.value) ≤ 10
  value = value_columns (node_by_value c.args.key c.args.value c.args.links) c.requires.0

  links : length (commas (listed c.args.links)) ≤ 23
  links = link_columns (node_by_value c.args.key c.args.value c.args.links) c.requires.0

pub put_right-p-requires : goal.put_right-p-requires
put_right-p-requires c = (key (goal.at.put_right-p-requires c).Start, omega arith)

pub put_bytes-q-requires : goal.put_bytes-q-requires
put_bytes-q-requires c = let k = length_right 2 _ (key (goal.at.put_bytes-q-requires c).Start) in omega arith

pub put_right-r-requires : goal.put_right-r-requires
put_right-r-requires c =
    let s = (goal.at.put_right-r-requires c).Start in
    let k = length_right 2 _ (key s) in
    (value s, omega arith)

pub put_bytes-s-requires : goal.put_bytes-s-requires
put_bytes-s-requires c =
    let s = (goal.at.put_bytes-s-requires c).Start in
    let k = length_right 2 _ (key s) in
    let v = length_right 10 _ (value s) in
    omega arith

pub put_left-t-requires : goal.put_left-t-requires
put_left-t-requires c =
    let s = (goal.at.put_left-t-requires c).Start in
    let k = length_right 2 _ (key s) in
    let v = length_right 10 _ (value s) in
    (links s, omega arith)

pub put_bytes-requires : goal.put_bytes-requires
put_bytes-requires c =
    let s = (goal.at.put_bytes-requires c).Start in
    let k = length_right 2 _ (key s) in
    let v = length_right 10 _ (value s) in
    let l = length_left 23 _ (links s) in
    omega arith

pub returns : goal.returns
returns c =
    line_put (node_by_value c.args.key c.args.value c.args.links) c.requires.0 c.requires.1 c.put_right-p.ensures c.put_bytes-q.ensures c.put_right-r.ensures c.put_bytes-s.ensures c.put_left-t.ensures c.put_bytes.ensures
