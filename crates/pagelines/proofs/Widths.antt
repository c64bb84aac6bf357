-- How many bytes a page's columns and lines have: 38 each line.
-- Assumes nothing.
use Prim.Native.Nat.{ℕ, ◌+◌, ◌*◌, ◌-◌, ◌≤◌}
use mathlib.Core.Path.{◌≡◌, refl}
use mathlib.Core.List.{List, [], ◌∷◌}
use native.Mathlib.Omega.{arith}
use lib.ListN.{length, replicate, length-append, length-replicate}
use Rattle.graph.specs.Nodes.{Node}
use Rattle.graph.specs.Valid.{Each}
use Rattle.graph.proofs.KeyLaws.{key_high}
use Rattle.text.specs.Text.{ascii, decimal, commas, texts}
use Rattle.text.proofs.Decimals.{len_two, len_ten}
use Rattle.text.proofs.CommaLists.{commas_short}
use Rattle.pagelines.specs.Page.{set_right, set_left, page_head, page_line, page_text, PageNode}

pub length_right : (columns : ℕ) (text : List ℕ) → length text ≤ columns → length (set_right columns text) ≡ columns
unfolding set_right
length_right columns text h = omega (arith, length-append (replicate (columns - length text) 32) text, length-replicate {A = ℕ} (columns - length text) 32)

pub length_left : (columns : ℕ) (text : List ℕ) → length text ≤ columns → length (set_left columns text) ≡ columns
unfolding set_left
length_left columns text h = omega (arith, length-append text (replicate (columns - length text) 32), length-replicate {A = ℕ} (columns - length text) 32)

-- ---- a node's fields

module _ (n : Node) (p : PageNode n) where
  pub key_columns : length (decimal n.key) ≤ 2
  key_columns = len_two n.key (omega (arith, key_high n.key p.key))

  pub value_columns : length (decimal n.value) ≤ 10
  value_columns = len_ten n.value p.node.value

  pub link_columns : length (commas n.links) ≤ 23
  link_columns = commas_short n.links p.node.keys p.node.few

  pub line_length : length (page_line n) ≡ 38
  line_length =
      simp length-append
      (omega (arith, length_right 2 (decimal n.key) key_columns, length_right 10 (decimal n.value) value_columns, length_left 23 (commas n.links) link_columns))

pub count_columns : (n : ℕ) → n ≤ 64 → length (decimal n) ≤ 32
count_columns n h = omega (arith, len_two n (omega arith))

pub head_length : (n : ℕ) → n ≤ 64 → length (page_head n) ≡ 38
unfolding ascii
head_length n h = simp length-append (omega (arith, length_right 32 (decimal n) (count_columns n h)))

pub lines_length : (ns : List Node) → Each PageNode ns → length (texts page_line ns) ≡ 38 * length ns
lines_length [] p = refl
lines_length (n ∷ ns) p = omega (arith, length-append (page_line n) (texts page_line ns), line_length n p.0, lines_length ns p.1)

pub page_length : (ns : List Node) → length ns ≤ 64 → Each PageNode ns → length (page_text ns) ≡ 38 * (length ns + 1)
page_length ns h p = omega (arith, length-append (page_head (length ns)) (texts page_line ns), head_length (length ns) h, lines_length ns p)
