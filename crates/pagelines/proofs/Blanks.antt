-- A field with blanks beside it, and fields one after another.
-- Assumes nothing.
use Prim.Native.Nat.{ℕ, ◌+◌, ◌-◌, ◌≤◌}
use mathlib.Core.Path.{◌≡◌, sym}
use mathlib.Core.List.{List, ◌++◌}
use native.Mathlib.Omega.{arith}
use lib.ListN.{length, replicate, length-append, length-replicate}
use Rattle.text.specs.Text.{ascii, decimal, commas}
use Rattle.text.specs.Inner.Put.{TextPut}
use Rattle.text.proofs.Pasting.{written_then, front_fits}
use Rattle.graph.specs.Nodes.{Node}
use Rattle.print.specs.Printed.{newline}
use Rattle.pagelines.specs.Page.{set_right, set_left, blank, page_head, page_line, PageNode}
use Rattle.pagelines.proofs.Widths.{head_length, line_length}

-- a field of k bytes in its columns, with these beside it
abbrev blanks : ℕ → ℕ → List ℕ
blanks columns k = replicate (columns - k) 32

module _ (s : List ℕ) (at columns k : ℕ) (text : List ℕ) (is : k ≡ length text) (h : length text ≤ columns) (fits : at + columns ≤ length s) where
  beside : length (blanks columns k) + length text ≡ columns
  beside = omega (arith, length-replicate {A = ℕ} (columns - k) 32)

  right_fits : at + length (blanks columns k ++ text) ≤ length s
  right_fits = omega (arith, length-append (blanks columns k) text, beside)

  left_fits : at + length (text ++ blanks columns k) ≤ length s
  left_fits = omega (arith, length-append text (blanks columns k), beside)

  pub right_put : {o o' : List ℕ} {p p' : ℕ} → TextPut s at (blanks columns k) o p → TextPut o p text o' p' → TextPut s at (set_right columns text) o' p'
  unfolding set_right
  right_put w v = rw (sym is) (written_then w v right_fits)

  pub left_put : {o o' : List ℕ} {p p' : ℕ} → TextPut s at text o p → TextPut o p (blanks columns k) o' p' → TextPut s at (set_left columns text) o' p'
  unfolding set_left
  left_put w v = rw (sym is) (written_then w v left_fits)

-- the head: three texts, one after another
module _ {s o o' o'' : List ℕ} {at p p' p'' : ℕ} (n : ℕ) (h : n ≤ 64) (fits : at + 38 ≤ length s) where
  pub head_put : TextPut s at (ascii "nodes") o p → TextPut o p (set_right 32 (decimal n)) o' p' → TextPut o' p' newline o'' p'' → TextPut s at (page_head n) o'' p''
  head_put u v w =
      let all : at + length (page_head n) ≤ length s = omega (arith, head_length n h) in
      written_then (written_then u v (front_fits at (ascii "nodes" ++ set_right 32 (decimal n)) newline all)) w all

-- a node's line: six texts, one after another
module _ (n : Node) where
  abbrev key : List ℕ
  key = set_right 2 (decimal n.key)

  abbrev value : List ℕ
  value = set_right 10 (decimal n.value)

  abbrev links : List ℕ
  links = set_left 23 (commas n.links)

  pub line_put : {s o₁ o₂ o₃ o₄ o₅ o₆ : List ℕ} {at p₁ p₂ p₃ p₄ p₅ p₆ : ℕ} → PageNode n → at + 38 ≤ length s → TextPut s at key o₁ p₁ → TextPut o₁ p₁ blank o₂ p₂ → TextPut o₂ p₂ value o₃ p₃ → TextPut o₃ p₃ blank o₄ p₄ → TextPut o₄ p₄ links o₅ p₅ → TextPut o₅ p₅ newline o₆ p₆ → TextPut s at (page_line n) o₆ p₆
  line_put {s} {at = at} d fits w₁ w₂ w₃ w₄ w₅ w₆ =
      let f₆ : at + length (page_line n) ≤ length s = omega (arith, line_length n d) in
      let f₅ = front_fits at (key ++ blank ++ value ++ blank ++ links) newline f₆ in
      let f₄ = front_fits at (key ++ blank ++ value ++ blank) links f₅ in
      let f₃ = front_fits at (key ++ blank ++ value) blank f₄ in
      let f₂ = front_fits at (key ++ blank) value f₃ in
      written_then (written_then (written_then (written_then (written_then w₁ w₂ f₂) w₃ f₃) w₄ f₄) w₅ f₅) w₆ f₆
