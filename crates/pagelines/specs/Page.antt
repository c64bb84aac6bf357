-- A page of the graph (S-1): its text, and which bytes are a page.
-- Assumes nothing.
use Rattle.std.specs.Prelude.{ℕ, ◌-◌, ◌≤◌, ◌≡◌, true, List, [], ◌∷◌, ◌++◌, length, replicate}
use Rattle.graph.specs.KeyLists.{is_key, count}
use Rattle.graph.specs.Nodes.{Node}
use Rattle.graph.specs.Valid.{Each, ValidNode}
use Rattle.text.specs.Text.{ascii, decimal, commas, texts}
use Rattle.print.specs.Printed.{newline}

-- so many columns, blank but for the text: set right, it stands at their right end
unfoldable pub set_right : (columns : ℕ) → List ℕ → List ℕ
set_right columns text = replicate (columns - length text) 32 ++ text

-- set left, at their left end
unfoldable pub set_left : (columns : ℕ) → List ℕ → List ℕ
set_left columns text = text ++ replicate (columns - length text) 32

-- one column
abbrev pub blank : List ℕ
blank = 32 ∷ []

-- "a head line of 37 columns, `nodes` left, its count right, blanks between"
abbrev pub page_head : (count : ℕ) → List ℕ
page_head n = ascii "nodes" ++ set_right 32 (decimal n) ++ newline

-- "Columns 1 to 2 hold the key and 4 to 13 the value, both set right; 15 to 37 hold the links joined by commas, set left; all else is
-- blank. Each line ends in a newline, 38 bytes in all."
abbrev pub page_line : Node → List ℕ
page_line n = set_right 2 (decimal n.key) ++ blank ++ set_right 10 (decimal n.value) ++ blank ++ set_left 23 (commas n.links) ++ newline

-- "a head line .., then a line for each node"
abbrev pub page_text : List Node → List ℕ
page_text ns = page_head (length ns) ++ texts page_line ns

-- "fields keep document 01's limits": keys 1 to 64, a 32-bit value, at most eight links
pub record PageNode (n : Node) : Type 0 where
  pub key : is_key n.key ≡ true
  pub node : ValidNode n

abbrev pub keys_of : List Node → List ℕ
keys_of [] = []
keys_of (n ∷ ns) = n.key ∷ keys_of ns

-- "exactly those pages are read whose count is right, whose keys are distinct and whose fields keep document 01's limits and way of
-- writing numbers": the bytes are the page of these nodes, at most 64, in any order of keys
pub record PageOf (page : List ℕ) (ns : List Node) : Type 0 where
  pub few : length ns ≤ 64
  pub nodes : Each PageNode ns
  pub distinct : (k : ℕ) → count k (keys_of ns) ≤ 1
  pub same : page ≡ page_text ns
