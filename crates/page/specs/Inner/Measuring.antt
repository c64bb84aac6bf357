-- What measuring a page says.
-- Assumes nothing.
use Rattle.std.specs.Prelude.{ℕ, ◌+◌, ◌*◌, ◌≤◌, ◌≡◌, List, length, drop, Option, Some, None}
use Rattle.graph.specs.KeyLists.{count}
use Rattle.graph.specs.Nodes.{Node}
use Rattle.graph.specs.Valid.{Each}
use Rattle.text.specs.Text.{texts, pasted}
use Rattle.print.specs.Printed.{node_text}
use Rattle.pagelines.specs.Page.{page_line, PageNode, keys_of, PageOf}

-- a page's length: a head and so many lines
pub record WholeLines (page : List ℕ) : Type 0 where
  pub count : ℕ
  pub few : count ≤ 64
  pub whole : length page ≡ 38 * (count + 1)

-- these nodes stand in the lines after the head
pub record NodesIn (page : List ℕ) (ns : List Node) : Type 0 where
  pub nodes : Each PageNode ns
  pub distinct : (k : ℕ) → count k (keys_of ns) ≤ 1
  pub text : drop 38 page ≡ texts page_line ns

-- the listing's lines of these nodes have so many bytes
pub record LengthOf (ns : List Node) (n : ℕ) : Type 0 where
  pub text : n ≡ length (texts node_text ns)
  pub few : n ≤ 8192

abbrev pub LinesMeasured : List ℕ → Option ℕ → Type 0
LinesMeasured page (Some n) = (ns : List Node) × NodesIn page ns × LengthOf ns n
LinesMeasured page None = (ns : List Node) → PageOf page ns → ⊥

abbrev pub PageMeasured : List ℕ → Option ℕ → Type 0
PageMeasured page (Some n) = (ns : List Node) × PageOf page ns × LengthOf ns n
PageMeasured page None = (ns : List Node) → PageOf page ns → ⊥

-- the bytes are a page, and the output has room for the lines of its nodes
pub record RoomForNodes (page out : List ℕ) : Type 0 where
  pub ns : List Node
  pub is : PageOf page ns
  pub room : length (texts node_text ns) ≤ length out

-- they are written at its start
abbrev pub NodesPut : (page out after : List ℕ) → Type 0
NodesPut page out after = (ns : List Node) → PageOf page ns → after ≡ pasted out 0 (texts node_text ns)
