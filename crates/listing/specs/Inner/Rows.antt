-- The listing line by line, on the flat session, and its length.
-- Assumes nothing.
use Rattle.std.specs.Prelude.{ℕ, ◌≤◌, ◌≡◌, List, ◌++◌, map, reverse, length}
use Rattle.graph.specs.Sessions.{Session}
use Rattle.flat.specs.Flat.{Flat}
use Rattle.flat.specs.Inner.Queues.{queued}
use Rattle.text.specs.Text.{texts}
use Rattle.print.specs.Printed.{head_text, node_text, result_text}
use Rattle.print.specs.Inner.Values.{node_by_value, result_by_value}
use Rattle.listing.specs.declared.rows.Row.{Row}
use Rattle.listing.specs.declared.rows.Row.TheVariants.{Node, Result}
use Rattle.listing.specs.Listed.{listing_of}

-- the head and up to 128 lines, each of up to 128 bytes
pub record ListingLength (s : Session) (r : ℕ) : Type 0 where
  pub text : r ≡ length (listing_of s)
  pub few : r ≤ 16512

-- the head, counted on the flat session
abbrev pub head_line : Flat → List ℕ
head_line f = head_text (length f.nodes) (length f.results) (length (queued f.queue))

-- the lines after the head; a flat session's nodes stand from the last station on
abbrev pub rows_of : Flat → List (List ℕ)
rows_of f = map node_text (reverse f.nodes) ++ map result_text f.results

-- one of them, by value
abbrev pub row_text : Row → List ℕ
row_text (Node b) = node_text (node_by_value b.key b.value b.links)
row_text (Result r) = result_text (result_by_value r.label r.value r.left)

-- lines one after another
abbrev pub joined : List (List ℕ) → List ℕ
joined lines = texts (λ (l : List ℕ). l) lines

-- the length of up to 128 lines
pub record RowsLength (lines : List ℕ) (r : ℕ) : Type 0 where
  pub text : r ≡ length lines
  pub few : r ≤ 16384
