-- Statements of S-1, proved as `page_widths`, `reads_back`, `read_once` and `written_once` in proofs/ReadBack.antt.
-- Assumes nothing.
use Rattle.std.specs.Prelude.{ℕ, ◌+◌, ◌*◌, ◌≤◌, ◌≡◌, List, ◌++◌, length}
use Rattle.graph.specs.Nodes.{Node}
use Rattle.graph.specs.Sessions.{Session, graph_of, pending}
use Rattle.graph.specs.Valid.{Each}
use Rattle.text.specs.Text.{texts}
use Rattle.print.specs.Printed.{head_text, node_text, result_text}
use Rattle.listing.specs.Listed.{listing_of}
use Rattle.host.specs.Entries.{ImageOf}
use Rattle.pagelines.specs.Page.{page_head, page_line, page_text, PageOf}
use Rattle.page.specs.Entries.{Written, written, text_served, WritesPage, ReadsPage}

-- of every page of these nodes: "Each line ends in a newline, 38 bytes in all". There are at most 65 lines, and read back at most 64 lines of
-- 54 bytes
pub record PageWidths (page : List ℕ) (ns : List Node) : Type 0 where
  pub head : length (page_head (length ns)) ≡ 38
  pub lines : Each (λ (n : Node). length (page_line n) ≡ 38) ns
  pub whole : length page ≡ 38 * (length ns + 1)
  pub most : length page ≤ 2470
  pub back : length (texts node_text ns) ≤ 3456

-- of every valid session: "A page reads back as the listing's `key=` lines for the same nodes". What is written of its image, and what that
-- reads back as, whatever the outputs
pub record ReadsBack (s : Session) : Type 0 where
  pub wrote : (image out : List ℕ) (r : Written)
      → ImageOf image s
      → WritesPage written image out r
      → r ≡ text_served written out (page_text (graph_of s.stations))
  pub page : PageOf (page_text (graph_of s.stations)) (graph_of s.stations)
  pub same : (out : List ℕ) (r : Written)
      → ReadsPage written (page_text (graph_of s.stations)) out r
      → r ≡ text_served written out (texts node_text (graph_of s.stations))
  pub listing : listing_of s
      ≡ head_text (length (graph_of s.stations)) (length s.results) (length (pending s))
      ++ texts node_text (graph_of s.stations)
      ++ texts result_text s.results

-- a page has one list of nodes, and so one answer and output
pub record ReadOnce (page : List ℕ) : Type 0 where
  pub nodes : (ns ms : List Node) → PageOf page ns → PageOf page ms → ns ≡ ms
  pub answer : (out : List ℕ) (r q : Written) → ReadsPage written page out r → ReadsPage written page out q → r ≡ q

-- an image too
pub record WrittenOnce (image : List ℕ) : Type 0 where
  pub answer : (out : List ℕ) (r q : Written) → WritesPage written image out r → WritesPage written image out q → r ≡ q
