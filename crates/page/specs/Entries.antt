-- What `cg_page` and `cg_page_nodes` give and leave, for every image, page and output, served or refused (S-1).
-- Assumes nothing.
use Rattle.std.specs.Prelude.{ℕ, ◌≡◌, cond, List, leb, ℤ, length}
use Rattle.graph.specs.Nodes.{Node}
use Rattle.graph.specs.Sessions.{graph_of}
use Rattle.text.specs.Text.{pasted, texts}
use Rattle.print.specs.Printed.{node_text}
use Rattle.graph.specs.Refusals.{Answer, refused, done}
use Rattle.panel.specs.Returned.{answer_number}
use Rattle.host.specs.Entries.{Enters}
use Rattle.pagelines.specs.Page.{page_text, PageOf}

-- what a function gives and leaves
pub record Written : Type 0 where
  pub answer : ℤ
  pub output : List ℕ

abbrev pub written : Answer ℕ → List ℕ → Written
written a out = record { answer = answer_number a; output = out }

-- "It refuses with 34 an output shorter than what is to be written"; a refusal leaves the output as it was, and bytes after what is
-- written stay. `give` makes of an answer and an output what is given and left
abbrev pub text_served : {R : Type 0} (give : Answer ℕ → List ℕ → R) (out text : List ℕ) → R
text_served give out text = cond (leb (length text) (length out)) (give (done (length text)) (pasted out 0 text)) (give (refused 34) out)

-- `cg_page`: 1 and 2, "the image checks", then 34. There is no line, and so one form. "A line for each node in station order"
abbrev pub WritesPage : {R : Type 0} (give : Answer ℕ → List ℕ → R) (image out : List ℕ) → R → Type 0
WritesPage give image out r =
    Enters image (λ (f : Unit {0}). Unit {0}) (λ n. give (refused n) out) (λ s f. text_served give out (page_text (graph_of s.stations))) r

-- `cg_page_nodes`: "A page reads back as the listing's `key=` lines for the same nodes", 34 "after 35", "and with 35 any other page"
pub data ReadsPage {R : Type 0} (give : Answer ℕ → List ℕ → R) (page out : List ℕ) (r : R) : Type 0 where
  of_nodes : (ns : List Node) → PageOf page ns → r ≡ text_served give out (texts node_text ns) → ReadsPage give page out r
  other_page : ((ns : List Node) → PageOf page ns → ⊥) → r ≡ give (refused 35) out → ReadsPage give page out r
