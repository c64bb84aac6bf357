-- What `page` and `page_nodes` answer where the output has room for 64 lines.
-- Assumes nothing.
use Prim.Native.Nat.{ℕ, ◌≤◌, ◌<◌}
use mathlib.Core.Path.{◌≡◌, refl, sym, ap, subst, ◌∙◌}
use mathlib.Core.Bool.{Bool, true, false}
use mathlib.Core.List.{List}
use native.Mathlib.Omega.{arith}
use lib.Dec.{leb}
use lib.ListN.{length, take}
use lib.Seq.{length-take-le, take_all}
use borrow.Author.Tests.{le-leb, leb-true, leb-false}
use Rattle.graph.specs.Refusals.{Answer, done}
use Rattle.graph.specs.Nodes.{Node}
use Rattle.graph.specs.Sessions.{Session, graph_of}
use Rattle.graph.specs.Valid.{Valid}
use Rattle.text.specs.Text.{texts}
use Rattle.text.proofs.Pasting.{length_pasted, take_pasted}
use Rattle.print.specs.Printed.{node_text}
use Rattle.pagelines.specs.Page.{page_text, PageOf}
use Rattle.host.specs.Entries.{other_length, other_bytes, other_line, served as entered}
use Rattle.page.specs.Entries.{text_served, WritesPage, ReadsPage, of_nodes, other_page}
use Rattle.page.specs.Inner.Returning.{Returns, returns}
use Rattle.page.proofs.SessionPages.{page_back}
use Rattle.page.proofs.ReadBack.{page_widths}
use Rattle.cgtool.specs.Commands.{Command, page, nodes, AnswerTo, NodesAnswer, of_page, no_page}
use Rattle.cgtool.specs.Inner.Outputs.{Within, answer_in}

-- ---- 64 lines fit

page_short : {text : List ℕ} {ns : List Node} → PageOf text ns → length text ≤ 2470
page_short {text} {ns} p = (page_widths text ns p).most

page_fits : (s : Session) → Valid s → length (page_text (graph_of s.stations)) ≤ 2470
page_fits s v = page_short (page_back s v)

nodes_fit : {text : List ℕ} {ns : List Node} → PageOf text ns → length (texts node_text ns) ≤ 3456
nodes_fit {text} {ns} p = (page_widths text ns p).back

-- ---- the first 2,471 bytes of an input tell as much as all of it

pub read_enough : (room : ℕ) → 2471 ≤ room → (input : List ℕ) {x : Answer (List ℕ)} → NodesAnswer (take room input) x → NodesAnswer input x
read_enough room enough input {x} a = go (leb (length input) room) refl
  where
    longer : room < length input → NodesAnswer (take room input) x → NodesAnswer input x
    longer h (of_page ns p e) = absurd (omega (arith, page_short p, length-take-le room input (omega arith), enough))
    longer h (no_page none e) = no_page (λ ns p. omega (arith, page_short p, h, enough)) e

    go : (b : Bool) → leb (length input) room ≡ b → NodesAnswer input x
    go true q = subst (λ (text : List ℕ). NodesAnswer text x) (take_all room input (leb-true (length input) room q)) a
    go false q = longer (leb-false (length input) room q) a

-- ---- what was returned is an answer

abbrev answer_of : Returns → Answer (List ℕ)
answer_of x = answer_in x.output x.answer

abbrev Inside : Returns → Type 0
Inside x = Within x.output x.answer

pub record AnswerIn (c : Command) (lent out : List ℕ) (a : Answer ℕ) : Type 0 where
  pub within : Within out a
  pub answers : AnswerTo c lent (answer_in out a)

module _ (out text : List ℕ) (fits : length text ≤ length out) where
  inside : Inside (text_served returns out text)
  inside = rw (le-leb (length text) (length out) fits) (omega (arith, length_pasted out 0 text (omega arith)))

  answer : answer_of (text_served returns out text) ≡ done text
  answer = rw (le-leb (length text) (length out) fits) (ap done (take_pasted out text (length text) (omega arith)))

module _ (out : List ℕ) (room : 3584 ≤ length out) (a : Answer ℕ) {after : List ℕ} where
  pub page_answered_law : {image : List ℕ} → WritesPage returns image out (returns a after) → AnswerIn page image after a
  page_answered_law (other_length h e) = record { within = subst Inside (sym e) tt; answers = other_length h (ap answer_of e) }
  page_answered_law (other_bytes l h e) = record { within = subst Inside (sym e) tt; answers = other_bytes l h (ap answer_of e) }
  page_answered_law (other_line s h never e) = absurd (never tt tt)
  page_answered_law (entered s h f i e) =
      let text = page_text (graph_of s.stations) in
      let fits : length text ≤ length out = omega (arith, page_fits s h.valid, room) in
      record { within = subst Inside (sym e) (inside out text fits); answers = entered s h f i (ap answer_of e ∙ answer out text fits) }

  pub nodes_answered_law : {text : List ℕ} → ReadsPage returns text out (returns a after) → AnswerIn nodes text after a
  nodes_answered_law (of_nodes ns p e) =
      let lines = texts node_text ns in
      let fits : length lines ≤ length out = omega (arith, nodes_fit p, room) in
      record { within = subst Inside (sym e) (inside out lines fits); answers = of_page ns p (ap answer_of e ∙ answer out lines fits) }
  nodes_answered_law (other_page none e) = record { within = subst Inside (sym e) tt; answers = no_page none (ap answer_of e) }
