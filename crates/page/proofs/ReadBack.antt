-- The statements of specs/ReadBack.antt.
-- Assumes nothing.
use Prim.Native.Nat.{ℕ, ◌*◌, ◌≤◌}
use mathlib.Core.Path.{◌≡◌, refl, sym, ap, ◌∙◌}
use mathlib.Core.List.{List, [], ◌∷◌}
use native.Mathlib.Omega.{arith}
use lib.ListN.{length, length-append}
use Rattle.graph.specs.Nodes.{Node}
use Rattle.graph.specs.Sessions.{Session, graph_of}
use Rattle.graph.specs.Valid.{Each, Valid}
use Rattle.text.specs.Text.{ascii, texts}
use Rattle.print.specs.Printed.{node_text}
use Rattle.host.specs.Entries.{served as entered}
use Rattle.host.proofs.Determined.{both}
use Rattle.pagelines.specs.Page.{page_line, PageNode, PageOf}
use Rattle.pagelines.proofs.Widths.{key_columns, value_columns, link_columns, line_length, head_length}
use Rattle.page.specs.Entries.{Written, written, text_served, ReadsPage, of_nodes, other_page}
use Rattle.page.specs.ReadBack.{PageWidths, ReadsBack, ReadOnce, WrittenOnce}
use Rattle.page.proofs.SessionPages.{page_back}
use Rattle.page.proofs.PagesRead.{whole_length, page_once}

lines_wide : (ns : List Node) → Each PageNode ns → Each (λ (n : Node). length (page_line n) ≡ 38) ns
lines_wide [] p = tt
lines_wide (n ∷ ns) p = (line_length n p.0, lines_wide ns p.1)

node_short : (n : Node) → PageNode n → length (node_text n) ≤ 54
unfolding ascii
node_short n p = simp length-append (omega (arith, key_columns n p, value_columns n p, link_columns n p))

nodes_short : (ns : List Node) → Each PageNode ns → length (texts node_text ns) ≤ 54 * length ns
nodes_short [] p = omega arith
nodes_short (n ∷ ns) p = omega (arith, length-append (node_text n) (texts node_text ns), node_short n p.0, nodes_short ns p.1)

pub page_widths : (page : List ℕ) (ns : List Node) → PageOf page ns → PageWidths page ns
page_widths page ns p =
    record {
      head = head_length (length ns) p.few;
      lines = lines_wide ns p.nodes;
      whole = whole_length p;
      most = omega (arith, whole_length p, p.few);
      back = omega (arith, nodes_short ns p.nodes, p.few);
    }

read_as : (page : List ℕ) (ns : List Node) → PageOf page ns → (out : List ℕ) (r : Written) → ReadsPage written page out r → r ≡ text_served written out (texts node_text ns)
read_as page ns p out r (of_nodes ms q e) = e ∙ ap (λ (l : List Node). text_served written out (texts node_text l)) (page_once q p)
read_as page ns p out r (other_page never e) = absurd (never ns p)

pub written_once : (image : List ℕ) → WrittenOnce image
written_once image =
    record { answer = λ out r q h k. both (λ (f g : Unit {0}) (i j : Unit {0}). refl) (λ (r q : Written). r ≡ q) (λ n. refl) (λ s f i j. refl) h k }

pub reads_back : (s : Session) → Valid s → ReadsBack s
reads_back s v =
    let p = page_back s v in
    record { wrote = λ image out r i h. (written_once image).answer out r _ h (entered s i tt tt refl); page = p; same = λ out r h. read_as _ (graph_of s.stations) p out r h; listing = refl }

answer_once : (page out : List ℕ) (r q : Written) → ReadsPage written page out r → ReadsPage written page out q → r ≡ q
answer_once page out r q (of_nodes ns p e) h = e ∙ sym (read_as page ns p out q h)
answer_once page out r q (other_page never e) (of_nodes ns p f) = absurd (never ns p)
answer_once page out r q (other_page never e) (other_page never' f) = e ∙ sym f

pub read_once : (page : List ℕ) → ReadOnce page
read_once page = record { nodes = λ ns ms p q. page_once p q; answer = answer_once page }
