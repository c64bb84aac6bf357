-- What is given by value is given by number too.
-- Assumes nothing.
use Prim.Native.Nat.{ℕ}
use mathlib.Core.Path.{◌≡◌, refl, ap, ◌∙◌}
use mathlib.Core.Bool.{Bool, true, false, cond}
use mathlib.Core.List.{List}
use lib.Dec.{leb}
use lib.ListN.{length}
use Rattle.graph.specs.Sessions.{graph_of}
use Rattle.text.specs.Text.{pasted, texts}
use Rattle.print.specs.Printed.{node_text}
use Rattle.graph.specs.Refusals.{Answer, refused, done}
use Rattle.host.specs.Entries.{other_length, other_bytes, other_line, served as entered}
use Rattle.pagelines.specs.Page.{page_text}
use Rattle.page.specs.Entries.{Written, written, text_served, WritesPage, ReadsPage, of_nodes, other_page}
use Rattle.page.specs.Inner.Returning.{Returns, returns}

abbrev by_number : Returns → Written
by_number r = written r.answer r.output

either : (b : Bool) (x y : Returns) → by_number (cond b x y) ≡ cond b (by_number x) (by_number y)
either true x y = refl
either false x y = refl

served_by_number : (out text : List ℕ) → by_number (text_served returns out text) ≡ text_served written out text
served_by_number out text = either (leb (length text) (length out)) (returns (done (length text)) (pasted out 0 text)) (returns (refused 34) out)

pub writes_by_number : {image out after : List ℕ} {a : Answer ℕ} → WritesPage returns image out (returns a after) → WritesPage written image out (written a after)
writes_by_number (other_length h e) = other_length h (ap by_number e)
writes_by_number (other_bytes l h e) = other_bytes l h (ap by_number e)
writes_by_number (other_line s h never e) = absurd (never tt tt)
writes_by_number {out = out} (entered s h f i e) = entered s h f i (ap by_number e ∙ served_by_number out (page_text (graph_of s.stations)))

pub reads_by_number : {page out after : List ℕ} {a : Answer ℕ} → ReadsPage returns page out (returns a after) → ReadsPage written page out (written a after)
reads_by_number {out = out} (of_nodes ns p e) = of_nodes ns p (ap by_number e ∙ served_by_number out (texts node_text ns))
reads_by_number (other_page none e) = other_page none (ap by_number e)
