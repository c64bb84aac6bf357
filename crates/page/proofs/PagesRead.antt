-- Laws of a page's lines: where each stands, and that a page has one list of nodes.
-- Assumes nothing.
use Prim.Native.Nat.{ℕ, zero, suc, ◌+◌, ◌*◌, ◌≤◌}
use mathlib.Core.Path.{◌≡◌, refl, sym, ap, ◌∙◌}
use mathlib.Core.List.{List, [], ◌∷◌, ◌++◌}
use native.Mathlib.Omega.{arith}
use lib.ListN.{length, drop}
use lib.Seq.{drop_at, drop-drop, drop-append-add, drop-nil}
use Rattle.graph.specs.KeyLists.{count}
use Rattle.graph.specs.Nodes.{Node}
use Rattle.graph.specs.Valid.{Each}
use Rattle.text.specs.Text.{texts}
use Rattle.pagelines.specs.Page.{page_head, page_line, PageNode, keys_of, PageOf}
use Rattle.pagelines.proofs.Widths.{head_length, line_length, page_length}
use Rattle.pagelines.proofs.LinesOnce.{lines_once}

-- after i lines the others stand
lines_from : (ns : List Node) → Each PageNode ns → (i : ℕ) → drop (38 * i) (texts page_line ns) ≡ texts page_line (drop i ns)
lines_from ns p zero = refl
lines_from [] p (suc i) = drop-nil (38 * suc i)
lines_from (n ∷ ns) p (suc i) =
    let k : 38 * suc i ≡ length (page_line n) + 38 * i = omega (arith, line_length n p.0) in
    ap (λ (j : ℕ). drop j (page_line n ++ texts page_line ns)) k ∙ drop-append-add (page_line n) (texts page_line ns) (38 * i) ∙ lines_from ns p.1 i

each_drop : (ns : List Node) → Each PageNode ns → (i : ℕ) → Each PageNode (drop i ns)
each_drop ns p zero = p
each_drop [] p (suc i) = tt
each_drop (n ∷ ns) p (suc i) = each_drop ns p.1 i

count_drop : (k : ℕ) (ns : List Node) (i : ℕ) → count k (keys_of (drop i ns)) ≤ count k (keys_of ns)
count_drop k ns zero = omega arith
count_drop k [] (suc i) = omega arith
count_drop k (n ∷ ns) (suc i) = omega (arith, count_drop k ns i)

module _ {page : List ℕ} {ns : List Node} (p : PageOf page ns) where
  pub whole_length : length page ≡ 38 * (length ns + 1)
  whole_length = ap length p.same ∙ page_length ns p.few p.nodes

  pub after_head : drop 38 page ≡ texts page_line ns
  after_head = ap (drop 38) p.same ∙ drop_at (page_head (length ns)) (texts page_line ns) 38 (head_length (length ns) p.few)

  pub after_lines : (i : ℕ) → drop (38 * (i + 1)) page ≡ texts page_line (drop i ns)
  after_lines i =
      let k : 38 * (i + 1) ≡ 38 + 38 * i = omega arith in
      ap (λ (j : ℕ). drop j page) k ∙ sym (drop-drop (38 * i) 38 page) ∙ ap (drop (38 * i)) after_head ∙ lines_from ns p.nodes i

  pub nodes_after_law : (i : ℕ) → Each PageNode (drop i ns)
  nodes_after_law i = each_drop ns p.nodes i

  pub once_after : (k i : ℕ) → count k (keys_of (drop i ns)) ≤ 1
  once_after k i = omega (arith, count_drop k ns i, p.distinct k)

pub page_once : {page : List ℕ} {ns ms : List Node} → PageOf page ns → PageOf page ms → ns ≡ ms
page_once {page} {ns} {ms} p q = lines_once ns ms p.nodes q.nodes (sym (after_head p) ∙ after_head q)
