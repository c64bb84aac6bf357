-- The listing's lines of a page's nodes, one more at a time.
-- Assumes nothing.
use Prim.Native.Nat.{ℕ, suc, ◌+◌, ◌*◌, ◌/◌, ◌-◌, ◌≤◌, ◌<◌}
use mathlib.Core.Path.{◌≡◌, refl, sym, ap, ◌∙◌}
use mathlib.Core.List.{List, [], ◌++◌, map}
use native.Mathlib.Omega.{arith}
use lib.ListN.{length, take, drop, get_or, length-map}
use lib.Seq.{drop-cons, take_all}
use Rattle.graph.specs.Nodes.{Node}
use Rattle.flat.specs.Inner.FlatSteps.{no_node}
use Rattle.text.specs.Text.{texts, pasted}
use Rattle.text.specs.Inner.Put.{TextPut}
use Rattle.text.proofs.Pasting.{written_none}
use Rattle.print.specs.Printed.{node_text}
use Rattle.state.proofs.Holding.{get_d_of}
use Rattle.listing.specs.Inner.Rows.{joined}
use Rattle.listing.proofs.Joined.{written_as, joined_map, row_room, row_more}
use Rattle.pagelines.specs.Page.{page_line, PageNode}
use Rattle.pagelines.specs.Inner.Columns.{Stands, LineRead}
use Rattle.pagelines.specs.declared.read.NodeLine.{NodeLine}
use Rattle.std.specs.Prelude.{Option, Some, None, IsSome}
use Rattle.pagelines.proofs.LinesOnce.{line_once}
use Rattle.page.specs.Inner.Measuring.{RoomForNodes, NodesPut}
use Rattle.page.proofs.PagesRead.{whole_length, after_lines, nodes_after_law, page_once}

-- the lines of the nodes in the lines before line i are written
pub record Put (page out : List ℕ) (ns : List Node) (after : List ℕ) (p i : ℕ) : Type 0 where
  pub below : 1 ≤ i
  pub inside : i ≤ length ns + 1
  pub text : TextPut out 0 (joined (take (i - 1) (map node_text ns))) after p

module _ (page out : List ℕ) (r : RoomForNodes page out) where
  pub put_none : Put page out r.ns out 0 1
  put_none = record { below = omega arith; inside = omega arith; text = written_none out 0 }

  fits : 0 + length (joined (map node_text r.ns)) ≤ length out
  fits = omega (arith, r.room, ap length (joined_map node_text r.ns))

  module _ (after : List ℕ) (p i : ℕ) (s : Put page out r.ns after p i) where
    module _ (more : i < length page / 38) where
      next : i - 1 < length r.ns
      next = omega (arith, s.below, whole_length r.is)

      row : i - 1 < length (map node_text r.ns)
      row = omega (arith, next, length-map r.ns node_text)

      -- the line that stands there
      here : drop (38 * i) page ≡ page_line (get_or r.ns (i - 1) no_node) ++ texts page_line (drop (suc (i - 1)) r.ns)
      here =
          let place : 38 * i ≡ 38 * (i - 1 + 1) = omega (arith, s.below) in
          ap (λ (j : ℕ). drop j page) place ∙ after_lines r.is (i - 1) ∙ ap (texts page_line) (drop-cons r.ns (i - 1) no_node next)

      keeps : PageNode (get_or r.ns (i - 1) no_node)
      keeps = (rw (drop-cons r.ns (i - 1) no_node next) at (nodes_after_law r.is (i - 1))).0

      pub line_there : (o : Option NodeLine) → LineRead page (38 * i) o → IsSome o
      line_there (Some n) l = refl
      line_there None never = absurd (never (get_or r.ns (i - 1) no_node) keeps (texts page_line (drop (suc (i - 1)) r.ns)) here)

      module _ (n : Node) (l : Stands PageNode page_line page (38 * i) 38 n) where
        same : node_text n ≡ get_or (map node_text r.ns) (i - 1) []
        same =
            ap node_text (line_once n (get_or r.ns (i - 1) no_node) (drop (38 * i + 38) page) (texts page_line (drop (suc (i - 1)) r.ns)) l.fits keeps (sym l.same ∙ here))
            ∙ sym (get_d_of node_text r.ns (i - 1) no_node [] next)

        pub node_room : p + length (node_text n) ≤ length after
        node_room = omega (arith, row_room (map node_text r.ns) (i - 1) row fits s.text, ap length same)

        pub put_more : (after' : List ℕ) (p' : ℕ) → TextPut after p (node_text n) after' p' → Put page out r.ns after' p' (i + 1)
        put_more after' p' w =
            let k : i - 1 + 1 ≡ i + 1 - 1 = omega (arith, s.below) in
            record {
              below = omega arith;
              inside = omega (arith, next);
              text = written_as (ap (λ (j : ℕ). joined (take j (map node_text r.ns))) k) (row_more (map node_text r.ns) (i - 1) row fits s.text (written_as same w));
            }

    pub put_all : length page / 38 ≤ i → NodesPut page out after
    put_all end ns is =
        let all : length (map node_text r.ns) ≤ i - 1 = omega (arith, whole_length r.is, length-map r.ns node_text) in
        s.text.bytes
        ∙ ap (λ (rows : List (List ℕ)). pasted out 0 (joined rows)) (take_all (i - 1) (map node_text r.ns) all)
        ∙ ap (pasted out 0) (joined_map node_text r.ns)
        ∙ ap (λ (ms : List Node). pasted out 0 (texts node_text ms)) (page_once r.is is)
