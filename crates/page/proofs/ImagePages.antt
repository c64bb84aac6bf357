-- The page of the session that an image holds, line by line and whole.
-- Assumes nothing.
use Prim.Native.Nat.{ℕ, suc, ◌+◌, ◌*◌, ◌≤◌, ◌<◌}
use mathlib.Core.Path.{◌≡◌, refl, sym, ap, subst, ◌∙◌}
use mathlib.Core.List.{List, [], ◌∷◌, map, reverse, reverse-append}
use native.Mathlib.Omega.{arith}
use lib.ListN.{length, get_or, length-map, length-reverse}
use Rattle.graph.specs.Nodes.{Node}
use Rattle.graph.specs.Sessions.{Station, Session, graph_of}
use Rattle.graph.specs.Valid.{Each, Valid}
use Rattle.graph.proofs.Limits.{each_at}
use Rattle.text.specs.Text.{texts}
use Rattle.print.specs.Inner.Values.{node_by_value}
use Rattle.flat.specs.Flat.{Flat, nodes_of}
use Rattle.flat.specs.Inner.Nested.{nest}
use Rattle.flat.specs.Inner.FlatSteps.{no_node}
use Rattle.valid.specs.Inner.Decoded.{session_of}
use Rattle.state.specs.Inner.State.{flat_in}
use Rattle.state.specs.Inner.Results.{IsBody}
use Rattle.state.specs.Inner.ValidImage.{ValidImage}
use Rattle.state.specs.declared.nodes.Body.{Body}
use Rattle.state.proofs.Holding.{get_d_of}
use Rattle.state.proofs.Serving.{session_held}
use Rattle.listing.specs.Inner.Rows.{joined}
use Rattle.listing.proofs.Joined.{joined_map, get_d_back}
use Rattle.pagelines.specs.Page.{page_head, page_line, page_text, PageNode}
use Rattle.pagelines.proofs.Widths.{line_length, lines_length, page_length}
use Rattle.page.proofs.SessionPages.{session_nodes, page_back}

-- the nodes in station order; a line for each
abbrev pub nodes_in : List ℕ → List Node
nodes_in image = graph_of (session_of image).stations

abbrev pub lines_in : List ℕ → List (List ℕ)
lines_in image = map page_line (nodes_in image)

graph_reversed : (ss : List Station) → reverse (nodes_of ss) ≡ graph_of ss
graph_reversed [] = refl
graph_reversed (s ∷ ss) = reverse-append (nodes_of ss) (s.node ∷ []) ∙ ap (λ (r : List Node). s.node ∷ r) (graph_reversed ss)

module _ (image : List ℕ) (l : ValidImage image) where
  valid_held : Valid (session_of image)
  valid_held = subst Valid (sym (session_held image)) l.valid

  nodes_held : reverse (flat_in image).nodes ≡ nodes_in image
  nodes_held =
      ap (λ (f : Flat). reverse f.nodes) (sym l.flat)
      ∙ graph_reversed (nest (flat_in image)).stations
      ∙ ap (λ (s : Session). graph_of s.stations) (sym (session_held image))

  pub nodes_counted : length (flat_in image).nodes ≡ length (nodes_in image)
  nodes_counted = sym (length-reverse (flat_in image).nodes) ∙ ap length nodes_held

  nodes_fit : Each PageNode (nodes_in image)
  nodes_fit = session_nodes (session_of image) valid_held

  pub lines_counted : length (lines_in image) ≡ length (flat_in image).nodes
  lines_counted = length-map (nodes_in image) page_line ∙ sym nodes_counted

  pub lines_joined : joined (lines_in image) ≡ texts page_line (nodes_in image)
  lines_joined = joined_map page_line (nodes_in image)

  -- room for the lines
  pub lines_room : {n : ℕ} (at : ℕ) → at + 38 * length (flat_in image).nodes ≤ n → at + length (joined (lines_in image)) ≤ n
  lines_room at h = omega (arith, ap length lines_joined, lines_length (nodes_in image) nodes_fit, nodes_counted)

  pub nodes_few : length (flat_in image).nodes ≤ 64
  nodes_few = omega (arith, nodes_counted, (page_back (session_of image) valid_held).few)

  pub page_size : length (page_text (nodes_in image)) ≡ 38 * (length (flat_in image).nodes + 1)
  page_size = omega (arith, page_length (nodes_in image) (page_back (session_of image) valid_held).few nodes_fit, nodes_counted)

  pub head_counted : {n : ℕ} → n ≡ length (flat_in image).nodes → page_head n ≡ page_head (length (nodes_in image))
  head_counted e = ap page_head (e ∙ nodes_counted)

  pub page_room : {n : ℕ} → 38 * (length (flat_in image).nodes + 1) ≤ n → 0 + length (page_text (nodes_in image)) ≤ n
  page_room h = omega (arith, page_size)

  -- the i-th line is that of the i-th node from the back
  module _ (i k : ℕ) (b : Body) (e : i + suc k ≡ length (flat_in image).nodes) (g : IsBody (get_or (flat_in image).nodes k no_node) b) where
    there : node_by_value b.key b.value b.links ≡ get_or (nodes_in image) i no_node
    there =
        let node : node_by_value b.key b.value b.links ≡ get_or (flat_in image).nodes k no_node = λ j. record { key = g.key j; value = g.value j; links = g.links.is j } in
        node ∙ sym (get_d_back (flat_in image).nodes i k no_node e) ∙ ap (λ (ns : List Node). get_or ns i no_node) nodes_held

    inside : i < length (nodes_in image)
    inside = omega (arith, nodes_counted)

    pub line_node : PageNode (node_by_value b.key b.value b.links)
    line_node = subst PageNode (sym there) (each_at PageNode (nodes_in image) no_node nodes_fit i inside)

    pub line_there : page_line (node_by_value b.key b.value b.links) ≡ get_or (lines_in image) i []
    line_there = ap page_line there ∙ sym (get_d_of page_line (nodes_in image) i no_node [] inside)

    pub line_size : length (get_or (lines_in image) i []) ≡ 38
    line_size = ap length (sym line_there) ∙ line_length (node_by_value b.key b.value b.links) line_node
