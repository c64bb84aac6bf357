-- The rows of the flat session, and its listing, which is the session's.
-- Assumes nothing.
use Prim.Native.Nat.{ℕ, ◌+◌, ◌≤◌}
use mathlib.Core.Path.{◌≡◌, refl, sym, ap, ◌∙◌}
use mathlib.Core.List.{List, [], ◌∷◌, ◌++◌, append_assoc, map, reverse, reverse-append}
use native.Mathlib.Omega.{arith}
use lib.ListN.{length, length-reverse}
use Rattle.graph.specs.Nodes.{Node}
use Rattle.graph.specs.Sessions.{Station, Session, graph_of, pending}
use Rattle.graph.proofs.Labels.{one, total_one}
use Rattle.flat.specs.Flat.{Flat, flat, nodes_of}
use Rattle.flat.specs.Inner.Nested.{nest}
use Rattle.flat.specs.Inner.Queues.{queued}
use Rattle.flat.proofs.Labels.{pending_same}
use Rattle.text.specs.Text.{texts}
use Rattle.print.specs.Printed.{head_text, node_text, result_text}
use Rattle.valid.specs.Inner.Decoded.{session_of}
use Rattle.state.specs.Inner.State.{flat_in}
use Rattle.state.specs.Inner.ValidImage.{ValidImage}
use Rattle.state.proofs.Serving.{session_held}
use Rattle.listing.specs.Listed.{listing_of}
use Rattle.listing.specs.Inner.Rows.{head_line, rows_of, joined}
use Rattle.listing.proofs.Joined.{joined_append, joined_map}

-- the flat session's listing
abbrev pub flat_listing : Flat → List ℕ
flat_listing f = head_line f ++ joined (rows_of f)

graph_reversed : (ss : List Station) → reverse (nodes_of ss) ≡ graph_of ss
graph_reversed [] = refl
graph_reversed (s ∷ ss) = reverse-append (nodes_of ss) (s.node ∷ []) ∙ ap (λ (r : List Node). s.node ∷ r) (graph_reversed ss)

nodes_counted : (ss : List Station) → length (nodes_of ss) ≡ length (graph_of ss)
nodes_counted ss = sym (length-reverse (nodes_of ss)) ∙ ap length (graph_reversed ss)

pending_counted : (s : Session) → length (queued (flat s).queue) ≡ length (pending s)
pending_counted s = sym (total_one (queued (flat s).queue)) ∙ pending_same one s ∙ total_one (pending s)

listing_flat : (s : Session) → flat_listing (flat s) ≡ listing_of s
listing_flat s =
    ap (λ (r : List ℕ). head_line (flat s) ++ r)
    (joined_append (map node_text (reverse (flat s).nodes)) (map result_text s.results)
    ∙ (λ i. joined_map node_text (reverse (flat s).nodes) i ++ joined_map result_text s.results i))
    ∙ sym (append_assoc (head_line (flat s)) (texts node_text (reverse (flat s).nodes)) (texts result_text s.results))
    ∙ (λ i. head_text (nodes_counted s.stations i) (length s.results) (pending_counted s i) ++ texts node_text (graph_reversed s.stations i) ++ texts result_text s.results)

pub listing_held : (image : List ℕ) → ValidImage image → flat_listing (flat_in image) ≡ listing_of (session_of image)
listing_held image l = ap flat_listing (sym l.flat) ∙ listing_flat (nest (flat_in image)) ∙ ap listing_of (sym (session_held image))

-- room for the listing is room for its head
pub fitting : (image : List ℕ) {n : ℕ} → ValidImage image → length (listing_of (session_of image)) ≤ n → 0 + length (flat_listing (flat_in image)) ≤ n
fitting image l h = omega (arith, ap length (listing_held image l))
