-- The nodes that an image holds: one read, one with another value and other links, and one more.
-- Assumes nothing.
use mathlib.Core.Path.{◌≡◌, sym, ap, ◌∙◌}
use Prim.Native.Nat.{ℕ, suc, ◌<◌}
use mathlib.Core.List.{List, [], ◌∷◌, ◌++◌}
use lib.ListN.{length, get_or, set}
use Rattle.graph.specs.declared.keys.Keys.{Keys}
use Rattle.graph.specs.Packed.{listed, packed}
use Rattle.graph.specs.Nodes.{Node, new_node}
use Rattle.graph.proofs.KeyLaws.{listed_packed}
use Rattle.records.specs.declared.node.NodeRecord.{NodeRecord}
use Rattle.image.specs.Inner.Regions.{view, node_region, blank, ViewWritten, view_with_nodes}
use Rattle.flat.specs.Inner.FlatSteps.{no_node}
use Rattle.valid.specs.Inner.Decoded.{decoded_node}
use Rattle.valid.specs.Values.{node_record}
use Rattle.state.specs.Inner.State.{flat_in, Proper, Shows, with_nodes}
use Rattle.state.specs.Inner.Results.{IsBody, node_with}
use Rattle.state.proofs.Holding.{stands_length, stands_at, clean_at, stands_set, stands_append, nodes_stand, nodes_shown}

abbrev made : ℕ → ℕ → Keys → NodeRecord
made k v ls = record { value = v; key = k; links = ls; spare = 0 }

-- a record whose links are in normal form is the one of its node
made_clean : (k v : ℕ) (ls : Keys) → ls ≡ packed (listed ls) → node_record (decoded_node (made k v ls)) ≡ made k v ls
made_clean k v ls e i = made k v (sym e i)

module _ (s : List ℕ) (proper : Proper s) where
  pub node_count_law : length (view s).nodes ≡ length (flat_in s).nodes
  node_count_law = stands_length decoded_node node_record (nodes_stand s proper)

  -- the record at i
  module _ (i : ℕ) (h : i < length (flat_in s).nodes) where
    pub in_view : i < length (view s).nodes
    in_view = rw node_count_law h

    pub body_of : {r : NodeRecord} → r ≡ get_or (view s).nodes i (blank node_region) → IsBody (get_or (flat_in s).nodes i no_node) (record { key = r.key; value = r.value; links = r.links })
    body_of {r} e =
        let x = get_or (view s).nodes i (blank node_region) in
        let n : decoded_node r ≡ get_or (flat_in s).nodes i no_node = ap decoded_node e ∙ sym (stands_at decoded_node node_record (nodes_stand s proper) i (blank node_region) no_node in_view) in
        let clean : node_record (decoded_node r) ≡ r = ap (λ (y : NodeRecord). node_record (decoded_node y)) e ∙ clean_at decoded_node node_record (nodes_stand s proper) i (blank node_region) in_view ∙ sym e in
        record {
          key = ap (λ (y : Node). y.key) n;
          value = ap (λ (y : Node). y.value) n;
          links = record { is = ap (λ (y : Node). y.links) n; keys = sym (ap (λ (y : NodeRecord). y.links) clean) };
        }

    pub body_put : {r : NodeRecord} (t : List ℕ) (v : ℕ) (ls : Keys) → r ≡ get_or (view s).nodes i (blank node_region) → ls ≡ packed (listed ls)
        → ViewWritten (view_with_nodes (view s) (set (view s).nodes i (made r.key v ls))) s t
        → Shows (with_nodes (flat_in s) (set (flat_in s).nodes i (node_with (get_or (flat_in s).nodes i no_node) v (listed ls)))) t
    body_put {r} t v ls e normal w =
        rw (body_of e).key at
        (nodes_shown s proper t (stands_set decoded_node node_record (nodes_stand s proper) i (made r.key v ls) (made_clean r.key v ls normal)) w)

  pub body_appended : (t : List ℕ) (k v : ℕ) (ls : Keys) → k ≡ suc (length (flat_in s).nodes) → ls ≡ packed []
      → ViewWritten (view_with_nodes (view s) ((view s).nodes ++ (made k v ls ∷ []))) s t
      → Shows (with_nodes (flat_in s) ((flat_in s).nodes ++ (new_node (length (flat_in s).nodes) v ∷ []))) t
  body_appended t k v ls e none w =
      nodes_shown s proper t
      (rw (none, listed_packed [], e) at (stands_append decoded_node node_record (nodes_stand s proper) (made k v ls) (made_clean k v ls (rw (none, listed_packed [])))))
      (rw (none, e) at w)
