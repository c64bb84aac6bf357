-- Records and what they stand for: the laws by which every reader and writer goes from an image's view to the flat session held.
-- Assumes nothing.
use mathlib.Core.Path.{◌≡◌, refl, sym, ap, ◌∙◌}
use Prim.Native.Nat.{ℕ, zero, suc, ◌≤◌, ◌<◌}
use native.Mathlib.Omega.{arith}
use mathlib.Core.List.{List, [], ◌∷◌, ◌++◌, map, map-append}
use lib.ListN.{length, get_or, set, take, drop, length-map}
use Rattle.graph.specs.Nodes.{Node, Result}
use Rattle.flat.specs.Flat.{Tagged}
use Rattle.flat.specs.Inner.Queues.{remove_at}
use Rattle.flat.specs.Inner.FlatSteps.{with_queue}
use Rattle.records.specs.declared.node.NodeRecord.{NodeRecord}
use Rattle.records.specs.declared.op.OpRecord.{OpRecord}
use Rattle.records.specs.declared.result.ResultRecord.{ResultRecord}
use Rattle.image.specs.Layout.{View}
use Rattle.image.specs.Inner.Regions.{view, ViewWritten, view_with_ops, insert_at, view_with_nodes, view_with_results, view_with_last}
use Rattle.valid.specs.Inner.Decoded.{decoded_node, tagged_of, decoded_result, flat_of}
use Rattle.valid.specs.Values.{node_record, tagged_record, result_record, view_of}
use Rattle.state.specs.Inner.State.{flat_in, Proper, Shows, with_nodes, with_results, with_last}

-- LISTS
module _ {A B : Type 0} (f : A → B) where
  map_take : (n : ℕ) (xs : List A) → map f (take n xs) ≡ take n (map f xs)
  map_take zero xs = refl
  map_take (suc n) [] = refl
  map_take (suc n) (x ∷ xs) = ap (λ (l : List B). f x ∷ l) (map_take n xs)

  map_drop : (n : ℕ) (xs : List A) → map f (drop n xs) ≡ drop n (map f xs)
  map_drop zero xs = refl
  map_drop (suc n) [] = refl
  map_drop (suc n) (x ∷ xs) = map_drop n xs

  map_set : (xs : List A) (i : ℕ) (x : A) → map f (set xs i x) ≡ set (map f xs) i (f x)
  map_set [] i x = refl
  map_set (y ∷ ys) zero x = refl
  map_set (y ∷ ys) (suc i) x = ap (λ (l : List B). f y ∷ l) (map_set ys i x)

  map_remove : (xs : List A) (p : ℕ) → map f (remove_at p xs) ≡ remove_at p (map f xs)
  map_remove xs p = map-append f (take p xs) (drop (suc p) xs) ∙ (λ i. map_take p xs i ++ map_drop (suc p) xs i)

  map_insert : (xs : List A) (p : ℕ) (x : A) → map f (insert_at p x xs) ≡ insert_at p (f x) (map f xs)
  map_insert xs p x = map-append f (take p xs) (x ∷ drop p xs) ∙ (λ i. map_take p xs i ++ (f x ∷ map_drop p xs i))

  -- an element in the list does not depend on what stands for one outside
  pub get_d_of : (xs : List A) (i : ℕ) (d : A) (e : B) → i < length xs → get_or (map f xs) i e ≡ f (get_or xs i d)
  get_d_of [] i d e h = absurd (omega arith)
  get_d_of (x ∷ xs) zero d e h = refl
  get_d_of (x ∷ xs) (suc i) d e h = get_d_of xs i d e (omega arith)

-- records xs and the things ys that they stand for: f of a record is the thing, and g of a thing is its record
module _ {A B : Type 0} (f : A → B) (g : B → A) where
  pub record Stands (xs : List A) (ys : List B) : Type 0 where
    pub things : map f xs ≡ ys
    pub records : xs ≡ map g ys

  module _ {xs : List A} {ys : List B} (s : Stands xs ys) where
    pub stands_length : length xs ≡ length ys
    stands_length = sym (length-map xs f) ∙ ap length s.things

    pub stands_at : (i : ℕ) (d : A) (e : B) → i < length xs → get_or ys i e ≡ f (get_or xs i d)
    stands_at i d e h = ap (λ (l : List B). get_or l i e) (sym s.things) ∙ get_d_of f xs i d e h

    -- each record is clean: the one of its thing
    pub clean_at : (i : ℕ) (d : A) → i < length xs → g (f (get_or xs i d)) ≡ get_or xs i d
    clean_at i d h =
        let there = stands_at i d (f d) h in
        sym (ap (λ (l : List A). get_or l i d) s.records ∙ get_d_of g ys i (f d) d (rw stands_length at h) ∙ ap g there)

    pub stands_set : (i : ℕ) (x : A) → g (f x) ≡ x → Stands (set xs i x) (set ys i (f x))
    stands_set i x e =
        record {
          things = map_set f xs i x ∙ ap (λ (l : List B). set l i (f x)) s.things;
          records = (λ k. set (s.records k) i (sym e k)) ∙ sym (map_set g ys i (f x));
        }

    pub stands_append : (x : A) → g (f x) ≡ x → Stands (xs ++ (x ∷ [])) (ys ++ (f x ∷ []))
    stands_append x e =
        record {
          things = map-append f xs (x ∷ []) ∙ ap (λ (l : List B). l ++ (f x ∷ [])) s.things;
          records = (λ k. s.records k ++ (sym e k ∷ [])) ∙ sym (map-append g ys (f x ∷ []));
        }

    pub stands_remove : (p : ℕ) → Stands (remove_at p xs) (remove_at p ys)
    stands_remove p =
        record {
          things = map_remove f xs p ∙ ap (remove_at p) s.things;
          records = ap (remove_at p) s.records ∙ sym (map_remove g ys p);
        }

    pub stands_insert : (p : ℕ) (x : A) → g (f x) ≡ x → Stands (insert_at p x xs) (insert_at p (f x) ys)
    stands_insert p x e =
        record {
          things = map_insert f xs p x ∙ ap (insert_at p (f x)) s.things;
          records = (λ k. insert_at p (sym e k) (s.records k)) ∙ sym (map_insert g ys p (f x));
        }

-- THE REGIONS OF A PROPER IMAGE
abbrev pub NodesStand : List NodeRecord → List Node → Type 0
NodesStand = Stands decoded_node node_record

abbrev pub QueueStands : List OpRecord → List Tagged → Type 0
QueueStands = Stands tagged_of tagged_record

abbrev pub ResultsStand : List ResultRecord → List Result → Type 0
ResultsStand = Stands decoded_result result_record

module _ (s : List ℕ) (proper : Proper s) where
  pub nodes_stand : NodesStand (view s).nodes (flat_in s).nodes
  unfolding flat_in
  nodes_stand = record { things = refl; records = ap (λ (v : View). v.nodes) proper.clean }

  pub queue_stands : QueueStands (view s).ops (flat_in s).queue
  unfolding flat_in
  queue_stands = record { things = refl; records = ap (λ (v : View). v.ops) proper.clean }

  pub results_stand : ResultsStand (view s).results (flat_in s).results
  unfolding flat_in
  results_stand = record { things = refl; records = ap (λ (v : View). v.results) proper.clean }

  -- at most 64 of each
  pub few_nodes : length (flat_in s).nodes ≤ 64
  few_nodes = rw (stands_length decoded_node node_record nodes_stand) at proper.sound.nodes

  pub few_ops : length (flat_in s).queue ≤ 64
  few_ops = rw (stands_length tagged_of tagged_record queue_stands) at proper.sound.ops

  pub few_results : length (flat_in s).results ≤ 64
  few_results = rw (stands_length decoded_result result_record results_stand) at proper.sound.results

  -- WHAT THE WRITERS STATE, of the image t after them
  module _ (t : List ℕ) where
    shown : (v : View) → v ≡ view_of (flat_of v) → ViewWritten v s t → Shows (flat_of v) t
    unfolding flat_in
    shown v clean w =
        record {
          proper = record { sound = w.sound; canonical = w.canonical proper.canonical; clean = w.after ∙ clean ∙ ap (λ (u : View). view_of (flat_of u)) (sym w.after) };
          shows = ap flat_of w.after;
        }

    pub nodes_shown : {xs : List NodeRecord} {ys : List Node} → NodesStand xs ys → ViewWritten (view_with_nodes (view s) xs) s t → Shows (with_nodes (flat_in s) ys) t
    unfolding flat_in
    nodes_shown {xs} {ys} e w =
        rw e.things at
        (shown (view_with_nodes (view s) xs)
        (λ i. record { nodes = (e.records ∙ ap (map node_record) (sym e.things)) i; ops = (proper.clean i).ops; results = (proper.clean i).results; last = (view s).last }) w)

    pub queue_shown : {xs : List OpRecord} {ys : List Tagged} → QueueStands xs ys → ViewWritten (view_with_ops (view s) xs) s t → Shows (with_queue (flat_in s) ys) t
    unfolding flat_in
    queue_shown {xs} {ys} e w =
        rw e.things at
        (shown (view_with_ops (view s) xs)
        (λ i. record { nodes = (proper.clean i).nodes; ops = (e.records ∙ ap (map tagged_record) (sym e.things)) i; results = (proper.clean i).results; last = (view s).last }) w)

    pub results_shown : {xs : List ResultRecord} {ys : List Result} → ResultsStand xs ys → ViewWritten (view_with_results (view s) xs) s t → Shows (with_results (flat_in s) ys) t
    unfolding flat_in
    results_shown {xs} {ys} e w =
        rw e.things at
        (shown (view_with_results (view s) xs)
        (λ i. record { nodes = (proper.clean i).nodes; ops = (proper.clean i).ops; results = (e.records ∙ ap (map result_record) (sym e.things)) i; last = (view s).last }) w)

    pub last_shown : {l : ℕ} → ViewWritten (view_with_last (view s) l) s t → Shows (with_last (flat_in s) l) t
    unfolding flat_in
    last_shown {l} w = shown (view_with_last (view s) l) (λ i. record { nodes = (proper.clean i).nodes; ops = (proper.clean i).ops; results = (proper.clean i).results; last = l }) w
