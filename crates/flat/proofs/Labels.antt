-- The labels and the adds of a queue are its session's, in another order: whatever counts them counts the same.
-- Assumes nothing.
use mathlib.Core.Path.{◌≡◌, refl, sym, ◌∙◌, ap, ap₂}
use Prim.Native.Nat.{ℕ, ◌≤◌}
use native.Mathlib.Omega.{arith}
use mathlib.Core.Bool.{Bool, true, false}
use mathlib.Core.List.{List, [], ◌∷◌, ◌++◌, append_assoc}
use lib.ListN.{length, length-append}
use Rattle.graph.specs.Nodes.{Op}
use Rattle.graph.specs.OneAtATime.{Labelled, add_of, op_of}
use Rattle.graph.specs.Sessions.{Station, Session, labels_of_unit, labels_of_units, labels_of_stations, labels_of_calls, labels_of_results, pending, live, adds_in}
use Rattle.graph.specs.KeyLists.{count}
use Rattle.graph.specs.Valid.{Each, ValidCall}
use Rattle.graph.proofs.Labels.{total, is, one, total_append, total_is, total_one}
use Rattle.flat.specs.Flat.{Tagged, tag_unit, tag_units, queue_of, waiting, flat}
use Rattle.flat.specs.Inner.Queues.{labels_in, queued, adds_queued, live_in}

-- LABELS
queued_append : (a b : List Tagged) → queued (a ++ b) ≡ queued a ++ queued b
queued_append [] b = refl
queued_append (x ∷ xs) b = ap (λ (z : List ℕ). labels_in x.call ++ z) (queued_append xs b) ∙ sym (append_assoc (labels_in x.call) (queued xs) (queued b))

queued_unit : (k : ℕ) (b : Bool) (os : List Op) → queued (tag_unit k b os) ≡ labels_of_unit os
queued_unit k b [] = refl
queued_unit k b (o ∷ os) = ap (λ (z : List ℕ). o.labels ++ z) (queued_unit k false os)

queued_units : (k : ℕ) (us : List (List Op)) → queued (tag_units k us) ≡ labels_of_units us
queued_units k [] = refl
queued_units k (u ∷ us) = queued_append (tag_unit k true u) (tag_units k us) ∙ ap₂ ◌++◌ (queued_unit k true u) (queued_units k us)

queued_waiting : (cs : List Labelled) → queued (waiting cs) ≡ labels_of_calls cs
queued_waiting [] = refl
queued_waiting (add_of l v ∷ cs) = ap (λ (z : List ℕ). l ∷ z) (queued_waiting cs)
queued_waiting (op_of o ∷ cs) = ap (λ (z : List ℕ). o.labels ++ z) (queued_waiting cs)

-- the queue has the last station first, `pending` has it last: a sum over the labels is the same
module _ (v : ℕ → ℕ) where
  stations_same : (ss : List Station) → total v (queued (queue_of ss)) ≡ total v (labels_of_stations ss)
  stations_same [] = refl
  stations_same (s ∷ ss) =
      let q = queued (queue_of ss) in
      let us = labels_of_units s.units in
      ap (total v) (queued_append (queue_of ss) (tag_units s.node.key s.units) ∙ ap (λ (z : List ℕ). q ++ z) (queued_units s.node.key s.units))
      ∙ omega (arith, total_append v q us, total_append v us (labels_of_stations ss), stations_same ss)

  pub pending_same : (s : Session) → total v (queued (flat s).queue) ≡ total v (pending s)
  pending_same s =
      let q = queued (queue_of s.stations) in
      let cs = labels_of_calls s.top_stream in
      ap (total v) (queued_append (queue_of s.stations) (waiting s.top_stream) ∙ ap (λ (z : List ℕ). q ++ z) (queued_waiting s.top_stream))
      ∙ omega (arith, total_append v q cs, total_append v (labels_of_stations s.stations) cs, stations_same s.stations)

  pub live_same : (s : Session) → total v (live_in (flat s)) ≡ total v (live s)
  live_same s =
      let rs = labels_of_results s.results in
      omega (arith, total_append v (queued (flat s).queue) rs, total_append v (pending s) rs, pending_same s)

pub live_count : (l : ℕ) (s : Session) → count l (live_in (flat s)) ≡ count l (live s)
live_count l s = sym (total_is l (live_in (flat s))) ∙ live_same (is l) s ∙ total_is l (live s)

pub live_length : (s : Session) → length (live_in (flat s)) ≡ length (live s)
live_length s = sym (total_one (live_in (flat s))) ∙ live_same one s ∙ total_one (live s)

-- each call of a queue has a label of its own
pub labels_some : (c : Labelled) → ValidCall c → 1 ≤ length (labels_in c)
labels_some (add_of l v) g = omega arith
labels_some (op_of o) g = g.op.named

pub labels_many : (q : List Tagged) → Each (λ x. 1 ≤ length (labels_in x.call)) q → length q ≤ length (queued q)
labels_many [] g = omega arith
labels_many (x ∷ xs) g = omega (arith, length-append (labels_in x.call) (queued xs), g.0, labels_many xs g.1)

-- ADDS: none stands at a station
adds_unit : (k : ℕ) (b : Bool) (os : List Op) (q : List Tagged) → adds_queued (tag_unit k b os ++ q) ≡ adds_queued q
adds_unit k b [] q = refl
adds_unit k b (o ∷ os) q = omega (arith, adds_unit k false os q)

adds_units : (k : ℕ) (us : List (List Op)) (q : List Tagged) → adds_queued (tag_units k us ++ q) ≡ adds_queued q
adds_units k [] q = refl
adds_units k (u ∷ us) q = ap adds_queued (append_assoc (tag_unit k true u) (tag_units k us) q) ∙ adds_unit k true u (tag_units k us ++ q) ∙ adds_units k us q

adds_stations : (ss : List Station) (q : List Tagged) → adds_queued (queue_of ss ++ q) ≡ adds_queued q
adds_stations [] q = refl
adds_stations (s ∷ ss) q =
    let us = tag_units s.node.key s.units in
    ap adds_queued (append_assoc (queue_of ss) us q) ∙ adds_stations ss (us ++ q) ∙ adds_units s.node.key s.units q

adds_waiting_law : (cs : List Labelled) → adds_queued (waiting cs) ≡ adds_in cs
adds_waiting_law [] = refl
adds_waiting_law (add_of l v ∷ cs) = omega (arith, adds_waiting_law cs)
adds_waiting_law (op_of o ∷ cs) = omega (arith, adds_waiting_law cs)

pub adds_same : (s : Session) → adds_queued (flat s).queue ≡ adds_in s.top_stream
adds_same s = adds_stations s.stations (waiting s.top_stream) ∙ adds_waiting_law s.top_stream
