-- A session is valid exactly where its flat view is.
-- Assumes nothing.
use mathlib.Core.Path.{◌≡◌, refl, sym, ◌∙◌}
use Prim.Native.Nat.{ℕ, ◌+◌, ◌≤◌, ◌<◌}
use native.Mathlib.Omega.{arith}
use mathlib.Core.Bool.{Bool, true, false, true≢false}
use mathlib.Core.List.{List, [], ◌∷◌}
use lib.ListN.{length}
use Rattle.graph.specs.KeyLists.{is_nil, rising}
use Rattle.graph.specs.Words.{modulus}
use Rattle.graph.specs.Targets.{is_marked}
use Rattle.graph.specs.Nodes.{Op}
use Rattle.graph.specs.OneAtATime.{Labelled, add_of, op_of}
use Rattle.graph.specs.Sessions.{Station, Session, live, labels_of_results}
use Rattle.graph.specs.Valid.{Each, ValidNode, ValidOp, ValidUnit, ValidStation, ValidCall, ValidResult, Valid}
use Rattle.graph.proofs.Labels.{stray, given_stray, stray_given}
use Rattle.graph.proofs.Limits.{each_append, each_left, each_right}
use Rattle.flat.specs.Flat.{Tagged, Flat, tag_unit, tag_units, queue_of, nodes_of, waiting, flat}
use Rattle.flat.specs.Inner.Queues.{ordered, labels_in, adds_queued, live_in}
use Rattle.flat.specs.Inner.Nested.{Full, Keyed}
use Rattle.flat.proofs.Places.{length_nodes}
use Rattle.flat.proofs.Elements.{each_queued}
use Rattle.flat.proofs.Labels.{live_same, live_count, live_length, adds_same}
use Rattle.flat.proofs.Nesting.{KeysUp, Formed, formed_flat, line_order, keyed_stations}
use Rattle.valid.proofs.Counting.{Fresh}

-- a call in its place: in the top stream an operation has no mark
abbrev pub ValidPlaced : ℕ → Labelled → Type 0
ValidPlaced p (add_of l v) = v < modulus
ValidPlaced p (op_of o) = ValidOp o × (p ≡ 65 → is_marked o.targets ≡ false)

abbrev pub ValidTagged : Tagged → Type 0
ValidTagged x = ValidPlaced x.place x.call

waits_placed : (c : Labelled) → ValidCall c → ValidPlaced 65 c
waits_placed (add_of l v) h = h
waits_placed (op_of o) h = (h.op, λ e. h.unmarked)

placed_waits : (c : Labelled) → ValidPlaced 65 c → ValidCall c
placed_waits (add_of l v) h = h
placed_waits (op_of o) h = record { op = h.0; unmarked = h.1 refl }

placed_named : (p : ℕ) (c : Labelled) → ValidPlaced p c → 1 ≤ length (labels_in c)
placed_named p (add_of l v) h = omega arith
placed_named p (op_of o) h = h.0.named

pub queue_named : (q : List Tagged) → Each ValidTagged q → Each (λ x. 1 ≤ length (labels_in x.call)) q
queue_named [] h = tt
queue_named (x ∷ xs) h = (placed_named x.place x.call h.0, queue_named xs h.1)

pub record FlatValid (f : Flat) : Type 0 where
  pub keys : KeysUp 1 f.nodes
  pub nodes : Each ValidNode f.nodes
  pub order : ordered (length f.nodes) 0 f.queue ≡ true
  pub queue : Each ValidTagged f.queue
  pub results : Each ValidResult f.results
  pub room : length f.nodes + adds_queued f.queue ≤ 64
  pub rise : rising (labels_of_results f.results) ≡ true
  pub fresh : Fresh f.last (live_in f)
  pub places : length (live_in f) ≤ 64
  pub labels : f.last ≤ 65535

-- FROM NESTED TO FLAT
stations_nodes : (ss : List Station) → Each ValidStation ss → Each ValidNode (nodes_of ss)
stations_nodes [] h = tt
stations_nodes (s ∷ ss) h = each_append ValidNode (nodes_of ss) (s.node ∷ []) (stations_nodes ss h.1) (h.0.node, tt)

pub flat_valid : (s : Session) → Valid s → FlatValid (flat s)
flat_valid s v =
    let K = keyed_stations s.stations v.falling v.stations in
    let few : length s.stations ≤ 64 = omega (arith, v.room) in
    let n : length (nodes_of s.stations) ≡ length s.stations = length_nodes s.stations in
    let F : Formed (flat s) = formed_flat s K few in
    record {
      keys = F.keys;
      nodes = stations_nodes s.stations v.stations;
      order = line_order (length (nodes_of s.stations)) 0 (omega arith) (omega arith) (omega arith) (omega arith) (λ e. absurd (true≢false (sym e))) F.line;
      queue = each_queued ValidTagged waits_placed s v (λ k b o l h w. (w, λ e. absurd (omega (arith, e, h, n, few))));
      results = v.results;
      room = omega (arith, v.room, adds_same s);
      rise = v.order;
      fresh = record {
        given = stray_given s.last (live_in (flat s)) (live_same (stray s.last) s ∙ given_stray s.last (live s) v.given);
        once = λ l. omega (arith, live_count l s, v.once l);
      };
      places = omega (arith, live_length s, v.places);
      labels = v.labels;
    }

-- FROM FLAT TO NESTED
some_op : (u : List Op) → is_nil u ≡ false → 1 ≤ length u
some_op [] e = absurd (true≢false e)
some_op (o ∷ os) e = omega arith

calls_unit : (k : ℕ) (b : Bool) (os : List Op) → Each ValidTagged (tag_unit k b os) → Each ValidOp os
calls_unit k b [] h = tt
calls_unit k b (o ∷ os) h = (h.0.0, calls_unit k false os h.1)

calls_units : (k : ℕ) (us : List (List Op)) → Full us → Each ValidTagged (tag_units k us) → Each ValidUnit us
calls_units k [] F h = tt
calls_units k (u ∷ us) F h = (
  record { some = some_op u F.0; ops = calls_unit k true u (each_left ValidTagged (tag_unit k true u) (tag_units k us) h) },
  calls_units k us F.1 (each_right ValidTagged (tag_unit k true u) (tag_units k us) h),
)

valid_stations : (ss : List Station) → Keyed ss → Each ValidNode (nodes_of ss) → Each ValidTagged (queue_of ss) → Each ValidStation ss
valid_stations [] K n q = tt
valid_stations (s ∷ ss) K n q =
    let k = s.node.key in (
      record {
        node = (each_right ValidNode (nodes_of ss) (s.node ∷ []) n).0;
        units = calls_units k s.units K.1.0 (each_right ValidTagged (queue_of ss) (tag_units k s.units) q);
      },
      valid_stations ss (K.0.1, K.1.1) (each_left ValidNode (nodes_of ss) (s.node ∷ []) n) (each_left ValidTagged (queue_of ss) (tag_units k s.units) q),
    )

calls_waiting : (cs : List Labelled) → Each ValidTagged (waiting cs) → Each ValidCall cs
calls_waiting [] h = tt
calls_waiting (c ∷ cs) h = (placed_waits c h.0, calls_waiting cs h.1)

pub valid_flat : (s : Session) → Keyed s.stations → FlatValid (flat s) → Valid s
valid_flat s K f =
    record {
      falling = K.0;
      stations = valid_stations s.stations K f.nodes (each_left ValidTagged (queue_of s.stations) (waiting s.top_stream) f.queue);
      top_stream = calls_waiting s.top_stream (each_right ValidTagged (queue_of s.stations) (waiting s.top_stream) f.queue);
      results = f.results;
      room = omega (arith, f.room, adds_same s, length_nodes s.stations);
      order = f.rise;
      given = stray_given s.last (live s) (sym (live_same (stray s.last) s) ∙ given_stray s.last (live_in (flat s)) f.fresh.given);
      once = λ l. omega (arith, live_count l s, f.fresh.once l);
      places = omega (arith, live_length s, f.places);
      labels = f.labels;
    }
