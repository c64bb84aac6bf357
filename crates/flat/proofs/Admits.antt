-- Admit, flat and nested: the first waiting call enters the first streamlet, or makes its node.
-- Assumes nothing.
use mathlib.Core.Path.{◌≡◌, refl, sym, ◌∙◌, ap}
use Prim.Native.Nat.{ℕ, ◌≤◌}
use native.Mathlib.Omega.{arith}
use mathlib.Core.Bool.{Bool, true, cond}
use mathlib.Core.List.{List, [], ◌∷◌, ◌++◌, append_assoc, append-nil}
use lib.ListN.{length, get_or}
use lib.Seq.{drop-append_seam, drop-length, get_or-append_seam}
use borrow.Author.Tests.{ne_eqb}
use Rattle.graph.specs.Refusals.{refused, done, map_done}
use Rattle.graph.specs.Nodes.{Node, Op, Result, new_node, add_result}
use Rattle.graph.specs.OneAtATime.{Labelled, add_of, op_of}
use Rattle.graph.specs.Sessions.{Station, Session, store}
use Rattle.graph.specs.Steps.{admit, admitted, changed, step}
use Rattle.flat.specs.Flat.{Tagged, standing, tag_units, queue_of, nodes_of, waiting, flat}
use Rattle.flat.specs.Inner.Queues.{first_is}
use Rattle.flat.specs.Inner.Nested.{at_place, Keyed}
use Rattle.flat.proofs.Places.{no_append, find_none, find_at, no_queue, beyond_top, length_nodes}
use Rattle.flat.proofs.Nesting.{flat_session}
use Rattle.flat.specs.Inner.FlatSteps.{no_op, move_to, admit_call, admit_from, flat_step}
use Rattle.flat.proofs.Turns.{alter_seam}
use Rattle.flat.proofs.Heads.{tag_units_append, remove_seam}

-- a call that waits
abbrev waits : Labelled → Tagged
waits c = record { place = 65; opens = true; call = c }

admit_at : (ns : List Node) (Q : List Tagged) (c : Labelled) (W : List Tagged) (rs : List Result) (l : ℕ) → admit_from (length Q) (flat_session ns (Q ++ (waits c ∷ W)) rs l) ≡ done (admit_call (length Q) c (flat_session ns (Q ++ (waits c ∷ W)) rs l))
admit_at ns Q c W rs l =
    ap (λ (b : Bool). cond b (done (admit_call (length Q) (get_or (Q ++ (waits c ∷ W)) (length Q) no_op).call (flat_session ns (Q ++ (waits c ∷ W)) rs l))) (refused 21)) (ap (first_is (at_place 65)) (drop-append_seam Q (waits c ∷ W)))
    ∙ ap (λ (x : Tagged). done (admit_call (length Q) x.call (flat_session ns (Q ++ (waits c ∷ W)) rs l))) (get_or-append_seam Q (waits c) W no_op)

enter_queue : (j : ℕ) (Q : List Tagged) (us : List (List Op)) (o : Op) (W : List Tagged) → (Q ++ tag_units j us) ++ (standing j true o ∷ W) ≡ (Q ++ tag_units j (us ++ ((o ∷ []) ∷ []))) ++ W
enter_queue j Q us o W = simp (tag_units_append, append_assoc)

admit_call_law : (ss : List Station) (c : Labelled) (cs : List Labelled) (rs : List Result) (l : ℕ) → Keyed ss
    → admit_call (length (queue_of ss)) c (flat_session (nodes_of ss) (queue_of ss ++ (waits c ∷ waiting cs)) rs l) ≡ flat (changed (record { stations = ss; top_stream = c ∷ cs; results = rs; last = l }) cs (admitted c ss))
admit_call_law ss (add_of m v) cs rs l K = λ i.
    flat_session (nodes_of ss ++ (new_node (length_nodes ss i) v ∷ [])) ((remove_seam (queue_of ss) (waits (add_of m v)) (waiting cs) ∙ ap (λ (q : List Tagged). q ++ waiting cs) (sym (append-nil (queue_of ss)))) i)
    (store (add_result m (length_nodes ss i) ∷ []) rs) l
admit_call_law [] (op_of o) cs rs l K = refl
admit_call_law (s ∷ ss) (op_of o) cs rs l K =
    let e : length (nodes_of (s ∷ ss)) ≡ s.node.key = length_nodes (s ∷ ss) ∙ sym K.0.0 in
    rw (ne_eqb (length (nodes_of (s ∷ ss))) 0 (λ d. omega (arith, length_nodes (s ∷ ss))))
    (λ i. flat_session (nodes_of (s ∷ ss)) ((alter_seam (move_to (length (nodes_of (s ∷ ss)))) (queue_of (s ∷ ss)) (waits (op_of o)) (waiting cs)
    ∙ ap (λ (j : ℕ). queue_of (s ∷ ss) ++ (standing j true o ∷ waiting cs)) e ∙ enter_queue s.node.key (queue_of ss) s.units o (waiting cs)) i) rs l)

admit_go : (ss : List Station) (w : List Labelled) (rs : List Result) (l : ℕ) → Keyed ss → length ss ≤ 64 → flat_step admit (flat (record { stations = ss; top_stream = w; results = rs; last = l })) ≡ map_done flat (step admit (record { stations = ss; top_stream = w; results = rs; last = l }))
admit_go ss [] rs l K room =
    ap (λ (w : ℕ). admit_from w (flat_session (nodes_of ss) (queue_of ss ++ []) rs l)) (find_none (at_place 65) (queue_of ss ++ []) (no_append (at_place 65) (queue_of ss) [] (no_queue 65 ss K (beyond_top ss room)) tt))
    ∙ rw (drop-length (queue_of ss ++ []))
admit_go ss (c ∷ cs) rs l K room =
    ap (λ (w : ℕ). admit_from w (flat_session (nodes_of ss) (queue_of ss ++ (waits c ∷ waiting cs)) rs l)) (find_at (at_place 65) (queue_of ss) (waits c) (waiting cs) (no_queue 65 ss K (beyond_top ss room)) refl)
    ∙ admit_at (nodes_of ss) (queue_of ss) c (waiting cs) rs l
    ∙ ap done (admit_call_law ss c cs rs l K)

pub admit_bridge : (s : Session) → Keyed s.stations → length s.stations ≤ 64 → flat_step admit (flat s) ≡ map_done flat (step admit s)
admit_bridge s K room = admit_go s.stations s.top_stream s.results s.last K room
