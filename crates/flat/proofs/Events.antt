-- Acceptance, claims and drain, flat and nested.
-- Assumes nothing.
use mathlib.Core.Path.{◌≡◌, refl, sym, ◌∙◌, ap}
use Prim.Native.Nat.{ℕ, suc, ◌+◌, ◌≤◌}
use native.Mathlib.Omega.{arith}
use mathlib.Core.Bool.{Bool, true, false, cond, ◌&&◌, true≢false}
use mathlib.Core.List.{List, [], ◌∷◌, ◌++◌, append_assoc}
use mathlib.Core.Option.{Option, none, some}
use lib.Dec.{leb, ltb}
use lib.ListN.{length}
use borrow.Author.Tests.{ne_eqb}
use Rattle.graph.specs.Refusals.{Answer, refused, done, map_done, Test, unless}
use Rattle.graph.specs.KeyLists.{contains}
use Rattle.graph.specs.Calls.{Call, form_tests}
use Rattle.graph.specs.OneAtATime.{is_add, Labelled, labelled}
use Rattle.graph.specs.Nodes.{Op}
use Rattle.graph.specs.Sessions.{Station, Session, pending, adds_in}
use Rattle.graph.specs.Steps.{Step, admit, realise, move, finish, step}
use Rattle.graph.specs.Acceptance.{room_tests, room_of, call_tests, accepted, accept, take_result, claim}
use Rattle.graph.specs.Drain.{or_here, backmost, AfterStep, taking, or_else, drain_step_at, drain_step}
use Rattle.graph.specs.Valid.{Valid}
use Rattle.graph.proofs.Labels.{is, total_is, contains_count}
use Rattle.flat.specs.Flat.{Tagged, tag_units, queue_of, nodes_of, waiting, flat}
use Rattle.flat.specs.Inner.Nested.{Full, Keyed}
use Rattle.flat.specs.Inner.Queues.{queued, adds_queued}
use Rattle.flat.proofs.Places.{length_nodes}
use Rattle.flat.proofs.Nesting.{keyed_stations, flat_session}
use Rattle.flat.proofs.Labels.{pending_same, live_length, adds_same}
use Rattle.flat.specs.Inner.FlatSteps.{flat_step}
use Rattle.flat.specs.Inner.FlatEvents.{flat_room, flat_tests, flat_accepted, flat_accept, flat_claim, first_place, FlatTaken, flat_taking, flat_drain_step_at, flat_drain_step}
use Rattle.flat.proofs.Units.{step_bridge}

-- a valid session has a flat view
pub valid_keyed : (s : Session) → Valid s → Keyed s.stations
valid_keyed s g = keyed_stations s.stations g.falling g.stations

pub valid_room : (s : Session) → Valid s → length s.stations ≤ 64
valid_room s g = omega (arith, g.room)

pub step_valid_flat : (t : Step) (s : Session) → Valid s → flat_step t (flat s) ≡ map_done flat (step t s)
step_valid_flat t s g = step_bridge t s (valid_keyed s g) (valid_room s g)

-- LABELS AND ADDS
pending_named : (l : ℕ) (s : Session) → contains l (queued (flat s).queue) ≡ contains l (pending s)
pending_named l s =
    contains_count l (queued (flat s).queue) ∙ ap (ltb 0) (sym (total_is l (queued (flat s).queue)) ∙ pending_same (is l) s ∙ total_is l (pending s)) ∙ sym (contains_count l (pending s))

keys_given : (s : Session) → length (flat s).nodes + adds_queued (flat s).queue ≡ length s.stations + adds_in s.top_stream
keys_given s = omega (arith, length_nodes s.stations, adds_same s)

room_same : (s : Session) → flat_room (flat s) ≡ room_of s
room_same s i = record { adds = keys_given s i; live = live_length s i; given = s.last }

-- CALLS
waiting_append : (cs ds : List Labelled) → waiting (cs ++ ds) ≡ waiting cs ++ waiting ds
waiting_append [] ds = refl
waiting_append (c ∷ cs) ds = ap (λ (z : List Tagged). record { place = 65; opens = true; call = c } ∷ z) (waiting_append cs ds)

accepted_same : (c : Call) (s : Session) → flat_accepted c (flat s) ≡ flat (accepted c s)
accepted_same c s i =
    flat_session (nodes_of s.stations) ((append_assoc (queue_of s.stations) (waiting s.top_stream) (waiting (labelled c (suc s.last) ∷ [])) ∙ ap (λ (z : List Tagged). queue_of s.stations ++ z) (sym (waiting_append s.top_stream (labelled c (suc s.last) ∷ [])))) i) s.results (suc s.last)

tests_same : (c : Call) (s : Session) → flat_tests c (flat s) ≡ call_tests c s
tests_same c s i = form_tests c ++ room_tests (is_add c) (room_same s i)

unless_map : {A B : Type 0} (g : A → B) (ts : List Test) (a : A) → unless ts (g a) ≡ map_done g (unless ts a)
unless_map g [] a = refl
unless_map g (t ∷ ts) a = go t.applies (unless_map g ts a)
  where
    go : (b : Bool) → unless ts (g a) ≡ map_done g (unless ts a) → cond b (refused t.number) (unless ts (g a)) ≡ map_done g (cond b (refused t.number) (unless ts a))
    go true e = refl
    go false e = e

pub accept_bridge : (c : Call) (s : Session) → flat_accept c (flat s) ≡ map_done flat (accept c s)
accept_bridge c s = (λ i. unless (tests_same c s i) (accepted_same c s i)) ∙ unless_map flat (call_tests c s) (accepted c s)

-- CLAIMS
pub claim_bridge : (l : ℕ) (s : Session) → flat_claim l (flat s) ≡ claim l s
claim_bridge l s i = cond (leb 1 l && leb l s.last) (cond (pending_named l s i) (refused 31) (take_result l s.results)) (refused 30)

-- DRAIN
abbrev or : Option ℕ → Option ℕ → Option ℕ
or (some k) y = some k
or none y = y

first_units : (k : ℕ) (us : List (List Op)) (A : List Tagged) (b : Option ℕ) → k ≤ 64 → Full us → or b (first_place (tag_units k us ++ A)) ≡ or (or_here b us k) (first_place A)
first_units k us A (some j) h F = refl
first_units k [] A none h F = refl
first_units k ([] ∷ us) A none h F = absurd (true≢false F.0)
first_units k ((o ∷ os) ∷ us) A none h F = rw (ne_eqb k 65 (λ e. omega arith))

first_queue : (ss : List Station) (A : List Tagged) → Keyed ss → length ss ≤ 64 → first_place (queue_of ss ++ A) ≡ or (backmost ss) (first_place A)
first_queue [] A K room = refl
first_queue (s ∷ ss) A K room =
    ap first_place (append_assoc (queue_of ss) (tag_units s.node.key s.units) A) ∙ first_queue ss (tag_units s.node.key s.units ++ A) (K.0.1, K.1.1) (omega arith)
    ∙ first_units s.node.key s.units A (backmost ss) (omega (arith, K.0.0)) K.1.0

first_same : (s : Session) → Keyed s.stations → length s.stations ≤ 64 → first_place (flat s).queue ≡ backmost s.stations
first_same s K room = first_queue s.stations (waiting s.top_stream) K room ∙ go (backmost s.stations) s.top_stream
  where
    go : (b : Option ℕ) (cs : List Labelled) → or b (first_place (waiting cs)) ≡ b
    go (some k) cs = refl
    go none [] = refl
    go none (c ∷ cs) = refl

abbrev pub taken_flat : AfterStep → FlatTaken
taken_flat t = record { what = t.what; to = flat t.to }

taking_bridge : (t : Step) (s : Session) → Keyed s.stations → length s.stations ≤ 64 → flat_taking t (flat s) ≡ map_done taken_flat (taking t s)
taking_bridge t s K room = ap (map_done (λ u. record { what = t; to = u })) (step_bridge t s K room) ∙ go (step t s)
  where
    go : (x : Answer Session) → map_done (λ u. record { what = t; to = u }) (map_done flat x) ≡ map_done taken_flat (map_done (λ u. record { what = t; to = u }) x)
    go (refused r) = refl
    go (done u) = refl

else_map : (x y : Answer AfterStep) → or_else (map_done taken_flat x) (map_done taken_flat y) ≡ map_done taken_flat (or_else x y)
else_map (refused r) y = refl
else_map (done d) y = refl

drain_at_law : (b : Option ℕ) (s : Session) → Keyed s.stations → length s.stations ≤ 64 → flat_drain_step_at b (flat s) ≡ map_done taken_flat (drain_step_at b s)
drain_at_law none s K room = taking_bridge admit s K room
drain_at_law (some k) s K room =
    (λ i. or_else (taking_bridge (realise k) s K room i) (or_else (taking_bridge (finish k) s K room i) (taking_bridge (move k) s K room i)))
    ∙ ap (or_else (map_done taken_flat (taking (realise k) s))) (else_map (taking (finish k) s) (taking (move k) s)) ∙ else_map (taking (realise k) s) (or_else (taking (finish k) s) (taking (move k) s))

pub drain_bridge : (s : Session) → Valid s → flat_drain_step (flat s) ≡ map_done taken_flat (drain_step s)
drain_bridge s g =
    let K = valid_keyed s g in
    let room = valid_room s g in
    ap (λ (b : Option ℕ). flat_drain_step_at b (flat s)) (first_same s K room) ∙ drain_at_law (backmost s.stations) s K room
