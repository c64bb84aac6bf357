-- nest and flat undo one another, and the test of a queue's order says which queues are some session's.
-- Assumes nothing.
use mathlib.Core.Path.{◌≡◌, refl, sym, ◌∙◌, ap, subst}
use Prim.Native.Nat.{ℕ, suc, ◌+◌, ◌≤◌, ◌<◌}
use native.Mathlib.Omega.{arith}
use native.Mathlib.Nat.{add-zero}
use mathlib.Core.Bool.{Bool, true, false, cond, not, ◌&&◌, ◌||◌, true≢false}
use mathlib.Core.List.{List, [], ◌∷◌, ◌++◌, append_assoc, append-nil}
use lib.Dec.{eqb, leb}
use lib.ListN.{length}
use borrow.Author.Tests.{ne_eqb, eq-eqb, eqb-true, eqb-false, leb-true, leb-false, le-leb}
use Rattle.graph.specs.Nodes.{Node, Op, Result}
use Rattle.graph.specs.OneAtATime.{Labelled, add_of, op_of, is_op}
use Rattle.graph.specs.Sessions.{Station, station, Session}
use Rattle.graph.specs.Valid.{Each, ValidUnit, ValidStation, KeysFall}
use Rattle.graph.proofs.Answers.{eqb_same, and_left, and_right, by_bool}
use Rattle.flat.specs.Flat.{Tagged, Flat, standing, tag_unit, tag_units, queue_of, nodes_of, waiting, flat}
use Rattle.flat.specs.Inner.Nested.{at_place, Full, Keyed, goes_on, in_front, group, station_part, after_station, Gathered, gather, of_op, calls_of, nested, nest}
use Rattle.flat.specs.Inner.Queues.{placed, follows, ordered}
use Rattle.flat.proofs.Places.{No, no_append, no_units, no_waits, length_nodes}

abbrev pub flat_session : List Node → List Tagged → List Result → ℕ → Flat
flat_session ns q rs l = record { nodes = ns; queue = q; results = rs; last = l }

-- WELL-FORMED: a queue of n stations from station k on; b: after an operation of station k
pub data Line (n : ℕ) : Bool → ℕ → List Tagged → Type 0 where
  over : {b : Bool} {k : ℕ} (cs : List Labelled) → Line n b k (waiting cs)
  opens : {b : Bool} {k : ℕ} (j : ℕ) (o : Op) {q : List Tagged} → k ≤ j → j ≤ n → Line n true j q → Line n b k (standing j true o ∷ q)
  goes : {k : ℕ} (o : Op) {q : List Tagged} → Line n true k q → Line n true k (standing k false o ∷ q)

-- keys k, k + 1, ..
abbrev pub KeysUp : ℕ → List Node → Type 0
KeysUp k [] = Unit {0}
KeysUp k (n ∷ ns) = (n.key ≡ k) × KeysUp (suc k) ns

pub record Formed (f : Flat) : Type 0 where
  pub room : length f.nodes ≤ 64
  pub keys : KeysUp 1 f.nodes
  pub line : Line (length f.nodes) false 1 f.queue

-- a valid session's stations have keys and units, as a flat view needs
full_units : (us : List (List Op)) → Each ValidUnit us → Full us
full_units [] g = tt
full_units ([] ∷ us) g = absurd (omega (arith, g.0.some))
full_units ((o ∷ os) ∷ us) g = (refl, full_units us g.1)

full_stations : (ss : List Station) → Each ValidStation ss → Each (λ s. Full s.units) ss
full_stations [] g = tt
full_stations (s ∷ ss) g = (full_units s.units g.0.units, full_stations ss g.1)

pub keyed_stations : (ss : List Station) → KeysFall ss → Each ValidStation ss → Keyed ss
keyed_stations ss f g = (f, full_stations ss g)

-- NEST OF FLAT
group_ops : (k : ℕ) (b : Bool) (o : Op) (os : List Op) (r : List Tagged) → goes_on r ≡ false → group (standing k b o ∷ (tag_unit k false os ++ r)) ≡ (o ∷ os) ∷ group r
group_ops k b o [] r h = rw h
group_ops k b o (p ∷ ps) r h = ap (in_front o) (group_ops k false p ps r h)

goes_units : (k : ℕ) (us : List (List Op)) → Full us → goes_on (tag_units k us) ≡ false
goes_units k [] F = refl
goes_units k ([] ∷ us) F = absurd (true≢false F.0)
goes_units k ((o ∷ os) ∷ us) F = refl

group_units : (k : ℕ) (us : List (List Op)) → Full us → group (tag_units k us) ≡ us
group_units k [] F = refl
group_units k ([] ∷ us) F = absurd (true≢false F.0)
group_units k ((o ∷ os) ∷ us) F = group_ops k true o os (tag_units k us) (goes_units k us F.1) ∙ ap (λ (x : List (List Op)). (o ∷ os) ∷ x) (group_units k us F.1)

up_none : (k : ℕ) (A : List Tagged) → No (at_place k) A → station_part k A ≡ []
up_none k [] h = refl
up_none k (x ∷ xs) h = rw h.0

from_none : (k : ℕ) (A : List Tagged) → No (at_place k) A → after_station k A ≡ A
from_none k [] h = refl
from_none k (x ∷ xs) h = rw h.0

up_ops : (k : ℕ) (b : Bool) (os : List Op) (A : List Tagged) → station_part k (tag_unit k b os ++ A) ≡ tag_unit k b os ++ station_part k A
up_ops k b [] A = refl
up_ops k b (o ∷ os) A = rw (eqb_same k) (ap (λ (x : List Tagged). standing k b o ∷ x) (up_ops k false os A))

from_ops : (k : ℕ) (b : Bool) (os : List Op) (A : List Tagged) → after_station k (tag_unit k b os ++ A) ≡ after_station k A
from_ops k b [] A = refl
from_ops k b (o ∷ os) A = rw (eqb_same k) (from_ops k false os A)

up_units : (k : ℕ) (us : List (List Op)) (A : List Tagged) → No (at_place k) A → station_part k (tag_units k us ++ A) ≡ tag_units k us
up_units k [] A h = up_none k A h
up_units k (u ∷ us) A h = ap (station_part k) (append_assoc (tag_unit k true u) (tag_units k us) A) ∙ up_ops k true u (tag_units k us ++ A) ∙ ap (λ (x : List Tagged). tag_unit k true u ++ x) (up_units k us A h)

from_units : (k : ℕ) (us : List (List Op)) (A : List Tagged) → No (at_place k) A → after_station k (tag_units k us ++ A) ≡ A
from_units k [] A h = from_none k A h
from_units k (u ∷ us) A h = ap (after_station k) (append_assoc (tag_unit k true u) (tag_units k us) A) ∙ from_ops k true u (tag_units k us ++ A) ∙ from_units k us A h

-- no operation of the stations 1 to m
abbrev Away : ℕ → List Tagged → Type 0
Away m A = (j : ℕ) → 1 ≤ j → j ≤ m → No (at_place j) A

gather_flat : (ss : List Station) (N : List Node) (acc : List Station) (A : List Tagged) → Keyed ss → Away (length ss) A → gather (nodes_of ss ++ N) acc (queue_of ss ++ A) ≡ gather N (ss ++ acc) A
gather_flat [] N acc A K h = refl
gather_flat (s ∷ ss) N acc A K h =
    let k : ℕ = s.node.key in
    let a : No (at_place k) A = h k (omega (arith, K.0.0)) (omega (arith, K.0.0)) in
    (λ i. gather (append_assoc (nodes_of ss) (s.node ∷ []) N i) acc (append_assoc (queue_of ss) (tag_units k s.units) A i))
    ∙ gather_flat ss (s.node ∷ N) acc (tag_units k s.units ++ A) (K.0.1, K.1.1)
    (λ j lo hi. no_append (at_place j) (tag_units k s.units) A (no_units k j s.units (ne_eqb k j (λ e. omega (arith, K.0.0)))) (h j lo (omega arith)))
    ∙ (λ i. gather N (station s.node ((ap group (up_units k s.units A a) ∙ group_units k s.units K.1.0) i) ∷ (ss ++ acc)) (from_units k s.units A a i))

calls_waits : (cs : List Labelled) → calls_of (waiting cs) ≡ cs
calls_waits [] = refl
calls_waits (c ∷ cs) = ap (λ (x : List Labelled). c ∷ x) (calls_waits cs)

pub nest_flat : (s : Session) → Keyed s.stations → length s.stations ≤ 64 → nest (flat s) ≡ s
nest_flat s K room =
    ap (nested (flat s))
    ((λ i. gather (sym (append-nil (nodes_of s.stations)) i) [] (queue_of s.stations ++ waiting s.top_stream))
    ∙ gather_flat s.stations [] [] (waiting s.top_stream) K (λ j lo hi. no_waits j s.top_stream (omega arith)))
    ∙ (λ i. record { stations = append-nil s.stations i; top_stream = calls_waits s.top_stream i; results = s.results; last = s.last })

-- FLAT OF NEST
-- operations of station k; b: after one of them
data Run (k : ℕ) : Bool → List Tagged → Type 0 where
  stop : {b : Bool} → Run k b []
  opened : {b : Bool} (o : Op) {q : List Tagged} → Run k true q → Run k b (standing k true o ∷ q)
  went : (o : Op) {q : List Tagged} → Run k true q → Run k true (standing k false o ∷ q)

abbrev tag_b : ℕ → Bool → List (List Op) → List Tagged
tag_b k b [] = []
tag_b k b (u ∷ us) = tag_unit k b u ++ tag_units k us

tag_b_head : (k : ℕ) (b : Bool) (o : Op) (us : List (List Op)) → tag_b k b (in_front o us) ≡ standing k b o ∷ tag_b k false us
tag_b_head k b o [] = refl
tag_b_head k b o (u ∷ us) = refl

tag_b_true : (k : ℕ) (us : List (List Op)) → tag_units k us ≡ tag_b k true us
tag_b_true k [] = refl
tag_b_true k (u ∷ us) = refl

tag_b_group : (k : ℕ) (b : Bool) (o : Op) {q : List Tagged} → Run k true q → tag_b k b (group (standing k b o ∷ q)) ≡ standing k b o ∷ q
tag_b_group k b o stop = refl
tag_b_group k b o (opened p {q} r) = ap (λ (x : List Tagged). standing k b o ∷ x) (tag_b_true k (group (standing k true p ∷ q)) ∙ tag_b_group k true p r)
tag_b_group k b o (went p {q} r) = tag_b_head k b o (group (standing k false p ∷ q)) ∙ ap (λ (x : List Tagged). standing k b o ∷ x) (tag_b_group k false p r)

tag_group : (k : ℕ) {q : List Tagged} → Run k false q → tag_units k (group q) ≡ q
tag_group k stop = refl
tag_group k (opened o {q} r) = tag_b_true k (group (standing k true o ∷ q)) ∙ tag_b_group k true o r

above : (a b : ℕ) → a ≤ b → (b ≡ a → ⊥) → suc a ≤ b
above a b h ne = by_bool (leb (suc a) b) (leb-true (suc a) b) (λ y. absurd (ne (omega (arith, leb-false (suc a) b y))))

run_up : (n k j : ℕ) {b : Bool} {q : List Tagged} → j ≡ k → k ≤ 64 → Line n b j q → Run k b (station_part k q)
run_up n k j e h (over cs) = rw (up_none k (waiting cs) (no_waits k cs h)) stop
run_up n k j {b} e h (opens i o {q} lo hi r) = go (eqb i k) refl (λ d. run_up n k i d h r)
  where
    go : (c : Bool) → eqb i k ≡ c → (i ≡ k → Run k true (station_part k q)) → Run k b (cond c (standing i true o ∷ station_part k q) [])
    go true d f = rw (eqb-true i k d) (opened o (f (eqb-true i k d)))
    go false d f = stop
run_up n k j e h (goes o {q} r) = rw (e, eqb_same k) (went o (run_up n k j e h r))

line_from : (n k j : ℕ) {b : Bool} {q : List Tagged} → j ≡ k → k ≤ 64 → Line n b j q → Line n false (suc k) (after_station k q)
line_from n k j e h (over cs) = rw (from_none k (waiting cs) (no_waits k cs h)) (over cs)
line_from n k j e h (opens i o {q} lo hi r) = go (eqb i k) refl (λ d. line_from n k i d h r)
  where
    go : (c : Bool) → eqb i k ≡ c → (i ≡ k → Line n false (suc k) (after_station k q)) → Line n false (suc k) (cond c (after_station k q) (standing i true o ∷ q))
    go true d f = f (eqb-true i k d)
    go false d f = opens i o (above k i (omega arith) (eqb-false i k d)) hi r
line_from n k j e h (goes o {q} r) = rw (e, eqb_same k) (line_from n k j e h r)

up_from : (k : ℕ) (q : List Tagged) → station_part k q ++ after_station k q ≡ q
up_from k [] = refl
up_from k (x ∷ xs) = go (at_place k x) (up_from k xs)
  where
    go : (c : Bool) → station_part k xs ++ after_station k xs ≡ xs → cond c (x ∷ station_part k xs) [] ++ cond c (after_station k xs) (x ∷ xs) ≡ x ∷ xs
    go true f = ap (λ (z : List Tagged). x ∷ z) f
    go false f = refl

line_over : (n k : ℕ) {b : Bool} {q : List Tagged} → b ≡ false → n < k → Line n b k q → waiting (calls_of q) ≡ q
line_over n k f h (over cs) = ap waiting (calls_waits cs)
line_over n k f h (opens i o lo hi r) = absurd (omega arith)
line_over n k f h (goes o r) = absurd (true≢false f)

record Back (ns : List Node) (acc : List Station) (q : List Tagged) (g : Gathered) : Type 0 where
  nodes : nodes_of g.stations ≡ nodes_of acc ++ ns
  queue : queue_of g.stations ++ waiting (calls_of g.rest) ≡ queue_of acc ++ q

gather_back : (n k : ℕ) (ns : List Node) (acc : List Station) (q : List Tagged) → n ≤ 64 → KeysUp k ns → k + length ns ≡ suc n → Line n false k q → Back ns acc q (gather ns acc q)
gather_back n k [] acc q h U e L = record { nodes = sym (append-nil (nodes_of acc)); queue = ap (λ (z : List Tagged). queue_of acc ++ z) (line_over n k refl (omega arith) L) }
gather_back n k (m ∷ ns) acc q h U e L =
    let j : ℕ = m.key in
    let d : k ≡ j = sym U.0 in
    let F : List Tagged = station_part j q in
    let r : Back ns (station m (group F) ∷ acc) (after_station j q) (gather ns (station m (group F) ∷ acc) (after_station j q)) =
    gather_back n (suc j) ns (station m (group F) ∷ acc) (after_station j q) h (rw d at U.1) (omega arith) (line_from n j k d (omega arith) L) in
    record {
      nodes = r.nodes ∙ append_assoc (nodes_of acc) (m ∷ []) ns;
      queue = r.queue ∙ append_assoc (queue_of acc) (tag_units j (group F)) (after_station j q)
          ∙ ap (λ (z : List Tagged). queue_of acc ++ z) (ap (λ (z : List Tagged). z ++ after_station j q) (tag_group j (run_up n j k d (omega arith) L)) ∙ up_from j q);
    }

pub flat_nest : (f : Flat) → Formed f → flat (nest f) ≡ f
flat_nest f h =
    let r : Back f.nodes [] f.queue (gather f.nodes [] f.queue) = gather_back (length f.nodes) 1 f.nodes [] f.queue h.room h.keys (omega arith) h.line in
    λ i. flat_session (r.nodes i) (r.queue i) f.results f.last

-- WHICH SESSIONS
full_group : (q : List Tagged) → Full (group q)
full_group [] = tt
full_group (x ∷ xs) = go x.call (goes_on xs) (group xs) (full_group xs)
  where
    go : (w : Labelled) (c : Bool) (us : List (List Op)) → Full us → Full (of_op us (λ o. cond c (in_front o us) ((o ∷ []) ∷ us)) w)
    go (add_of l v) c us F = F
    go (op_of o) true [] F = (refl, tt)
    go (op_of o) true (u ∷ us) F = (refl, F.1)
    go (op_of o) false us F = (refl, F)

keyed_gather : (ns : List Node) (acc : List Station) (q : List Tagged) → Keyed acc → KeysUp (suc (length acc)) ns → Keyed (gather ns acc q).stations
keyed_gather [] acc q K U = K
keyed_gather (m ∷ ns) acc q K U = keyed_gather ns (station m (group (station_part m.key q)) ∷ acc) (after_station m.key q) ((U.0, K.0), (full_group (station_part m.key q), K.1)) U.1

pub keyed_nest : (f : Flat) → Formed f → Keyed (nest f).stations
keyed_nest f h = keyed_gather f.nodes [] f.queue (tt, tt) h.keys

keys_append : (k : ℕ) (a b : List Node) → KeysUp k a → KeysUp (k + length a) b → KeysUp k (a ++ b)
keys_append k [] b U W = rw add-zero at W
keys_append k (n ∷ a) b U W = (U.0, keys_append (suc k) a b U.1 (rw (← e) at W))
  where
    e : suc k + length a ≡ k + suc (length a)
    e = omega arith

keys_nodes : (ss : List Station) → Keyed ss → KeysUp 1 (nodes_of ss)
keys_nodes [] K = tt
keys_nodes (s ∷ ss) K = keys_append 1 (nodes_of ss) (s.node ∷ []) (keys_nodes ss (K.0.1, K.1.1)) (K.0.0 ∙ omega (arith, length_nodes ss), tt)

weaken : (n k : ℕ) {b : Bool} {q : List Tagged} (c : Bool) → b ≡ false → Line n b (suc k) q → Line n c k q
weaken n k c f (over cs) = over cs
weaken n k c f (opens i o lo hi r) = opens {k = k} i o (omega arith) hi r
weaken n k c f (goes o r) = absurd (true≢false f)

line_ops : (n k : ℕ) (os : List Op) (r : List Tagged) → Line n true k r → Line n true k (tag_unit k false os ++ r)
line_ops n k [] r L = L
line_ops n k (o ∷ os) r L = goes o (line_ops n k os r L)

line_units : (n k : ℕ) (c : Bool) (us : List (List Op)) (A : List Tagged) → Full us → k ≤ n → Line n false (suc k) A → Line n c k (tag_units k us ++ A)
line_units n k c [] A F h L = weaken n k c refl L
line_units n k c ([] ∷ us) A F h L = absurd (true≢false F.0)
line_units n k c ((o ∷ os) ∷ us) A F h L = rw (append_assoc (tag_unit k false os) (tag_units k us) A) (opens {k = k} k o (omega arith) h (line_ops n k os (tag_units k us ++ A) (line_units n k true us A F.1 h L)))

line_queue : (n : ℕ) (ss : List Station) (A : List Tagged) → Keyed ss → length ss ≤ n → Line n false (suc (length ss)) A → Line n false 1 (queue_of ss ++ A)
line_queue n [] A K h L = L
line_queue n (s ∷ ss) A K h L =
    rw (append_assoc (queue_of ss) (tag_units s.node.key s.units) A, K.0.0)
    (line_queue n ss (tag_units (suc (length ss)) s.units ++ A) (K.0.1, K.1.1) (omega arith) (line_units n (suc (length ss)) false s.units A K.1.0 h L))

pub formed_flat : (s : Session) → Keyed s.stations → length s.stations ≤ 64 → Formed (flat s)
formed_flat s K room = record {
  room = omega (arith, length_nodes s.stations);
  keys = keys_nodes s.stations K;
  line = line_queue (length (nodes_of s.stations)) s.stations (waiting s.top_stream) K (omega (arith, length_nodes s.stations)) (over s.top_stream);
}

-- THE TEST
not_low : (n p : ℕ) (w : Labelled) → n ≤ 64 → 65 ≤ p → (b : Bool) → eqb p 65 ≡ b → (b || (is_op w && (leb 1 p && leb p n))) ≡ true → p ≡ 65
not_low n p w room h true f g = eqb-true p 65 f
not_low n p w room h false f g = absurd (omega (arith, leb-true p n (and_right (leb 1 p) _ (and_right (is_op w) _ g))))

open_wait : (prev p : ℕ) (c : Bool) → p ≡ 65 → (leb prev p && (c || (eqb p prev && not (eqb p 65)))) ≡ true → c ≡ true
open_wait prev p true d e = refl
open_wait prev p false d e = absurd (true≢false (sym (and_right (eqb p prev) _ (and_right (leb prev p) _ e)) ∙ ap not (eq-eqb p 65 d)))

wait_all : (n : ℕ) (q : List Tagged) → n ≤ 64 → ordered n 65 q ≡ true → waiting (calls_of q) ≡ q
wait_all n [] room e = refl
wait_all n (x ∷ xs) room e =
    let f : follows 65 x ≡ true = and_right (placed n x) _ (and_left _ _ e) in
    let d : x.place ≡ 65 = not_low n x.place x.call room (leb-true 65 x.place (and_left _ _ f)) (eqb x.place 65) refl (and_left _ _ (and_left _ _ e)) in
    let r : waiting (calls_of xs) ≡ xs = wait_all n xs room (subst (λ (p : ℕ). ordered n p xs ≡ true) d (and_right (placed n x && follows 65 x) _ e)) in
    λ i. record { place = sym d i; opens = sym (open_wait 65 x.place x.opens d f) i; call = x.call } ∷ r i

module _ (n : ℕ) (b : Bool) (k prev p : ℕ) (xs : List Tagged) (room : n ≤ 64)
    (up : prev ≤ p → 1 ≤ p → k ≤ p)
    (on : (o : Op) → p ≡ prev → 1 ≤ p → Line n true p xs → Line n b k (standing p false o ∷ xs))
    (more : 1 ≤ p → p ≤ n → ordered n p xs ≡ true → Line n true p xs) where
  line_op : (c : Bool) (w : Labelled) → (is_op w && (leb 1 p && leb p n)) ≡ true → (leb prev p && (c || (eqb p prev && not (eqb p 65)))) ≡ true → ordered n p xs ≡ true → Line n b k (record { place = p; opens = c; call = w } ∷ xs)
  line_op c (add_of l v) e f g = absurd (true≢false (sym e))
  line_op true (op_of o) e f g =
      let lo : 1 ≤ p = leb-true 1 p (and_left _ _ e) in
      let hi : p ≤ n = leb-true p n (and_right (leb 1 p) _ e) in
      opens p o (up (leb-true prev p (and_left _ _ f)) lo) hi (more lo hi g)
  line_op false (op_of o) e f g =
      let lo : 1 ≤ p = leb-true 1 p (and_left _ _ e) in
      let hi : p ≤ n = leb-true p n (and_right (leb 1 p) _ e) in
      on o (eqb-true p prev (and_left _ _ (and_right (leb prev p) _ f))) lo (more lo hi g)

  line_one : (c : Bool) (w : Labelled) → ordered n prev (record { place = p; opens = c; call = w } ∷ xs) ≡ true → Line n b k (record { place = p; opens = c; call = w } ∷ xs)
  line_one c w e = go (eqb p 65) refl (and_left _ _ (and_left _ _ e))
    where
      f : (leb prev p && (c || (eqb p prev && not (eqb p 65)))) ≡ true
      f = and_right (eqb p 65 || (is_op w && (leb 1 p && leb p n))) _ (and_left _ _ e)

      g : ordered n p xs ≡ true
      g = and_right ((eqb p 65 || (is_op w && (leb 1 p && leb p n))) && (leb prev p && (c || (eqb p prev && not (eqb p 65))))) _ e

      go : (t : Bool) → eqb p 65 ≡ t → (t || (is_op w && (leb 1 p && leb p n))) ≡ true → Line n b k (record { place = p; opens = c; call = w } ∷ xs)
      go true d h =
          let z : Line n b k (waiting (w ∷ calls_of xs)) = over (w ∷ calls_of xs) in
          subst (λ (q : List Tagged). Line n b k q)
          (λ i. record { place = sym (eqb-true p 65 d) i; opens = sym (open_wait prev p c (eqb-true p 65 d) f) i; call = w } ∷ wait_all n xs room (subst (λ (p : ℕ). ordered n p xs ≡ true) (eqb-true p 65 d) g) i) z
      go false d h = line_op c w h f g

order_on : (n k : ℕ) (q : List Tagged) → n ≤ 64 → 1 ≤ k → k ≤ n → ordered n k q ≡ true → Line n true k q
order_on n k [] room lo hi e = over []
order_on n k (x ∷ xs) room lo hi e =
    line_one n true k k x.place xs room (λ h j. h) (λ o d h L. subst (λ (j : ℕ). Line n true j (standing x.place false o ∷ xs)) d (goes o L)) (λ a b f. order_on n x.place xs room a b f) x.opens x.call e

pub order_line : (n : ℕ) (q : List Tagged) → n ≤ 64 → ordered n 0 q ≡ true → Line n false 1 q
order_line n [] room e = over []
order_line n (x ∷ xs) room e =
    line_one n false 1 0 x.place xs room (λ h j. j) (λ o d h L. absurd (omega arith)) (λ a b f. order_on n x.place xs room a b f) x.opens x.call e

-- and back
order_waits : (n prev : ℕ) (cs : List Labelled) → prev ≤ 65 → ordered n prev (waiting cs) ≡ true
order_waits n prev [] h = refl
order_waits n prev (c ∷ cs) h = rw (le-leb prev 65 h) (order_waits n 65 cs (omega arith))

pub line_order : (n : ℕ) {b : Bool} {k : ℕ} {q : List Tagged} (prev : ℕ) → n ≤ 64 → 1 ≤ k → prev ≤ k → prev ≤ 65 → (b ≡ true → (prev ≡ k) × (k ≤ n)) → Line n b k q → ordered n prev q ≡ true
line_order n prev room h up top m (over cs) = order_waits n prev cs top
line_order n {k = k} prev room h up top m (opens j o {q} lo hi r) =
    rw (ne_eqb j 65 (λ e. omega arith), le-leb 1 j (omega arith), le-leb j n hi, le-leb prev j (omega arith)) (line_order n j room (omega arith) (omega arith) (omega arith) (λ e. (refl, hi)) r)
line_order n {k = k} prev room h up top m (goes o {q} r) =
    rw ((m refl).0, ne_eqb k 65 (λ e. omega (arith, (m refl).1)), le-leb 1 k h, le-leb k n (m refl).1, le-leb k k (omega arith), eqb_same k) (line_order n k room h (omega arith) (omega (arith, (m refl).1)) (λ e. (refl, (m refl).1)) r)
