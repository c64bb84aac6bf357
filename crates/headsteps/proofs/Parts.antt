-- The parts of a step on a head unit: an act, a move turn by turn, a finish.
-- Assumes nothing.
use mathlib.Core.Path.{◌≡◌, refl, sym, ◌∙◌, ap, subst}
use Prim.Native.Nat.{ℕ, suc, ◌+◌, ◌-◌, ◌≤◌, ◌<◌}
use native.Mathlib.Numerals.{add-one}
use mathlib.Core.Bool.{Bool, true, false, cond}
use mathlib.Core.List.{List, []}
use lib.Dec.{ltb}
use lib.ListN.{length, get_or, set}
use Rattle.graph.specs.declared.act.Act.{Act}
use Rattle.graph.specs.declared.keys.Keys.{Keys}
use Rattle.graph.specs.Acts.{is_map, new_value, new_links, new_held, result_value}
use Rattle.graph.specs.Nodes.{Node, Result, act_on, act_by, results_for, stored}
use Rattle.graph.specs.OneAtATime.{op_of}
use Rattle.graph.specs.Packed.{listed, packed, targets_in}
use Rattle.graph.specs.Targets.{left_of}
use Rattle.graph.specs.Sessions.{Session, store}
use Rattle.graph.proofs.AffineLaws.{map_of}
use Rattle.graph.proofs.KeyLaws.{listed_packed}
use Rattle.flat.specs.Flat.{Tagged, Flat, flat}
use Rattle.flat.specs.Inner.Nested.{nest, of_op}
use Rattle.flat.specs.Inner.Queues.{labels_in}
use Rattle.flat.specs.Inner.FlatSteps.{alter, map_from, no_op, no_node, open_as, with_op, with_queue, act_at, take_out, finish_place, hand_on, first_in}
use Rattle.flat.proofs.Turns.{alter_length, map_from_next, first_stop, first_next, first_end}
use Rattle.flat.proofs.Facts.{labels_room}
use Rattle.valid.specs.Inner.Decoded.{labels_of}
use Rattle.state.specs.declared.nodes.Body.{Body}
use Rattle.state.specs.declared.operation.Operation.{Operation}
use Rattle.state.specs.Inner.Operations.{op_value, Carries, Bounded}
use Rattle.state.specs.Inner.Results.{IsBody, node_with}
use Rattle.state.specs.Inner.State.{flat_in, Shows, with_nodes, with_results}
use Rattle.state.specs.Inner.ValidImage.{ValidImage}
use Rattle.headsteps.specs.Inner.Heads.{body_value}
use native.Mathlib.Omega.{arith}

-- A SEARCH from h, which is at i
abbrev pub Searched : (Tagged → Bool) → List Tagged → ℕ → ℕ → ℕ → Type 0
Searched p q h e i = first_in p i e q ≡ first_in p h e q

module _ (p : Tagged → Bool) (q : List Tagged) (h e : ℕ) (fits : e ≤ length q) (i : ℕ) (so : Searched p q h e i) where
  pub found : i < e → p (get_or q i no_op) ≡ true → Bounded (first_in p h e q) e i
  found l t = record { is = sym (first_stop p q e fits i no_op l t) ∙ so; within = omega arith }

  pub passed : i < e → p (get_or q i no_op) ≡ false → Searched p q h e (i + 1)
  passed l t = ap (λ (m : ℕ). first_in p m e q) (add-one i) ∙ sym (first_next p q e fits i no_op l t) ∙ so

  pub ended : i ≡ e → Bounded (first_in p h e q) e e
  ended z = record { is = sym (first_end p q e fits) ∙ ap (λ (m : ℕ). first_in p m e q) (sym z) ∙ so; within = omega arith }

-- AN ACT
-- a map holds what it held
pub map_holds : (a : Act) (h v : ℕ) (ls : List ℕ) → is_map a ≡ true → new_held a h v ls ≡ h
map_holds a h v ls e = ap (λ (m : Act). new_held m h v ls) (map_of a e)

body_is : (n : Node) (b : Body) → IsBody n b → body_value b ≡ n
body_is n b s = λ i. record { key = s.key i; value = s.value i; links = s.links.is i }

node_acted : (n : Node) (b : Body) → IsBody n b → (a : Act) (v : ℕ) (ls : Keys) → v ≡ new_value a b.value → ls ≡ packed (new_links a (listed b.links))
    → node_with n v (listed ls) ≡ record { key = n.key; value = new_value a n.value; links = new_links a n.links }
node_acted n b s a v ls ve le =
    let values : v ≡ new_value a n.value = ve ∙ ap (new_value a) s.value in
    let links : listed ls ≡ new_links a n.links = ap listed le ∙ listed_packed (new_links a (listed b.links)) ∙ ap (new_links a) s.links.is in
    λ i. record { key = n.key; value = values i; links = links i }

-- the node is written first, and then the operation
module _ (f : Flat) (k p : ℕ) (o : Operation) (b : Body) (carries : Carries (get_or f.queue p no_op).call o) (body : IsBody (get_or f.nodes (k - 1) no_node) b) where
  pub act_shown : (v : ℕ) (ls : Keys) (a : Operation) (t u : List ℕ) → v ≡ new_value o.act b.value → ls ≡ packed (new_links o.act (listed b.links))
      → Shows (with_nodes f (set f.nodes (k - 1) (node_with (get_or f.nodes (k - 1) no_node) v (listed ls)))) t
      → Carries (op_of (act_by (op_value o) (body_value b))) a
      → Shows (with_queue (flat_in t) (set (flat_in t).queue p (with_op (get_or (flat_in t).queue p no_op) (op_value a)))) u
      → Shows (act_at k p (get_or f.queue p no_op) (get_or f.nodes (k - 1) no_node) f) u
  act_shown v ls a t u ve le first acted second =
      let x : Tagged = get_or f.queue p no_op in
      let n : Node = get_or f.nodes (k - 1) no_node in
      let node : node_with n v (listed ls) ≡ act_on (op_value o) n = node_acted n b body o.act v ls ve le in
      let call : op_value a ≡ act_by (op_value o) n = sym (ap (of_op (op_value a) (λ q. q)) acted.is) ∙ ap (act_by (op_value o)) (body_is n b body) in
      subst (λ (g : Flat). Shows g u)
      ((λ i. record { nodes = set f.nodes (k - 1) (node i); queue = set f.queue p (with_op x (call i)); results = f.results; last = f.last })
      ∙ (λ i. act_at k p (record { place = x.place; opens = x.opens; call = sym carries.is i }) n f))
      (subst (λ (g : Flat). Shows (with_queue g (set g.queue p (with_op (get_or g.queue p no_op) (op_value a)))) u) first.shows second)

-- A MOVE from h, which is at j: t is the image by then
abbrev pub Moved : List ℕ → (Tagged → Tagged) → ℕ → ℕ → List ℕ → Type 0
Moved s f h j t = Shows (with_queue (flat_in s) (map_from f h j (flat_in s).queue)) t

module _ (s : List ℕ) (f : Tagged → Tagged) (h : ℕ) where
  module _ (j : ℕ) (t : List ℕ) (low : h ≤ j) (inside : j < length (flat_in s).queue) (so : Moved s f h j t) where
    pub moved_next : (u : List ℕ) → Shows (with_queue (flat_in t) (alter j f (flat_in t).queue)) u → Moved s f h (j + 1) u
    moved_next u w =
        let q : List Tagged = (flat_in s).queue in
        subst (λ (l : List Tagged). Shows (with_queue (flat_in s) l) u) (map_from_next f h j q no_op low inside ∙ ap (λ (m : ℕ). map_from f h m q) (sym (add-one j)))
        (subst (λ (g : Flat). Shows (with_queue g (alter j f g.queue)) u) so.shows w)

-- A FINISH
module _ (p e : ℕ) (x : Tagged) (q : List Tagged) where
  pub hand_length : length (hand_on p e x q) ≡ length q
  hand_length = go (ltb (suc p) e)
    where
      go : (b : Bool) → length (cond b (alter (suc p) (open_as x.opens) q) q) ≡ length q
      go true = alter_length (open_as x.opens) (suc p) q
      go false = refl

-- the labels of an operation have room among the results
pub room_for : (image : List ℕ) (p : ℕ) (o : Operation) → ValidImage image → p < length (flat_in image).queue → Carries (get_or (flat_in image).queue p no_op).call o
    → length (flat_in image).results + length (labels_of o.labels) ≤ 64
room_for image p o holds-valid h carries =
    let s : Session = nest (flat_in image) in
    let within : p < length (flat s).queue = subst (λ (f : Flat). p < length f.queue) (sym holds-valid.flat) h in
    subst (λ (l : List ℕ). length (flat_in image).results + length l ≤ 64)
    (ap (λ (f : Flat). labels_in (get_or f.queue p no_op).call) holds-valid.flat ∙ ap labels_in carries.is)
    (labels_room s holds-valid.valid p within)

-- the operation is taken out first, and then its results are stored
pub finish_shown : (f : Flat) (p e : ℕ) (o : Operation) (v : ℕ) (left : Keys) (t u : List ℕ) → Carries (get_or f.queue p no_op).call o → v ≡ result_value o.act o.held
    → left ≡ packed (left_of (targets_in o.targets))
    → Shows (with_queue f (take_out p e (get_or f.queue p no_op) f.queue)) t
    → Shows (with_results (flat_in t) (store (results_for (labels_of o.labels) v (listed left)) (flat_in t).results)) u
    → Shows (finish_place p e (get_or f.queue p no_op) f) u
finish_shown f p e o v left t u carries ve le first second =
    let x : Tagged = get_or f.queue p no_op in
    let keys : listed left ≡ left_of (targets_in o.targets) = ap listed le ∙ listed_packed (left_of (targets_in o.targets)) in
    let gone : results_for (labels_of o.labels) v (listed left) ≡ of_op [] stored x.call =
    (λ i. results_for (labels_of o.labels) (ve i) (keys i)) ∙ ap (of_op [] stored) (sym carries.is) in
    subst (λ (rs : List Result). Shows (record { nodes = f.nodes; queue = take_out p e x f.queue; results = store rs f.results; last = f.last }) u) gone
    (subst (λ (g : Flat). Shows (with_results g (store (results_for (labels_of o.labels) v (listed left)) g.results)) u) first.shows second)
