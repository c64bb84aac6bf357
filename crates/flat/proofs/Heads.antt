-- Steps on a head unit, flat and nested: move, realise, finish.
-- Assumes nothing.
use mathlib.Core.Path.{◌≡◌, refl, sym, ◌∙◌, ap, ap₂}
use Prim.Native.Nat.{ℕ, suc, ◌+◌, ◌-◌, ◌≤◌, ◌<◌}
use native.Mathlib.Omega.{arith}
use mathlib.Core.Bool.{Bool, true, false, cond, ◌&&◌, ◌||◌, true≢false}
use mathlib.Core.List.{List, [], ◌∷◌, ◌++◌, append_assoc, append-nil, map}
use lib.Dec.{eqb}
use lib.ListN.{length, get_or, length-append}
use lib.Seq.{slice, take-append_seam, get_or_at, set_at}
use borrow.Author.Tests.{ne_eqb, eq-eqb, lt-ltb, le-ltb}
use Rattle.graph.specs.Refusals.{Answer, refused, done, map_done}
use Rattle.graph.specs.KeyLists.{is_nil}
use Rattle.graph.specs.Nodes.{Node, Op, Result, hits, act_on, act_by, onward, may_finish, stored}
use Rattle.graph.specs.declared.task.Sought.TheVariants.{Acts, Finishes}
use Rattle.graph.specs.Tasks.{rule_for, rule_acts, rule_finishes}
use Rattle.graph.proofs.Tasks.{acts_exactly, finishes_exactly}
use Rattle.graph.specs.Sessions.{Station, station, Session, store}
use Rattle.graph.specs.Steps.{Change, only, any, any_hits, FirstOp, first_op, onwards, move_at, after_realise, realise_at, after_finish, finish_at, put_unit, move, realise, finish, step}
use Rattle.flat.specs.Flat.{Tagged, Flat, standing, tag_unit, tag_units, queue_of, nodes_of, flat}
use Rattle.flat.specs.Inner.Queues.{first_index, remove_at}
use Rattle.flat.specs.Inner.Nested.{at_place, Full, Keyed}
use Rattle.flat.proofs.Places.{No, find_none, find_at, drop_past, drop_mid, slice_mid, no_queue, beyond_below, length_nodes}
use Rattle.flat.proofs.Nesting.{flat_session}
use Rattle.flat.specs.Inner.FlatSteps.{alter, map_from, first_in, no_op, no_node, move_on, open_as, sought_at, unit_from, head_unit, on_place, on_first_op, move_flat, act_at, act_flat, realise_flat, take_out, finish_place, leave_flat, finish_flat, flat_step}
use Rattle.flat.proofs.Focus.{put, back, Agrees, step_focus}
use Rattle.flat.proofs.UnitPlaces.{unit_none, unit_here, start}

module _ {A : Type 0} where
  map_from_mid : (f : A → A) (a b c : List A) → map_from f (length a) (length (a ++ b)) (a ++ (b ++ c)) ≡ a ++ (map f b ++ c)
  map_from_mid f a b c i = take-append_seam a (b ++ c) i ++ (map f (slice_mid a b c i) ++ drop_mid a b c i)

pub regroup : (B U T A : List Tagged) → (B ++ (U ++ T)) ++ A ≡ B ++ (U ++ (T ++ A))
regroup B U T A = append_assoc B (U ++ T) A ∙ ap (λ (x : List Tagged). B ++ x) (append_assoc U T A)

module _ (k : ℕ) (g : ℕ → ℕ → Flat → Answer Flat) (F : Node → List Station → List (List Op) → Answer Change) (rs : List Result) (l : ℕ) where
  -- the two steps agree on a head unit
  abbrev pub UnitAgrees : Type 0
  UnitAgrees = (N : List Node) (A : List Tagged) (n : Node) (o : Op) (os : List Op) (us : List (List Op)) (ss : List Station) → n.key ≡ k → k ≡ suc (length ss) → Keyed ss
      → g (length (queue_of ss)) (length (queue_of ss ++ tag_unit k true (o ∷ os))) (flat_session ((nodes_of ss ++ (n ∷ [])) ++ N) (queue_of ss ++ (tag_unit k true (o ∷ os) ++ (tag_units k us ++ A))) rs l)
      ≡ map_done (back N A rs l) (F n ss ((o ∷ os) ∷ us))

  module _ (nil : (n : Node) (ss : List Station) → F n ss [] ≡ refused 21) (h : UnitAgrees) where
    heads : (N : List Node) (A : List Tagged) (n : Node) (us : List (List Op)) (ss : List Station) → n.key ≡ k → k ≡ suc (length ss) → Full us → Keyed ss → No (at_place k) A
        → head_unit k g (put N A rs l (station n us ∷ ss)) ≡ map_done (back N A rs l) (F n ss us)
    heads N A n us ss e d f K a =
        let ns : List Node = (nodes_of ss ++ (n ∷ [])) ++ N in
        let b : No (at_place k) (queue_of ss) = no_queue k ss K (beyond_below k ss (omega arith)) in
        ap (λ (q : List Tagged). head_unit k g (flat_session ns q rs l)) (append_assoc (queue_of ss) (tag_units n.key us) A ∙ ap (λ (j : ℕ). queue_of ss ++ (tag_units j us ++ A)) e)
        ∙ start k (λ h e q. g h e (flat_session ns (queue_of ss ++ (tag_units k us ++ A)) rs l)) 1 (queue_of ss) A us f b a
        ∙ here us f
      where
        here : (us : List (List Op)) → Full us → unit_from k (λ h e q. g h e (flat_session ((nodes_of ss ++ (n ∷ [])) ++ N) (queue_of ss ++ (tag_units k us ++ A)) rs l)) 1 (length (queue_of ss)) (queue_of ss ++ (tag_units k us ++ A)) ≡ map_done (back N A rs l) (F n ss us)
        here [] f = rw (nil n ss) (unit_none k (λ h e q. g h e (flat_session ((nodes_of ss ++ (n ∷ [])) ++ N) (queue_of ss ++ A) rs l)) 1 (queue_of ss) A a)
        here ([] ∷ us) f = absurd (true≢false f.0)
        here ((o ∷ os) ∷ us) f =
            ap (λ (q : List Tagged). unit_from k (λ h e z. g h e (flat_session ((nodes_of ss ++ (n ∷ [])) ++ N) (queue_of ss ++ q) rs l)) 1 (length (queue_of ss)) (queue_of ss ++ q)) (append_assoc (tag_unit k true (o ∷ os)) (tag_units k us) A)
            ∙ unit_here k (λ h e q. g h e (flat_session ((nodes_of ss ++ (n ∷ [])) ++ N) (queue_of ss ++ (tag_unit k true (o ∷ os) ++ (tag_units k us ++ A))) rs l)) (queue_of ss) o os us A f.1 a
            ∙ h N A n o os us ss e d K

    pub head_agrees : Agrees k (head_unit k g) (λ s ss. F s.node ss s.units) rs l
    head_agrees N A s ss e K a = heads N A s.node s.units ss e (sym e ∙ K.0.0) K.1.0 (K.0.1, K.1.1) a

-- WHAT A STEP LOOKS FOR: the rule's acts and finishes are the nested steps' tests
acts_same : (k : ℕ) (n : Node) → n.key ≡ k → (d : Bool) (o : Op) → hits o n ≡ sought_at Acts k (standing k d o)
acts_same k n key d o = sym (acts_exactly o n (eqb k 1)) ∙ ap (λ (j : ℕ). rule_acts (rule_for o j (eqb k 1))) key

last_key : (k : ℕ) (ss : List Station) → k ≡ suc (length ss) → is_nil ss ≡ eqb k 1
last_key k [] d = sym (eq-eqb k 1 d)
last_key k (s ∷ ss) d = sym (ne_eqb k 1 (λ e. omega arith))

finishes_same : (k : ℕ) (n : Node) (ss : List Station) → n.key ≡ k → k ≡ suc (length ss) → (d : Bool) (o : Op) → may_finish o n (is_nil ss) ≡ sought_at Finishes k (standing k d o)
finishes_same k n ss key stands d o =
    sym (finishes_exactly o n (is_nil ss)) ∙ ap₂ (λ (j : ℕ) (z : Bool). rule_finishes (rule_for o j z)) key (last_key k ss stands)

-- MOVE
pub any_ops : (k : ℕ) (b : Bool) (u : List Op) (n : Node) → n.key ≡ k → any (sought_at Acts k) (tag_unit k b u) ≡ any_hits u n
any_ops k b [] n e = refl
any_ops k b (o ∷ os) n e = ap₂ (λ (x y : Bool). x || y) (sym (acts_same k n e b o)) (any_ops k false os n e)

pub moved_ops : (j k : ℕ) (b : Bool) (u : List Op) → map (move_on j) (tag_unit k b u) ≡ tag_unit j b (onwards u)
moved_ops j k b [] = refl
moved_ops j k b (o ∷ os) = ap (λ (r : List Tagged). standing j b (onward o) ∷ r) (moved_ops j k false os)

pub tag_units_append : (k : ℕ) (us vs : List (List Op)) → tag_units k (us ++ vs) ≡ tag_units k us ++ tag_units k vs
tag_units_append k [] vs = refl
tag_units_append k (u ∷ us) vs = ap (λ (r : List Tagged). tag_unit k true u ++ r) (tag_units_append k us vs) ∙ sym (append_assoc (tag_unit k true u) (tag_units k us) (tag_units k vs))

move_queue : (j k : ℕ) (Q : List Tagged) (vs us : List (List Op)) (u : List Op) (A : List Tagged) → (Q ++ tag_units j vs) ++ (map (move_on j) (tag_unit k true u) ++ (tag_units k us ++ A)) ≡ ((Q ++ tag_units j (vs ++ (onwards u ∷ []))) ++ tag_units k us) ++ A
move_queue j k Q vs us u A = simp (moved_ops, tag_units_append, append_assoc, append-nil)

module _ (k : ℕ) (rs : List Result) (l : ℕ) where
  move_unit_law : UnitAgrees k (move_flat k) move_at rs l
  move_unit_law N A n o os us [] e d K = rw (eq-eqb k 1 d)
  move_unit_law N A n o os us (s ∷ ss) e d K =
      ap (λ (b : Bool). cond b (refused 22) (done new)) test ∙ go (any_hits (o ∷ os) n)
    where
      B : List Tagged
      B = queue_of (s ∷ ss)

      U : List Tagged
      U = tag_unit k true (o ∷ os)

      R : List Tagged
      R = tag_units k us ++ A

      new : Flat
      new = flat_session ((nodes_of (s ∷ ss) ++ (n ∷ [])) ++ N) (map_from (move_on (k - 1)) (length B) (length (B ++ U)) (B ++ (U ++ R))) rs l

      test : (eqb k 1 || any (sought_at Acts k) (slice (length B) (length (B ++ U)) (B ++ (U ++ R)))) ≡ any_hits (o ∷ os) n
      test = rw (ne_eqb k 1 (λ x. omega arith), slice_mid B U R) (any_ops k true (o ∷ os) n e)

      go : (b : Bool) → cond b (refused 22) (done new) ≡ map_done (back N A rs l) (cond b (refused 22) (done (only (station n us ∷ station s.node (s.units ++ (onwards (o ∷ os) ∷ [])) ∷ ss))))
      go true = refl
      go false = ap (λ (x : List Tagged). done (flat_session ((nodes_of (s ∷ ss) ++ (n ∷ [])) ++ N) x rs l))
          (map_from_mid (move_on (k - 1)) (queue_of (s ∷ ss)) (tag_unit k true (o ∷ os)) (tag_units k us ++ A)
          ∙ ap (λ (j : ℕ). queue_of (s ∷ ss) ++ (map (move_on j) (tag_unit k true (o ∷ os)) ++ (tag_units k us ++ A))) (omega (arith, K.0.0))
          ∙ move_queue s.node.key k (queue_of ss) s.units us (o ∷ os) A
          ∙ ap (λ (j : ℕ). ((queue_of ss ++ tag_units s.node.key (s.units ++ (onwards (o ∷ os) ∷ []))) ++ tag_units j us) ++ A) (sym e))

  pub move_agrees : Agrees k (head_unit k (move_flat k)) (λ s ss. move_at s.node ss s.units) rs l
  move_agrees = head_agrees k (move_flat k) move_at rs l (λ n ss. refl) move_unit_law

pub move_bridge : (k : ℕ) (s : Session) → Keyed s.stations → length s.stations ≤ 64 → flat_step (move k) (flat s) ≡ map_done flat (step (move k) s)
move_bridge k s K room = step_focus k (head_unit k (move_flat k)) (λ s ss. move_at s.node ss s.units) s K room (move_agrees k s.results s.last)

-- THE FIRST OF A UNIT
pub data First (P : Op → Bool) : List Op → Type 0 where
  found : (a : List Op) (o : Op) (b : List Op) → No P a → P o ≡ true → First P (a ++ (o ∷ b))
  none : (u : List Op) → No P u → First P u

pub first : (P : Op → Bool) (u : List Op) → First P u
first P [] = none [] tt
first P (o ∷ os) = go (P o) refl (first P os)
  where
    go : (c : Bool) → P o ≡ c → {v : List Op} → First P v → First P (o ∷ v)
    go true e {v} f = found [] o v tt e
    go false e (found a x b h y) = found (o ∷ a) x b (e, h) y
    go false e (none v h) = none (o ∷ v) (e, h)

pub ops_split : (k : ℕ) (c : Bool) (a : List Op) (o : Op) (b : List Op) → tag_unit k c (a ++ (o ∷ b)) ≡ tag_unit k c a ++ (standing k (c && is_nil a) o ∷ tag_unit k false b)
ops_split k true [] o b = refl
ops_split k false [] o b = refl
ops_split k true (x ∷ a) o b = ap (λ (r : List Tagged). standing k true x ∷ r) (ops_split k false a o b)
ops_split k false (x ∷ a) o b = ap (λ (r : List Tagged). standing k false x ∷ r) (ops_split k false a o b)

pub no_tagged : (P : Op → Bool) (Q : Tagged → Bool) (k : ℕ) (c : Bool) → ((d : Bool) (o : Op) → P o ≡ Q (standing k d o)) → (a : List Op) → No P a → No Q (tag_unit k c a)
no_tagged P Q k c f [] h = tt
no_tagged P Q k c f (o ∷ os) h = (sym (f c o) ∙ h.0, no_tagged P Q k false f os h.1)

module _ (P : Tagged → Bool) (B : List Tagged) where
  pub first_at_law : (X : List Tagged) (y : Tagged) (Y R : List Tagged) → No P X → P y ≡ true → first_in P (length B) (length (B ++ (X ++ (y ∷ Y)))) (B ++ ((X ++ (y ∷ Y)) ++ R)) ≡ length (B ++ X)
  first_at_law X y Y R h e = ap (λ (z : List Tagged). length B + first_index P z) (slice_mid B (X ++ (y ∷ Y)) R) ∙ ap (λ (m : ℕ). length B + m) (find_at P X y Y h e) ∙ sym (length-append B X)

  pub first_none : (U R : List Tagged) → No P U → first_in P (length B) (length (B ++ U)) (B ++ (U ++ R)) ≡ length (B ++ U)
  first_none U R h = ap (λ (z : List Tagged). length B + first_index P z) (slice_mid B U R) ∙ ap (λ (m : ℕ). length B + m) (find_none P U h) ∙ sym (length-append B U)

pub regroup_at : (B X : List Tagged) (y : Tagged) (Y R : List Tagged) → B ++ ((X ++ (y ∷ Y)) ++ R) ≡ (B ++ X) ++ (y ∷ (Y ++ R))
regroup_at B X y Y R = simp append_assoc

pub before_end : (B X : List Tagged) (y : Tagged) (Y : List Tagged) → length (B ++ X) < length (B ++ (X ++ (y ∷ Y)))
before_end B X y Y = simp length-append (omega arith)

first_found : (P : Op → Bool) (a : List Op) (o : Op) (b : List Op) → No P a → P o ≡ true → first_op P (a ++ (o ∷ b)) ≡ done (record { before = a; op = o; after = b })
first_found P [] o b h e = rw e
first_found P (x ∷ a) o b h e = rw (h.0, first_found P a o b h.1 e)

first_refused : (P : Op → Bool) (u : List Op) → No P u → first_op P u ≡ refused 22
first_refused P [] h = refl
first_refused P (x ∷ a) h = rw (h.0, first_refused P a h.1)

-- the two steps agree on the first that a rule holds of
module _ (k : ℕ) (rs : List Result) (l : ℕ) (N : List Node) (A : List Tagged) (n : Node) (us : List (List Op)) (ss : List Station) (P : Op → Bool) (Q : Tagged → Bool) (same : (d : Bool) (o : Op) → P o ≡ Q (standing k d o)) (g : ℕ → ℕ → Flat → Flat) (G : FirstOp → Change) where
  abbrev FoundAgrees : Type 0
  FoundAgrees = (a : List Op) (o : Op) (b : List Op)
      → g (length (queue_of ss ++ tag_unit k true a)) (length (queue_of ss ++ (tag_unit k true a ++ (standing k (is_nil a) o ∷ tag_unit k false b))))
      (flat_session ((nodes_of ss ++ (n ∷ [])) ++ N) ((queue_of ss ++ tag_unit k true a) ++ (standing k (is_nil a) o ∷ (tag_unit k false b ++ (tag_units k us ++ A)))) rs l)
      ≡ back N A rs l (G (record { before = a; op = o; after = b }))

  first_agrees : FoundAgrees → {u : List Op} → First P u
      → on_first_op Q g (length (queue_of ss)) (length (queue_of ss ++ tag_unit k true u)) (flat_session ((nodes_of ss ++ (n ∷ [])) ++ N) (queue_of ss ++ (tag_unit k true u ++ (tag_units k us ++ A))) rs l)
      ≡ map_done (back N A rs l) (map_done G (first_op P u))
  first_agrees f (none u h) =
      let B : List Tagged = queue_of ss in
      let U : List Tagged = tag_unit k true u in
      let R : List Tagged = tag_units k us ++ A in
      let s : Flat = flat_session ((nodes_of ss ++ (n ∷ [])) ++ N) (B ++ (U ++ R)) rs l in
      rw (first_refused P u h)
      (ap (λ (p : ℕ). on_place g (length (B ++ U)) p s) (first_none Q B U R (no_tagged P Q k true same u h)) ∙ rw (le-ltb (length (B ++ U)) (length (B ++ U)) (omega arith)))
  first_agrees f (found a o b h e) =
      let B : List Tagged = queue_of ss in
      let X : List Tagged = tag_unit k true a in
      let y : Tagged = standing k (is_nil a) o in
      let Y : List Tagged = tag_unit k false b in
      let R : List Tagged = tag_units k us ++ A in
      let ns : List Node = (nodes_of ss ++ (n ∷ [])) ++ N in
      rw (first_found P a o b h e)
      (ap (λ (U : List Tagged). on_first_op Q g (length B) (length (B ++ U)) (flat_session ns (B ++ (U ++ R)) rs l)) (ops_split k true a o b)
      ∙ ap (λ (p : ℕ). on_place g (length (B ++ (X ++ (y ∷ Y)))) p (flat_session ns (B ++ ((X ++ (y ∷ Y)) ++ R)) rs l))
      (first_at_law Q B X y Y R (no_tagged P Q k true same a h) (sym (same (is_nil a) o) ∙ e))
      ∙ ap (λ (q : List Tagged). on_place g (length (B ++ (X ++ (y ∷ Y)))) (length (B ++ X)) (flat_session ns q rs l)) (regroup_at B X y Y R)
      ∙ rw (lt-ltb (length (B ++ X)) (length (B ++ (X ++ (y ∷ Y)))) (before_end B X y Y)) (ap done (f a o b)))

-- REALISE
act_at_law : (k p : ℕ) (C : List Node) (n : Node) (N : List Node) (D : List Tagged) (b : Bool) (o : Op) (E : List Tagged) (rs : List Result) (l : ℕ) → p ≡ length D → k - 1 ≡ length C
    → act_at k p (get_or (D ++ (standing k b o ∷ E)) p no_op) (get_or (C ++ (n ∷ N)) (k - 1) no_node) (flat_session (C ++ (n ∷ N)) (D ++ (standing k b o ∷ E)) rs l)
    ≡ flat_session (C ++ (act_on o n ∷ N)) (D ++ (standing k b (act_by o n) ∷ E)) rs l
act_at_law k p C n N D b o E rs l d c =
    let y : Tagged = standing k b o in
    (λ i. act_at k p (get_or_at D y E no_op p (sym d) i) (get_or_at C n N no_node (k - 1) (sym c) i) (flat_session (C ++ (n ∷ N)) (D ++ (y ∷ E)) rs l))
    ∙ (λ i. flat_session (set_at C n N (act_on o n) (k - 1) (sym c) i) (set_at D y E (standing k b (act_by o n)) p (sym d) i) rs l)

pub regroup_key : (j k : ℕ) → j ≡ k → (B : List Tagged) (u : List Op) (us : List (List Op)) (A : List Tagged) → B ++ (tag_unit k true u ++ (tag_units k us ++ A)) ≡ (B ++ (tag_unit j true u ++ tag_units j us)) ++ A
regroup_key j k e B u us A = sym (regroup B (tag_unit k true u) (tag_units k us) A) ∙ ap (λ (j : ℕ). (B ++ (tag_unit j true u ++ tag_units j us)) ++ A) (sym e)

module _ (k : ℕ) (rs : List Result) (l : ℕ) where
  realise_first : UnitAgrees k (realise_flat k) realise_at rs l
  realise_first N A n o os us ss key stands K =
      first_agrees k rs l N A n us ss (λ o. hits o n) (sought_at Acts k) (acts_same k n key) (act_flat k) (after_realise n us ss) acted (first (λ o. hits o n) (o ∷ os))
    where
      acted : FoundAgrees k rs l N A n us ss (λ o. hits o n) (sought_at Acts k) (acts_same k n key)
          (act_flat k) (after_realise n us ss)
      acted a o b =
          let D : List Tagged = queue_of ss ++ tag_unit k true a in
          let y : Tagged = standing k (is_nil a) o in
          let Y : List Tagged = tag_unit k false b in
          let R : List Tagged = tag_units k us ++ A in
          ap (λ (ns : List Node). act_at k (length D) (get_or (D ++ (y ∷ (Y ++ R))) (length D) no_op) (get_or ns (k - 1) no_node) (flat_session ns (D ++ (y ∷ (Y ++ R))) rs l)) (append_assoc (nodes_of ss) (n ∷ []) N)
          ∙ act_at_law k (length D) (nodes_of ss) n N D (is_nil a) o (Y ++ R) rs l refl (omega (arith, length_nodes ss))
          ∙ (λ i. flat_session (sym (append_assoc (nodes_of ss) (act_on o n ∷ []) N) i)
          ((sym (regroup_at (queue_of ss) (tag_unit k true a) (standing k (is_nil a) (act_by o n)) Y R) ∙ ap (λ (U : List Tagged). queue_of ss ++ (U ++ R)) (sym (ops_split k true a (act_by o n) b)) ∙ regroup_key n.key k key (queue_of ss) (a ++ (act_by o n ∷ b)) us A) i) rs l)

pub realise_agrees : (k : ℕ) (rs : List Result) (l : ℕ) → Agrees k (head_unit k (realise_flat k)) (λ s ss. realise_at s.node ss s.units) rs l
realise_agrees k rs l = head_agrees k (realise_flat k) realise_at rs l (λ n ss. refl) (realise_first k rs l)

pub realise_bridge : (k : ℕ) (s : Session) → Keyed s.stations → length s.stations ≤ 64 → flat_step (realise k) (flat s) ≡ map_done flat (step (realise k) s)
realise_bridge k s K room = step_focus k (head_unit k (realise_flat k)) (λ s ss. realise_at s.node ss s.units) s K room (realise_agrees k s.results s.last)

-- FINISH
pub remove_seam : (D : List Tagged) (y : Tagged) (E : List Tagged) → remove_at (length D) (D ++ (y ∷ E)) ≡ D ++ E
remove_seam D y E i = take-append_seam D (y ∷ E) i ++ drop_past D y E i

pub alter_past : (f : Tagged → Tagged) (D : List Tagged) (y z : Tagged) (E : List Tagged) → alter (suc (length D)) f (D ++ (y ∷ (z ∷ E))) ≡ D ++ (y ∷ (f z ∷ E))
alter_past f [] y z E = refl
alter_past f (x ∷ D) y z E = ap (λ (r : List Tagged). x ∷ r) (alter_past f D y z E)

tag_units_put : (k : ℕ) (u : List Op) (us : List (List Op)) → tag_units k (put_unit u us) ≡ tag_unit k true u ++ tag_units k us
tag_units_put k [] us = refl
tag_units_put k (o ∷ os) us = refl

-- what is left of a unit
out_at : (k : ℕ) (B : List Tagged) (a : List Op) (o : Op) (b : List Op) (R : List Tagged)
    → take_out (length (B ++ tag_unit k true a)) (length (B ++ (tag_unit k true a ++ (standing k (is_nil a) o ∷ tag_unit k false b)))) (standing k (is_nil a) o) ((B ++ tag_unit k true a) ++ (standing k (is_nil a) o ∷ (tag_unit k false b ++ R)))
    ≡ B ++ (tag_unit k true (a ++ b) ++ R)
out_at k B a o [] R =
    let X : List Tagged = tag_unit k true a in
    let y : Tagged = standing k (is_nil a) o in
    rw (le-ltb (suc (length (B ++ X))) (length (B ++ (X ++ (y ∷ [])))) (simp length-append (omega arith)))
    (remove_seam (B ++ X) y R ∙ append_assoc B X R ∙ ap (λ (c : List Op). B ++ (tag_unit k true c ++ R)) (sym (append-nil a)))
out_at k B a o (x ∷ b) R =
    let X : List Tagged = tag_unit k true a in
    let y : Tagged = standing k (is_nil a) o in
    let z : Tagged = standing k false x in
    let Y : List Tagged = tag_unit k false b in
    rw (lt-ltb (suc (length (B ++ X))) (length (B ++ (X ++ (y ∷ (z ∷ Y))))) (simp length-append (omega arith)))
    (ap (remove_at (length (B ++ X))) (alter_past (open_as (is_nil a)) (B ++ X) y z (Y ++ R))
    ∙ remove_seam (B ++ X) y (standing k (is_nil a) x ∷ (Y ++ R))
    ∙ sym (regroup_at B X (standing k (is_nil a) x) Y R)
    ∙ ap (λ (U : List Tagged). B ++ (U ++ R)) (sym (ops_split k true a x b)))

module _ (k : ℕ) (rs : List Result) (l : ℕ) where
  finish_first : UnitAgrees k (finish_flat k) finish_at rs l
  finish_first N A n o os us ss key stands K =
      first_agrees k rs l N A n us ss (λ o. may_finish o n (is_nil ss)) (sought_at Finishes k) (finishes_same k n ss key stands) leave_flat (after_finish n us ss) gone (first (λ o. may_finish o n (is_nil ss)) (o ∷ os))
    where
      gone : FoundAgrees k rs l N A n us ss (λ o. may_finish o n (is_nil ss)) (sought_at Finishes k) (finishes_same k n ss key stands)
          leave_flat (after_finish n us ss)
      gone a o b =
          let ns : List Node = (nodes_of ss ++ (n ∷ [])) ++ N in
          let D : List Tagged = queue_of ss ++ tag_unit k true a in
          let y : Tagged = standing k (is_nil a) o in
          let Y : List Tagged = tag_unit k false b in
          let R : List Tagged = tag_units k us ++ A in
          (λ i. finish_place (length D) (length (queue_of ss ++ (tag_unit k true a ++ (y ∷ Y)))) (get_or_at D y (Y ++ R) no_op (length D) refl i) (flat_session ns (D ++ (y ∷ (Y ++ R))) rs l))
          ∙ (λ i. flat_session ns
          ((out_at k (queue_of ss) a o b R ∙ regroup_key n.key k key (queue_of ss) (a ++ b) us A ∙ ap (λ (z : List Tagged). (queue_of ss ++ z) ++ A) (sym (tag_units_put n.key (a ++ b) us))) i) (store (stored o) rs) l)

pub finish_agrees : (k : ℕ) (rs : List Result) (l : ℕ) → Agrees k (head_unit k (finish_flat k)) (λ s ss. finish_at s.node ss s.units) rs l
finish_agrees k rs l = head_agrees k (finish_flat k) finish_at rs l (λ n ss. refl) (finish_first k rs l)

pub finish_bridge : (k : ℕ) (s : Session) → Keyed s.stations → length s.stations ≤ 64 → flat_step (finish k) (flat s) ≡ map_done flat (step (finish k) s)
finish_bridge k s K room = step_focus k (head_unit k (finish_flat k)) (λ s ss. finish_at s.node ss s.units) s K room (finish_agrees k s.results s.last)
