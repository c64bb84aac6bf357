-- Steps on a unit by number, flat and nested: join, split, swap, fuse. And every step.
-- Assumes nothing.
use mathlib.Core.Path.{◌≡◌, refl, sym, ◌∙◌, ap}
use Prim.Native.Nat.{ℕ, zero, suc, ◌+◌, ◌≤◌}
use native.Mathlib.Omega.{arith}
use mathlib.Core.Bool.{Bool, true, false, cond, ◌&&◌, true≢false}
use mathlib.Core.List.{List, [], ◌∷◌, ◌++◌, append_assoc}
use lib.Dec.{eqb, leb, ltb}
use lib.ListN.{length, get_or, set, length-append}
use lib.Seq.{take-append_seam, drop-append_seam, get_or-append_seam, set-append_seam}
use borrow.Author.Tests.{ne_eqb, eq-eqb, lt-ltb, le-ltb, le-leb}
use Rattle.graph.specs.Refusals.{Answer, refused, done, map_done}
use Rattle.graph.specs.Nodes.{Node, Op, Result}
use Rattle.graph.specs.Sessions.{Station, station, Session}
use Rattle.graph.specs.Steps.{Step, admit, realise, move, finish, join, split, swap, fuse, only, unit_at, pair_at, join_units, split_unit, on_singles, may_swap, swap_ops, may_fuse, fused, fuse_ops, on_units, step}
use Rattle.graph.proofs.UnitLaws.{Numbered, numbered_pair, numbered_unit}
use Rattle.flat.specs.Flat.{Tagged, standing, tag_unit, tag_units, queue_of, nodes_of, flat}
use Rattle.flat.specs.Inner.Queues.{first_index, remove_at}
use Rattle.flat.specs.Inner.Nested.{at_place, Full, Keyed}
use Rattle.flat.proofs.Places.{No, no_queue, beyond_below, length_ops, ends_units, is_at_law, is_not_at, end_of_law}
use Rattle.flat.proofs.Nesting.{flat_session}
use Rattle.flat.specs.Inner.FlatSteps.{alter, no_op, open_as, unit_from, with_next, pair_from, join_flat, split_flat, neighbours, swap_flat, fuse_flat, on_queue, flat_step}
use Rattle.flat.proofs.Focus.{back, Agrees, step_focus}
use Rattle.flat.proofs.UnitPlaces.{past, unit_none, unit_here, unit_next, start}
use Rattle.flat.proofs.Heads.{regroup_at, ops_split, remove_seam, move_bridge, realise_bridge, finish_bridge}
use Rattle.flat.proofs.Admits.{admit_bridge}
use Rattle.flat.proofs.Turns.{alter_seam}

module _ (k : ℕ) (g : ℕ → ℕ → List Tagged → Answer (List Tagged)) (f : ℕ → List (List Op) → Answer (List (List Op))) (num : Numbered f) where
  -- the two steps agree on the unit that stands after B
  abbrev pub HereAgrees : Type 0
  HereAgrees = (B A : List Tagged) (o : Op) (os : List Op) (us : List (List Op)) → Full us → No (at_place k) A
      → g (length B) (length (B ++ tag_unit k true (o ∷ os))) (B ++ (tag_unit k true (o ∷ os) ++ (tag_units k us ++ A))) ≡ map_done (λ xs. B ++ (tag_units k xs ++ A)) (f 1 ((o ∷ os) ∷ us))

  map_cons : (B A : List Tagged) (u : List Op) (x : Answer (List (List Op))) → map_done (λ xs. (B ++ tag_unit k true u) ++ (tag_units k xs ++ A)) x ≡ map_done (λ xs. B ++ (tag_units k xs ++ A)) (map_done (λ xs. u ∷ xs) x)
  map_cons B A u (refused r) = refl
  map_cons B A u (done xs) = ap done (simp append_assoc)

  module _ (h : HereAgrees) where
    pub run : (i : ℕ) (B A : List Tagged) (us : List (List Op)) → Full us → No (at_place k) A → unit_from k g i (length B) (B ++ (tag_units k us ++ A)) ≡ map_done (λ xs. B ++ (tag_units k xs ++ A)) (f i us)
    run zero B A us F a = rw (past k (B ++ (tag_units k us ++ A)), num.nought us)
    run (suc i) B A [] F a = rw (num.empty i) (unit_none k g (suc i) B A a)
    run (suc i) B A ([] ∷ us) F a = absurd (true≢false F.0)
    run (suc zero) B A ((o ∷ os) ∷ us) F a =
        ap (λ (q : List Tagged). unit_from k g 1 (length B) (B ++ q)) (append_assoc (tag_unit k true (o ∷ os)) (tag_units k us) A)
        ∙ unit_here k g B o os us A F.1 a
        ∙ h B A o os us F.1 a
    run (suc (suc i)) B A ((o ∷ os) ∷ us) F a =
        ap (λ (q : List Tagged). unit_from k g (suc (suc i)) (length B) (B ++ q)) (append_assoc (tag_unit k true (o ∷ os)) (tag_units k us) A)
        ∙ unit_next k g i B o os us A F.1 a
        ∙ ap (unit_from k g (suc i) (length (B ++ tag_unit k true (o ∷ os)))) (sym (append_assoc B (tag_unit k true (o ∷ os)) (tag_units k us ++ A)))
        ∙ run (suc i) (B ++ tag_unit k true (o ∷ os)) A us F.1 a
        ∙ map_cons B A (o ∷ os) (f (suc i) us)
        ∙ ap (map_done (λ xs. B ++ (tag_units k xs ++ A))) (sym (num.next i (o ∷ os) us))

    module _ (i : ℕ) (rs : List Result) (l : ℕ) where
      map_only : (N : List Node) (A : List Tagged) (n : Node) (ss : List Station) → n.key ≡ k → (ns : List Node) → ns ≡ (nodes_of ss ++ (n ∷ [])) ++ N → (x : Answer (List (List Op)))
          → map_done (λ q. flat_session ns q rs l) (map_done (λ xs. queue_of ss ++ (tag_units k xs ++ A)) x) ≡ map_done (back N A rs l) (map_done (λ us. only (station n us ∷ ss)) x)
      map_only N A n ss e ns d (refused r) = refl
      map_only N A n ss e ns d (done xs) = λ j. done (flat_session (d j) ((sym (append_assoc (queue_of ss) (tag_units k xs) A) ∙ ap (λ (z : ℕ). (queue_of ss ++ tag_units z xs) ++ A) (sym e)) j) rs l)

      pub units_agree : Agrees k (on_queue (unit_from k g i) k) (on_units (f i)) rs l
      units_agree N A s ss e K a =
          let ns : List Node = (nodes_of ss ++ (s.node ∷ [])) ++ N in
          let b : No (at_place k) (queue_of ss) = no_queue k ss (K.0.1, K.1.1) (beyond_below k ss (omega (arith, K.0.0))) in
          ap (λ (q : List Tagged). map_done (λ r. flat_session ns r rs l) (unit_from k g i (first_index (at_place k) q) q)) (append_assoc (queue_of ss) (tag_units s.node.key s.units) A ∙ ap (λ (j : ℕ). queue_of ss ++ (tag_units j s.units ++ A)) e)
          ∙ ap (map_done (λ r. flat_session ns r rs l)) (start k g i (queue_of ss) A s.units K.1.0 b a ∙ run i (queue_of ss) A s.units K.1.0 a)
          ∙ map_only N A s.node ss e ns refl (f i s.units)

-- TWO UNITS
module _ (k : ℕ) (g : ℕ → ℕ → ℕ → List Tagged → Answer (List Tagged)) (f : List Op → List Op → Answer (List (List Op))) where
  -- the two steps agree on two units that stand after B
  abbrev pub PairAgrees : Type 0
  PairAgrees = (B A : List Tagged) (o : Op) (os : List Op) (p : Op) (ps : List Op) (us : List (List Op))
      → g (length B) (length (B ++ tag_unit k true (o ∷ os))) (length ((B ++ tag_unit k true (o ∷ os)) ++ tag_unit k true (p ∷ ps))) ((B ++ tag_unit k true (o ∷ os)) ++ (tag_unit k true (p ∷ ps) ++ (tag_units k us ++ A)))
      ≡ map_done (λ xs. B ++ (tag_units k (xs ++ us) ++ A)) (f (o ∷ os) (p ∷ ps))

  map_map : (B A : List Tagged) (us : List (List Op)) (x : Answer (List (List Op))) → map_done (λ xs. B ++ (tag_units k (xs ++ us) ++ A)) x ≡ map_done (λ xs. B ++ (tag_units k xs ++ A)) (map_done (λ xs. xs ++ us) x)
  map_map B A us (refused r) = refl
  map_map B A us (done xs) = refl

  module _ (h : PairAgrees) where
    pub two_here : HereAgrees k (with_next k g) (λ i us. pair_at i f us) (numbered_pair f)
    two_here B A o os [] F a =
        let U : List Tagged = tag_unit k true (o ∷ os) in
        ap (with_next k g (length B) (length (B ++ U))) (sym (append_assoc B U A)) ∙ rw (is_not_at k (B ++ U) A a)
    two_here B A o os ([] ∷ us) F a = absurd (true≢false F.0)
    two_here B A o os ((p ∷ ps) ∷ us) F a =
        let U : List Tagged = tag_unit k true (o ∷ os) in
        let W : List Tagged = tag_unit k true (p ∷ ps) in
        let R : List Tagged = tag_units k us ++ A in
        ap (λ (q : List Tagged). with_next k g (length B) (length (B ++ U)) (B ++ (U ++ q))) (append_assoc W (tag_units k us) A)
        ∙ ap (with_next k g (length B) (length (B ++ U))) (sym (append_assoc B U (W ++ R)))
        ∙ rw (is_at_law k true (B ++ U) p (tag_unit k false ps ++ R), end_of_law k (B ++ U) true p ps R (ends_units k us A F.1 a))
        (h B A o os p ps us ∙ map_map B A us (f (o ∷ os) (p ∷ ps)))

pub pair_bridge : (k : ℕ) (g : ℕ → ℕ → ℕ → List Tagged → Answer (List Tagged)) (f : List Op → List Op → Answer (List (List Op))) → PairAgrees k g f → (i : ℕ) (rs : List Result) (l : ℕ) → Agrees k (on_queue (pair_from k g i) k) (on_units (pair_at i f)) rs l
pair_bridge k g f h i rs l = units_agree k (with_next k g) (λ i us. pair_at i f us) (numbered_pair f) (two_here k g f h) i rs l

-- JOIN
join_pair : (k : ℕ) → PairAgrees k join_flat join_units
join_pair k B A o os p ps us =
    let U : List Tagged = tag_unit k true (o ∷ os) in
    let R : List Tagged = tag_units k us ++ A in
    ap done
    (alter_seam (open_as false) (B ++ U) (standing k true p) (tag_unit k false ps ++ R)
    ∙ sym (regroup_at B U (standing k false p) (tag_unit k false ps) R)
    ∙ ap (λ (X : List Tagged). B ++ (X ++ R)) (sym (ops_split k true (o ∷ os) p ps))
    ∙ ap (λ (X : List Tagged). B ++ X) (sym (append_assoc (tag_unit k true ((o ∷ os) ++ (p ∷ ps))) (tag_units k us) A)))

pub join_bridge : (k i : ℕ) (s : Session) → Keyed s.stations → length s.stations ≤ 64 → flat_step (join k i) (flat s) ≡ map_done flat (step (join k i) s)
join_bridge k i s K room = step_focus k (on_queue (pair_from k join_flat i) k) (on_units (pair_at i join_units)) s K room (pair_bridge k join_flat join_units (join_pair k) i s.results s.last)

-- SPLIT
data Cut : ℕ → List Op → Type 0 where
  cut : (o : Op) (a : List Op) (x : Op) (b : List Op) → Cut (suc (length a)) (o ∷ (a ++ (x ∷ b)))
  nought : (u : List Op) → Cut zero u
  short : (j : ℕ) (u : List Op) → length u ≤ suc j → Cut (suc j) u

cut? : (j : ℕ) (u : List Op) → Cut j u
cut? zero u = nought u
cut? (suc j) [] = short j [] (omega arith)
cut? (suc j) (o ∷ []) = short j (o ∷ []) (omega arith)
cut? (suc zero) (o ∷ (x ∷ b)) = cut o [] x b
cut? (suc (suc j)) (o ∷ (x ∷ b)) = go (cut? (suc j) (x ∷ b))
  where
    go : {j : ℕ} {u : List Op} → Cut (suc j) u → Cut (suc (suc j)) (o ∷ u)
    go (cut x a y b) = cut o (x ∷ a) y b
    go (short j u h) = short (suc j) (o ∷ u) (omega arith)

split_unit_cut : (o : Op) (a : List Op) (x : Op) (b : List Op) → split_unit (suc (length a)) (o ∷ (a ++ (x ∷ b))) ≡ done ((o ∷ a) ∷ ((x ∷ b) ∷ []))
split_unit_cut o a x b =
    rw (le-leb 1 (suc (length a)) (omega arith), lt-ltb (suc (length a)) (suc (length (a ++ (x ∷ b)))) (omega (arith, length-append a (x ∷ b))))
    (λ i. done ((o ∷ take-append_seam a (x ∷ b) i) ∷ (drop-append_seam a (x ∷ b) i ∷ [])))

split_unit_short : (j : ℕ) (u : List Op) → length u ≤ suc j → split_unit (suc j) u ≡ refused 22
split_unit_short j u h = rw (le-leb 1 (suc j) (omega arith), le-ltb (suc j) (length u) h)

split_cut : (k : ℕ) (B A : List Tagged) (us : List (List Op)) {j : ℕ} {u : List Op} → Cut j u
    → split_flat j (length B) (length (B ++ tag_unit k true u)) (B ++ (tag_unit k true u ++ (tag_units k us ++ A))) ≡ map_done (λ xs. B ++ (tag_units k xs ++ A)) (map_done (λ xs. xs ++ us) (split_unit j u))
split_cut k B A us (nought u) = refl
split_cut k B A us (short j u h) =
    rw (split_unit_short j u h, le-ltb (length B + suc j) (length (B ++ tag_unit k true u)) (simp (length-append, length_ops) (omega arith)), le-leb 1 (suc j) (omega arith))
split_cut k B A us (cut o a x b) =
    let X : List Tagged = tag_unit k true (o ∷ a) in
    let Y : List Tagged = tag_unit k false b in
    let R : List Tagged = tag_units k us ++ A in
    let U : List Tagged = tag_unit k true (o ∷ (a ++ (x ∷ b))) in
    let here' : length B + suc (length a) ≡ length (B ++ X) = simp (length-append, length_ops) (omega arith) in
    let test : (leb 1 (suc (length a)) && ltb (length B + suc (length a)) (length (B ++ U))) ≡ true =
    rw (le-leb 1 (suc (length a)) (omega arith)) (lt-ltb (length B + suc (length a)) (length (B ++ U)) (simp (length-append, length_ops) (omega arith))) in
    ap (λ (c : Bool). cond c (done (alter (length B + suc (length a)) (open_as true) (B ++ (U ++ R)))) (refused 22)) test
    ∙ ap done
    ((λ i. alter (here' i) (open_as true) ((ap (λ (U : List Tagged). B ++ (U ++ R)) (ops_split k true (o ∷ a) x b) ∙ regroup_at B X (standing k false x) Y R) i))
    ∙ alter_seam (open_as true) (B ++ X) (standing k false x) (Y ++ R)
    ∙ simp append_assoc)
    ∙ ap (λ (z : Answer (List (List Op))). map_done (λ xs. B ++ (tag_units k xs ++ A)) (map_done (λ xs. xs ++ us) z)) (sym (split_unit_cut o a x b))

split_here : (k j : ℕ) → HereAgrees k (split_flat j) (λ i us. unit_at i (split_unit j) us) (numbered_unit (split_unit j))
split_here k j B A o os us F a = split_cut k B A us (cut? j (o ∷ os))

pub split_bridge : (k i j : ℕ) (s : Session) → Keyed s.stations → length s.stations ≤ 64 → flat_step (split k i j) (flat s) ≡ map_done flat (step (split k i j) s)
split_bridge k i j s K room = step_focus k (on_queue (unit_from k (split_flat j) i) k) (on_units (unit_at i (split_unit j))) s K room (units_agree k (split_flat j) (λ i us. unit_at i (split_unit j) us) (numbered_unit (split_unit j)) (split_here k j) i s.results s.last)

-- NEIGHBOURS, each alone in its unit
module _ (B : List Tagged) (x y : Tagged) (R : List Tagged) where
  get_one : get_or ((B ++ (x ∷ [])) ++ (y ∷ R)) (length B) no_op ≡ x
  get_one = ap (λ (z : List Tagged). get_or z (length B) no_op) (append_assoc B (x ∷ []) (y ∷ R)) ∙ get_or-append_seam B x (y ∷ R) no_op

  get_two : get_or ((B ++ (x ∷ [])) ++ (y ∷ R)) (length (B ++ (x ∷ []))) no_op ≡ y
  get_two = get_or-append_seam (B ++ (x ∷ [])) y R no_op

  set_one : (z : Tagged) → set ((B ++ (x ∷ [])) ++ (y ∷ R)) (length B) z ≡ (B ++ (z ∷ [])) ++ (y ∷ R)
  set_one z = ap (λ (q : List Tagged). set q (length B) z) (append_assoc B (x ∷ []) (y ∷ R)) ∙ set-append_seam B x (y ∷ R) z ∙ sym (append_assoc B (z ∷ []) (y ∷ R))

  same_place : (z : Tagged) → length (B ++ (x ∷ [])) ≡ length (B ++ (z ∷ []))
  same_place z = simp length-append

  swap_two : set (set ((B ++ (x ∷ [])) ++ (y ∷ R)) (length B) y) (length (B ++ (x ∷ []))) x ≡ B ++ (y ∷ (x ∷ R))
  swap_two = (λ i. set (set_one y i) (same_place y i) x) ∙ set-append_seam (B ++ (y ∷ [])) y R x ∙ append_assoc B (y ∷ []) (x ∷ R)

  fuse_two : (z : Tagged) → remove_at (length (B ++ (x ∷ []))) (set ((B ++ (x ∷ [])) ++ (y ∷ R)) (length B) z) ≡ B ++ (z ∷ R)
  fuse_two z = (λ i. remove_at (same_place z i) (set_one z i)) ∙ remove_seam (B ++ (z ∷ [])) y R ∙ append_assoc B (z ∷ []) R

alone : (B : List Tagged) (x : Tagged) → eqb (length (B ++ (x ∷ []))) (suc (length B)) ≡ true
alone B x = eq-eqb (length (B ++ (x ∷ []))) (suc (length B)) (simp length-append (omega arith))

not_alone : (B : List Tagged) (x y : Tagged) (X : List Tagged) → eqb (length (B ++ (x ∷ (y ∷ X)))) (suc (length B)) ≡ false
not_alone B x y X = ne_eqb (length (B ++ (x ∷ (y ∷ X)))) (suc (length B)) (λ e. omega (arith, e, length-append B (x ∷ (y ∷ X))))

module _ (k : ℕ) (g : ℕ → ℕ → Tagged → Tagged → List Tagged → Answer (List Tagged)) (f : Op → Op → Answer (List (List Op))) where
  -- the two steps agree on two neighbours that stand after B
  abbrev SinglesAgree : Type 0
  SinglesAgree = (B A : List Tagged) (o p : Op) (us : List (List Op))
      → g (length B) (length (B ++ (standing k true o ∷ []))) (standing k true o) (standing k true p) ((B ++ (standing k true o ∷ [])) ++ (standing k true p ∷ (tag_units k us ++ A)))
      ≡ map_done (λ xs. B ++ (tag_units k (xs ++ us) ++ A)) (f o p)

  singles_pair : SinglesAgree → PairAgrees k (neighbours g) (on_singles (refused 22) f)
  singles_pair h B A o (o' ∷ os) p ps us = rw (not_alone B (standing k true o) (standing k false o') (tag_unit k false os))
  singles_pair h B A o [] p (p' ∷ ps) us = rw (alone B (standing k true o), not_alone (B ++ (standing k true o ∷ [])) (standing k true p) (standing k false p') (tag_unit k false ps))
  singles_pair h B A o [] p [] us =
      let x : Tagged = standing k true o in
      let y : Tagged = standing k true p in
      let R : List Tagged = tag_units k us ++ A in
      rw (alone B x, alone (B ++ (x ∷ [])) y)
      ((λ i. g (length B) (length (B ++ (x ∷ []))) (get_one B x y R i) (get_two B x y R i) ((B ++ (x ∷ [])) ++ (y ∷ R))) ∙ h B A o p us)

cond_same : {X Y : Type 0} (g : X → Y) (b : Bool) (x : X) (y : Y) → y ≡ g x → cond b (done y) (refused 22) ≡ map_done g (cond b (done x) (refused 22))
cond_same g true x y e = ap done e
cond_same g false x y e = refl

swap_single : (k : ℕ) → SinglesAgree k swap_flat swap_ops
swap_single k B A o p us = cond_same _ (may_swap o p) _ _ (swap_two B (standing k true o) (standing k true p) (tag_units k us ++ A))

fuse_single : (k : ℕ) → SinglesAgree k fuse_flat fuse_ops
fuse_single k B A o p us = cond_same _ (may_fuse o p) _ _ (fuse_two B (standing k true o) (standing k true p) (tag_units k us ++ A) (standing k true (fused o p)))

pub swap_bridge : (k i : ℕ) (s : Session) → Keyed s.stations → length s.stations ≤ 64 → flat_step (swap k i) (flat s) ≡ map_done flat (step (swap k i) s)
swap_bridge k i s K room = step_focus k (on_queue (pair_from k (neighbours swap_flat) i) k) (on_units (pair_at i (on_singles (refused 22) swap_ops))) s K room (pair_bridge k (neighbours swap_flat) (on_singles (refused 22) swap_ops) (singles_pair k swap_flat swap_ops (swap_single k)) i s.results s.last)

pub fuse_bridge : (k i : ℕ) (s : Session) → Keyed s.stations → length s.stations ≤ 64 → flat_step (fuse k i) (flat s) ≡ map_done flat (step (fuse k i) s)
fuse_bridge k i s K room = step_focus k (on_queue (pair_from k (neighbours fuse_flat) i) k) (on_units (pair_at i (on_singles (refused 22) fuse_ops))) s K room (pair_bridge k (neighbours fuse_flat) (on_singles (refused 22) fuse_ops) (singles_pair k fuse_flat fuse_ops (fuse_single k)) i s.results s.last)

-- EVERY STEP: the flat step of a flat session is the nested one
pub step_bridge : (t : Step) (s : Session) → Keyed s.stations → length s.stations ≤ 64 → flat_step t (flat s) ≡ map_done flat (step t s)
step_bridge admit s K room = admit_bridge s K room
step_bridge (realise k) s K room = realise_bridge k s K room
step_bridge (move k) s K room = move_bridge k s K room
step_bridge (finish k) s K room = finish_bridge k s K room
step_bridge (join k i) s K room = join_bridge k i s K room
step_bridge (split k i j) s K room = split_bridge k i j s K room
step_bridge (swap k i) s K room = swap_bridge k i s K room
step_bridge (fuse k i) s K room = fuse_bridge k i s K room
