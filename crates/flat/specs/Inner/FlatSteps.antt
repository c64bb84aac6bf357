-- The work steps on the flat session, by index in the queue, in the shape that the code has. proofs/Heads.antt, Units.antt and Admits.antt
-- show that each is the nested session's step.
-- Assumes nothing.
use Rattle.std.specs.Prelude.{ℕ, zero, suc, ◌+◌, ◌-◌, Bool, true, false, cond, ◌&&◌, ◌||◌, List, [], ◌∷◌, ◌++◌, map, eqb, leb, ltb, length, take, drop, get_or, set}
use Rattle.std.proofs.Math.Seq.{slice}
use Rattle.graph.specs.declared.task.TaskRule.{TaskRule}
use Rattle.graph.specs.declared.task.TaskRule.TheVariants.{Propagate}
use Rattle.graph.specs.declared.task.Sought.{Sought}
use Rattle.graph.specs.declared.task.Sought.TheVariants.{Acts, Finishes}
use Rattle.graph.specs.Refusals.{Answer, refused, done, map_done}
use Rattle.graph.specs.Nodes.{Node, Op, act_on, act_by, onward, stored, new_node, add_result}
use Rattle.graph.specs.Tasks.{rule_for, includes}
use Rattle.graph.specs.OneAtATime.{Labelled, add_of, op_of}
use Rattle.graph.specs.Sessions.{store}
use Rattle.graph.specs.Steps.{Step, admit, realise, move, finish, join, split, swap, fuse, may_swap, may_fuse, fused, any}
use Rattle.flat.specs.Flat.{Tagged, Flat}
use Rattle.flat.specs.Inner.Nested.{of_op, at_place}
use Rattle.flat.specs.Inner.Queues.{first_index, is_at, end_of, remove_at}

-- LISTS BY INDEX
module _ {A : Type 0} where
  abbrev pub alter : ℕ → (A → A) → List A → List A
  alter i f [] = []
  alter zero f (x ∷ xs) = f x ∷ xs
  alter (suc i) f (x ∷ xs) = x ∷ alter i f xs

  -- f of each element from index a up to, not including, e
  abbrev pub map_from : (A → A) → ℕ → ℕ → List A → List A
  map_from f a e xs = take a xs ++ (map f (slice a e xs) ++ drop e xs)

  -- the first element from index a up to, not including, e, that p holds of; e where there is none
  abbrev pub first_in : (A → Bool) → ℕ → ℕ → List A → ℕ
  first_in p a e xs = a + first_index p (slice a e xs)

-- PARTS OF THE QUEUE
abbrev pub no_op : Tagged
no_op = record { place = 0; opens = false; call = add_of 0 0 }

abbrev pub no_node : Node
no_node = record { key = 0; value = 0; links = [] }

abbrev pub move_to : ℕ → Tagged → Tagged
move_to j x = record { place = j; opens = x.opens; call = x.call }

-- to station j as a move takes it: an operation goes on without its mark
abbrev pub move_on : ℕ → Tagged → Tagged
move_on j x = record { place = j; opens = x.opens; call = of_op x.call (λ o. op_of (onward o)) x.call }

abbrev pub open_as : Bool → Tagged → Tagged
open_as b x = record { place = x.place; opens = b; call = x.call }

abbrev pub with_op : Tagged → Op → Tagged
with_op x o = record { place = x.place; opens = x.opens; call = op_of o }

abbrev pub with_queue : Flat → List Tagged → Flat
with_queue f q = record { nodes = f.nodes; queue = q; results = f.results; last = f.last }

-- the first task rule that holds for it at the station with key k; the last station's key is 1. An add, which stands at no station,
-- gets PROP, by which it neither acts nor finishes
abbrev pub rule_at : ℕ → Tagged → TaskRule
rule_at k x = of_op Propagate (λ o. rule_for o k (eqb k 1)) x.call

-- is it one that the step looks for?
abbrev pub sought_at : Sought → ℕ → Tagged → Bool
sought_at s k x = includes s (rule_at k x)

-- UNITS BY NUMBER
-- where unit number i starts, counted from 1 at p; the queue's length where there are not so many units before it
abbrev pub unit_start : ℕ → ℕ → ℕ → List Tagged → ℕ
unit_start k zero p q = length q
unit_start k (suc zero) p q = p
unit_start k (suc (suc i)) p q = cond (is_at k p q) (unit_start k (suc i) (end_of k p q) q) (length q)

-- a step on the unit that starts at n: g gets where it starts, and where it ends
module _ {A : Type 0} where
  abbrev pub on_unit : ℕ → (ℕ → ℕ → List Tagged → Answer A) → ℕ → List Tagged → Answer A
  on_unit k g n q = cond (is_at k n q) (g n (end_of k n q) q) (refused 21)

  abbrev pub unit_from : ℕ → (ℕ → ℕ → List Tagged → Answer A) → ℕ → ℕ → List Tagged → Answer A
  unit_from k g i p q = on_unit k g (unit_start k i p q) q

-- the head unit is number 1
abbrev pub head_unit : ℕ → (ℕ → ℕ → Flat → Answer Flat) → Flat → Answer Flat
head_unit k g f = unit_from k (λ h e q. g h e f) 1 (first_index (at_place k) f.queue) f.queue

-- a step on the first operation from h up to, not including, e that p holds of: g gets its place, and e
abbrev pub on_place : (ℕ → ℕ → Flat → Flat) → ℕ → ℕ → Flat → Answer Flat
on_place g e i f = cond (ltb i e) (done (g i e f)) (refused 22)

abbrev pub on_first_op : (Tagged → Bool) → (ℕ → ℕ → Flat → Flat) → ℕ → ℕ → Flat → Answer Flat
on_first_op p g h e f = on_place g e (first_in p h e f.queue) f

-- MOVE
abbrev pub move_flat : ℕ → ℕ → ℕ → Flat → Answer Flat
move_flat k h e f = cond (eqb k 1 || any (sought_at Acts k) (slice h e f.queue)) (refused 22) (done (with_queue f (map_from (move_on (k - 1)) h e f.queue)))

-- REALISE
abbrev pub act_at : ℕ → ℕ → Tagged → Node → Flat → Flat
act_at k p x n f =
    of_op f
    (λ o. record { nodes = set f.nodes (k - 1) (act_on o n); queue = set f.queue p (with_op x (act_by o n)); results = f.results; last = f.last })
    x.call

abbrev pub act_flat : ℕ → ℕ → ℕ → Flat → Flat
act_flat k p e f = act_at k p (get_or f.queue p no_op) (get_or f.nodes (k - 1) no_node) f

abbrev pub realise_flat : ℕ → ℕ → ℕ → Flat → Answer Flat
realise_flat k = on_first_op (sought_at Acts k) (act_flat k)

-- FINISH
-- where x, which stands at p, opens its unit, which ends at e, the next of the unit is to open it
abbrev pub hand_on : ℕ → ℕ → Tagged → List Tagged → List Tagged
hand_on p e x q = cond (ltb (suc p) e) (alter (suc p) (open_as x.opens) q) q

abbrev pub take_out : ℕ → ℕ → Tagged → List Tagged → List Tagged
take_out p e x q = remove_at p (hand_on p e x q)

abbrev pub finish_place : ℕ → ℕ → Tagged → Flat → Flat
finish_place p e x f = record { nodes = f.nodes; queue = take_out p e x f.queue; results = store (of_op [] stored x.call) f.results; last = f.last }

abbrev pub leave_flat : ℕ → ℕ → Flat → Flat
leave_flat p e f = finish_place p e (get_or f.queue p no_op) f

abbrev pub finish_flat : ℕ → ℕ → ℕ → Flat → Answer Flat
finish_flat k = on_first_op (sought_at Finishes k) leave_flat

-- JOIN, SPLIT, SWAP, FUSE
-- a unit and the next: g gets where the one starts, where the next does, and where that ends
abbrev pub with_next : ℕ → (ℕ → ℕ → ℕ → List Tagged → Answer (List Tagged)) → ℕ → ℕ → List Tagged → Answer (List Tagged)
with_next k g p e q = cond (is_at k e q) (g p e (end_of k e q) q) (refused 21)

abbrev pub pair_from : ℕ → (ℕ → ℕ → ℕ → List Tagged → Answer (List Tagged)) → ℕ → ℕ → List Tagged → Answer (List Tagged)
pair_from k g i p q = unit_from k (with_next k g) i p q

abbrev pub join_flat : ℕ → ℕ → ℕ → List Tagged → Answer (List Tagged)
join_flat p e end q = done (alter e (open_as false) q)

abbrev pub split_flat : ℕ → ℕ → ℕ → List Tagged → Answer (List Tagged)
split_flat j p e q = cond (leb 1 j && ltb (p + j) e) (done (alter (p + j) (open_as true) q)) (refused 22)

-- two neighbours, each alone in its unit
abbrev pub neighbours : (ℕ → ℕ → Tagged → Tagged → List Tagged → Answer (List Tagged)) → ℕ → ℕ → ℕ → List Tagged → Answer (List Tagged)
neighbours g p e end q = cond (eqb e (suc p) && eqb end (suc e)) (g p e (get_or q p no_op) (get_or q e no_op) q) (refused 22)

-- what g makes of the operations of two calls; an add is refused
abbrev pub of_both : (Op → Op → Answer (List Tagged)) → Tagged → Tagged → Answer (List Tagged)
of_both g x y = of_op (refused 22) (λ a. of_op (refused 22) (g a) y.call) x.call

abbrev pub swap_flat : ℕ → ℕ → Tagged → Tagged → List Tagged → Answer (List Tagged)
swap_flat p e x y q = of_both (λ a b. cond (may_swap a b) (done (set (set q p y) e x)) (refused 22)) x y

abbrev pub fuse_flat : ℕ → ℕ → Tagged → Tagged → List Tagged → Answer (List Tagged)
fuse_flat p e x y q = of_both (λ a b. cond (may_fuse a b) (done (remove_at e (set q p (with_op x (fused a b))))) (refused 22)) x y

abbrev pub on_queue : (ℕ → List Tagged → Answer (List Tagged)) → ℕ → Flat → Answer Flat
on_queue g k f = map_done (with_queue f) (g (first_index (at_place k) f.queue) f.queue)

-- ADMIT: w is the place of the first waiting call
abbrev pub admit_call : ℕ → Labelled → Flat → Flat
admit_call w (add_of l v) f =
    record {
      nodes = f.nodes ++ (new_node (length f.nodes) v ∷ []);
      queue = remove_at w f.queue;
      results = store (add_result l (length f.nodes) ∷ []) f.results;
      last = f.last;
    }
admit_call w (op_of o) f =
    cond (eqb (length f.nodes) 0)
    (record { nodes = f.nodes; queue = remove_at w f.queue; results = store (stored o) f.results; last = f.last })
    (with_queue f (alter w (move_to (length f.nodes)) f.queue))

abbrev pub admit_from : ℕ → Flat → Answer Flat
admit_from w f = cond (is_at 65 w f.queue) (done (admit_call w (get_or f.queue w no_op).call f)) (refused 21)

-- EVERY STEP
abbrev pub known : ℕ → Flat → Bool
known k f = leb 1 k && leb k (length f.nodes)

abbrev pub at_key : ℕ → (Flat → Answer Flat) → Flat → Answer Flat
at_key k g f = cond (known k f) (g f) (refused 20)

abbrev pub flat_step : Step → Flat → Answer Flat
flat_step admit f = admit_from (first_index (at_place 65) f.queue) f
flat_step (realise k) f = at_key k (head_unit k (realise_flat k)) f
flat_step (move k) f = at_key k (head_unit k (move_flat k)) f
flat_step (finish k) f = at_key k (head_unit k (finish_flat k)) f
flat_step (join k i) f = at_key k (on_queue (pair_from k join_flat i) k) f
flat_step (split k i j) f = at_key k (on_queue (unit_from k (split_flat j) i) k) f
flat_step (swap k i) f = at_key k (on_queue (pair_from k (neighbours swap_flat) i) k) f
flat_step (fuse k i) f = at_key k (on_queue (pair_from k (neighbours fuse_flat) i) k) f
