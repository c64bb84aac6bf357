-- The work steps: document 01, section 'Work steps'. In brackets: the rules of the published CG Calculus, arXiv 1911.10982.
-- Assumes nothing.
use Rattle.std.specs.Prelude.{ℕ, zero, suc, ◌-◌, Bool, false, cond, ◌&&◌, ◌||◌, List, [], ◌∷◌, ◌++◌, eqb, leb, ltb, length, take, drop}
use Rattle.graph.specs.declared.act.Act.TheVariants.{Map}
use Rattle.graph.specs.Refusals.{Answer, refused, done, map_done}
use Rattle.graph.specs.Affine.{composed}
use Rattle.graph.specs.KeyLists.{is_nil}
use Rattle.graph.specs.Targets.{disjoint_targets, same_targets}
use Rattle.graph.specs.Acts.{is_map, affine_of, may_share}
use Rattle.graph.specs.Nodes.{Node, Op, Result, hits, act_on, act_by, onward, may_finish, stored, new_node, add_result}
use Rattle.graph.specs.OneAtATime.{Labelled, add_of, op_of}
use Rattle.graph.specs.Sessions.{Station, station, Session, store}

-- `at` is a node's key; `unit` counts from 1 at the streamlet's head
pub data Step : Type 0 where
  admit : Step
  realise : (at : ℕ) → Step
  move : (at : ℕ) → Step
  finish : (at : ℕ) → Step
  join : (at unit : ℕ) → Step
  split : (at unit after : ℕ) → Step
  swap : (at unit : ℕ) → Step
  fuse : (at unit : ℕ) → Step

-- what a step makes of the stations, from some station on, and the results that it stores
pub record Change : Type 0 where
  pub now : List Station
  pub new_results : List Result

abbrev pub only : List Station → Change
only ss = record { now = ss; new_results = [] }

abbrev pub behind : Station → Change → Change
behind s c = record { now = s ∷ c.now; new_results = c.new_results }

-- a step at the station with key k, which sees the stations behind it; 20: "no node with that key"
abbrev pub at : ℕ → (Station → List Station → Answer Change) → List Station → Answer Change
at k f [] = refused 20
at k f (s ∷ ss) = cond (eqb s.node.key k) (f s ss) (map_done (behind s) (at k f ss))

-- is there one that p holds of?
abbrev pub any : {A : Type 0} → (A → Bool) → List A → Bool
any p [] = false
any p (x ∷ xs) = p x || any p xs

-- does any operation of the unit target this node?
abbrev pub any_hits : List Op → Node → Bool
any_hits u n = any (λ o. hits o n) u

-- the first operation of a unit that p holds of, with those before and after it; 22: "the step isn't allowed there"
pub record FirstOp : Type 0 where
  pub before : List Op
  pub op : Op
  pub after : List Op

abbrev pub first_op : (Op → Bool) → List Op → Answer FirstOp
first_op p [] = refused 22
first_op p (o ∷ os) =
    cond (p o) (done (record { before = []; op = o; after = os }))
    (map_done (λ f. record { before = o ∷ f.before; op = f.op; after = f.after }) (first_op p os))

-- the units from number i on, counted from 1: none where there is no unit of that number
abbrev pub from_unit : ℕ → List (List Op) → List (List Op)
from_unit zero us = []
from_unit (suc i) us = drop i us

-- what f says of the first unit, and of the first two; `short` where there are not as many. The head unit is the first, number 1;
-- 21: there is none
module _ {A : Type 0} where
  abbrev pub first_unit : A → (List Op → A) → List (List Op) → A
  first_unit short f [] = short
  first_unit short f (u ∷ us) = f u

  abbrev pub first_two : A → (List Op → List Op → A) → List (List Op) → A
  first_two short f [] = short
  first_two short f (u ∷ []) = short
  first_two short f (u ∷ v ∷ us) = f u v

-- REALISE (MAP, FOLD): "in the head unit, the first operation that targets this node acts and strikes the
-- key. Allowed where there is one."
abbrev pub after_realise : Node → List (List Op) → List Station → FirstOp → Change
after_realise n us ss f = only (station (act_on f.op n) ((f.before ++ (act_by f.op n ∷ f.after)) ∷ us) ∷ ss)

abbrev pub realise_at : Node → List Station → List (List Op) → Answer Change
realise_at n ss us = map_done (after_realise n (drop 1 us) ss) (first_unit (refused 21) (first_op (λ o. hits o n)) us)

-- MOVE (PROP): "the head unit goes to the next station's tail. Allowed where no operation in it targets this node and the
-- station isn't last." An all-call's mark is "cleared when it moves" (S-3).
abbrev pub onwards : List Op → List Op
onwards [] = []
onwards (o ∷ os) = onward o ∷ onwards os

abbrev pub at_tail : List Op → Station → Station
at_tail u s = station s.node (s.units ++ (u ∷ []))

abbrev pub move_unit : Node → List Op → List (List Op) → List Station → Answer Change
move_unit n u us [] = refused 22
move_unit n u us (s ∷ ss) = cond (any_hits u n) (refused 22) (done (only (station n us ∷ at_tail (onwards u) s ∷ ss)))

abbrev pub move_at : Node → List Station → List (List Op) → Answer Change
move_at n ss us = first_unit (refused 21) (λ u. move_unit n u (drop 1 us) ss) us

-- FINISH (COMPLETE, LAST): "in the head unit, the first operation that has no targets left, or, at the last station,
-- doesn't target this node, stores its result and goes; allowed where there is one. An emptied unit goes too."
abbrev pub put_unit : List Op → List (List Op) → List (List Op)
put_unit [] us = us
put_unit (o ∷ os) us = (o ∷ os) ∷ us

abbrev pub after_finish : Node → List (List Op) → List Station → FirstOp → Change
after_finish n us ss f = record { now = station n (put_unit (f.before ++ f.after) us) ∷ ss; new_results = stored f.op }

abbrev pub finish_at : Node → List Station → List (List Op) → Answer Change
finish_at n ss us = map_done (after_finish n (drop 1 us) ss) (first_unit (refused 21) (first_op (λ o. may_finish o n (is_nil ss))) us)

-- a step on unit number i, and on units i and i + 1: what it makes of them stands in their place, the units before and after stay; 21:
-- "no unit of that number, or no unit after it where two are needed"
abbrev pub unit_at : ℕ → (List Op → Answer (List (List Op))) → List (List Op) → Answer (List (List Op))
unit_at i f us = map_done (λ xs. take (i - 1) us ++ (xs ++ drop i us)) (first_unit (refused 21) f (from_unit i us))

abbrev pub pair_at : ℕ → (List Op → List Op → Answer (List (List Op))) → List (List Op) → Answer (List (List Op))
pair_at i f us = map_done (λ xs. take (i - 1) us ++ (xs ++ drop (suc i) us)) (first_two (refused 21) f (from_unit i us))

-- JOIN (BATCH): "units 1 and 2 become one"
abbrev pub join_units : List Op → List Op → Answer (List (List Op))
join_units u v = done ((u ++ v) ∷ [])

-- SPLIT (UNBATCH): "the unit is cut after that operation, both parts non-empty"
abbrev pub may_split : ℕ → List Op → Bool
may_split j u = leb 1 j && ltb j (length u)

abbrev pub split_unit : ℕ → List Op → Answer (List (List Op))
split_unit j u = cond (may_split j u) (done (take j u ∷ drop j u ∷ [])) (refused 22)

-- "two neighbouring one-operation units": what f says of their operations; `other` of any other two units
module _ {A : Type 0} where
  abbrev pub on_singles : A → (Op → Op → A) → List Op → List Op → A
  on_singles other f [] v = other
  on_singles other f (o ∷ p ∷ os) v = other
  on_singles other f (o ∷ []) [] = other
  on_singles other f (o ∷ []) (q ∷ r ∷ os) = other
  on_singles other f (o ∷ []) (q ∷ []) = f o q

-- SWAP (REORDERD, REORDERRR; not REORDERRW): "Allowed where their remaining targets are disjoint or both are folds." An all-call's are
-- disjoint only from those of an operation that has none left (S-3)
abbrev pub may_swap : Op → Op → Bool
may_swap o q = disjoint_targets o.targets q.targets || may_share o.act q.act

abbrev pub swap_ops : Op → Op → Answer (List (List Op))
swap_ops o q = cond (may_swap o q) (done ((q ∷ []) ∷ (o ∷ []) ∷ [])) (refused 22)

-- FUSE (FUSEM, amended: no FUSEMID, and the second label keeps its `left`): "both maps with equal remaining targets and
-- together at most 4 labels, become one map, the first followed by the second"; two all-calls "only when both are unmarked or both are
-- marked" (S-3)
abbrev pub may_fuse : Op → Op → Bool
may_fuse o q = (is_map o.act && is_map q.act) && (same_targets o.targets q.targets && leb (length (o.labels ++ q.labels)) 4)

abbrev pub fused : Op → Op → Op
fused o q = record { act = Map (composed (affine_of o.act) (affine_of q.act)); held = 0; targets = o.targets; labels = o.labels ++ q.labels }

abbrev pub fuse_ops : Op → Op → Answer (List (List Op))
fuse_ops o q = cond (may_fuse o q) (done ((fused o q ∷ []) ∷ [])) (refused 22)

abbrev pub on_units : (List (List Op) → Answer (List (List Op))) → Station → List Station → Answer Change
on_units f s ss = map_done (λ us. only (station s.node us ∷ ss)) (f s.units)

-- ADMIT (ADD, FIRST, EMPTY): "takes the top stream's head. An add makes its node and stores the result. Another call
-- becomes a unit of its own at the tail of the first streamlet; with no nodes it finishes, all targets left."
abbrev pub enter : Op → List Station → Change
enter o [] = record { now = []; new_results = stored o }
enter o (s ∷ ss) = only (at_tail (o ∷ []) s ∷ ss)

abbrev pub admitted : Labelled → List Station → Change
admitted (add_of l v) ss = record { now = station (new_node (length ss) v) [] ∷ ss; new_results = add_result l (length ss) ∷ [] }
admitted (op_of o) ss = enter o ss

abbrev pub changed : Session → List Labelled → Change → Session
changed s cs c = record { stations = c.now; top_stream = cs; results = store c.new_results s.results; last = s.last }

-- 21: "no waiting call"
abbrev pub admit_head : Session → List Labelled → Answer Session
admit_head s [] = refused 21
admit_head s (c ∷ cs) = done (changed s cs (admitted c s.stations))

-- what a step does at its own station (an admit has none)
abbrev pub at_station : Step → Station → List Station → Answer Change
at_station admit s ss = refused 22
at_station (realise k) s ss = realise_at s.node ss s.units
at_station (move k) s ss = move_at s.node ss s.units
at_station (finish k) s ss = finish_at s.node ss s.units
at_station (join k i) s ss = on_units (pair_at i join_units) s ss
at_station (split k i j) s ss = on_units (unit_at i (split_unit j)) s ss
at_station (swap k i) s ss = on_units (pair_at i (on_singles (refused 22) swap_ops)) s ss
at_station (fuse k i) s ss = on_units (pair_at i (on_singles (refused 22) fuse_ops)) s ss

abbrev pub step_at : ℕ → Step → Session → Answer Session
step_at k t s = map_done (changed s s.top_stream) (at k (at_station t) s.stations)

abbrev pub step : Step → Session → Answer Session
step admit s = admit_head s s.top_stream
step (realise k) s = step_at k (realise k) s
step (move k) s = step_at k (move k) s
step (finish k) s = step_at k (finish k) s
step (join k i) s = step_at k (join k i) s
step (split k i j) s = step_at k (split k i j) s
step (swap k i) s = step_at k (swap k i) s
step (fuse k i) s = step_at k (fuse k i) s
