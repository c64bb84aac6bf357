-- Nodes, operations and results, and what happens where an operation meets a node.
-- Assumes nothing.
use Rattle.std.specs.Prelude.{ℕ, suc, Bool, cond, not, ◌&&◌, ◌||◌, List, [], ◌∷◌}
use Rattle.graph.specs.declared.act.Act.{Act}
use Rattle.graph.specs.Acts.{new_value, new_links, new_held, result_value}
use Rattle.graph.specs.Targets.{Targets, reaches, struck, without_mark, none_left, left_of}

-- "a node (key, 32-bit unsigned value, list of linked keys)"
pub record Node : Type 0 where
  pub key : ℕ
  pub value : ℕ
  pub links : List ℕ

-- an operation: an accepted call that visits nodes, with the targets that remain, and the labels that its result is for
pub record Op : Type 0 where
  pub act : Act
  pub held : ℕ
  pub targets : Targets
  pub labels : List ℕ

-- a call's result: its value, and `left`, "the keys left unstruck"
pub record Result : Type 0 where
  pub label : ℕ
  pub value : ℕ
  pub left : List ℕ

-- does the operation target this node?
abbrev pub hits : Op → Node → Bool
hits o n = reaches n.key o.targets

-- "At each target it acts and strikes that key", an all-call is marked: the node and the operation after the act (CG Calculus: MAP, FOLD)
abbrev pub act_on : Op → Node → Node
act_on o n = record { key = n.key; value = new_value o.act n.value; links = new_links o.act n.links }

abbrev pub act_by : Op → Node → Op
act_by o n = record { act = o.act; held = new_held o.act o.held n.value n.links; targets = struck n.key o.targets; labels = o.labels }

-- the operation as it goes on to another station: without a mark
abbrev pub onward : Op → Op
onward o = record { act = o.act; held = o.held; targets = without_mark o.targets; labels = o.labels }

-- the node after they met, unchanged where the operation doesn't target it; and the operation as it goes on, without a mark
abbrev pub visit_node : Op → Node → Node
visit_node o n = cond (hits o n) (act_on o n) n

abbrev pub visit_op : Op → Node → Op
visit_op o n = onward (cond (hits o n) (act_by o n) o)

-- "no targets left"
abbrev pub nothing_left : Op → Bool
nothing_left o = none_left o.targets

-- "has no targets left, or, at the last station, doesn't target this node" (CG Calculus: COMPLETE, LAST). So an all-call "may finish only at
-- the last station, marked done there" (S-3)
abbrev pub may_finish : Op → Node → Bool → Bool
may_finish o n is_last = nothing_left o || (is_last && not (hits o n))

-- the results that a finished operation stores: each of its labels gets the same value and the same `left`
abbrev pub results_for : List ℕ → ℕ → List ℕ → List Result
results_for [] v ts = []
results_for (l ∷ ls) v ts = record { label = l; value = v; left = ts } ∷ results_for ls v ts

abbrev pub stored : Op → List Result
stored o = results_for o.labels (result_value o.act o.held) (left_of o.targets)

-- an add's node, where there are n: "with its value, no links and a key one above the number of nodes"
abbrev pub new_node : ℕ → ℕ → Node
new_node n v = record { key = suc n; value = v; links = [] }

-- "its result is its key, its `left` empty"
abbrev pub add_result : ℕ → ℕ → Result
add_result l n = record { label = l; value = suc n; left = [] }
