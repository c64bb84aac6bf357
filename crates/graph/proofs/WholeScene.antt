-- An all-call, one at a time: whether it acts at a node goes by the mark, and it goes on without one. And where it may finish.
-- Assumes nothing.
use mathlib.Core.Path.{◌≡◌, refl, sym, ◌∙◌, ap}
use Prim.Native.Nat.{ℕ, suc}
use mathlib.Core.Bool.{Bool, true, false, not, ◌&&◌}
use mathlib.Core.List.{List, [], ◌∷◌, ◌++◌}
use mathlib.Core.Option.{some}
use lib.ListN.{length}
use Rattle.graph.specs.declared.act.Act.{Act}
use Rattle.graph.specs.Acts.{new_value, new_links, new_held, result_value}
use Rattle.graph.specs.Targets.{whole, left_of}
use Rattle.graph.specs.Calls.{Call}
use Rattle.graph.specs.Nodes.{Node, Op, Result, stored}
use Rattle.graph.specs.OneAtATime.{operation, labelled, pass_nodes, pass_op, one_at_a_time}
use Rattle.graph.specs.Counts.{result_of_label}
use Rattle.graph.specs.CallResults.{nodes_after}
use Rattle.graph.specs.WholeScene.{every_node, held_through, ActsAtEveryNode, FinishesOnlyAtTheLast, WholeResult}
use Rattle.graph.proofs.MadeNodes.{op}
use Rattle.graph.proofs.OwnResult.{own_result, own_value}

all_nodes : (a : Act) (h : ℕ) (ls : List ℕ) (ns : List Node) → pass_nodes (op a h whole ls) ns ≡ every_node a ns
all_nodes a h ls [] = refl
all_nodes a h ls (n ∷ ns) =
    ap (λ (r : List Node). record { key = n.key; value = new_value a n.value; links = new_links a n.links } ∷ r) (all_nodes a (new_held a h n.value n.links) ls ns)

all_op : (a : Act) (h : ℕ) (ls : List ℕ) (ns : List Node) → pass_op (op a h whole ls) ns ≡ op a (held_through a h ns) whole ls
all_op a h ls [] = refl
all_op a h ls (n ∷ ns) = all_op a (new_held a h n.value n.links) ls ns

pub acts_at_every_node : ActsAtEveryNode
acts_at_every_node a h l x = λ i. record { nodes = all_nodes a h (l ∷ []) x.nodes i; results = x.results ++ stored (all_op a h (l ∷ []) x.nodes i) }

pub whole_result : (a : Act) (h : ℕ) (before later : List Call) (c : Call) → ((m : ℕ) → labelled c m ≡ operation a h whole m) →
    (r : Result) → result_of_label (suc (length before)) (one_at_a_time (before ++ (c ∷ later))).results ≡ some r → WholeResult before a h r
whole_result a h before later c is r e =
    let past = all_op a h (suc (length before) ∷ []) (nodes_after before) in
    record {
      value = own_value a h whole before later c is r e ∙ ap (λ (o : Op). result_value a o.held) past;
      left = sym (ap (λ (q : Result). q.left) (own_result a h whole before later c is r e)) ∙ ap (λ (o : Op). left_of o.targets) past;
    }

pub finishes_only_at_the_last : FinishesOnlyAtTheLast
finishes_only_at_the_last o mark e n is_last = rw e (go mark is_last)
  where
    go : (mark is_last : Bool) → (is_last && not (not mark)) ≡ is_last && mark
    go true is_last = refl
    go false is_last = refl
