-- Calls over the whole scene (S-3): one-at-a-time processing of an all-call, said without marks, and where an all-call may finish.
-- proofs/WholeScene.antt proves it, and runs/proofs/CallResults.antt what is said of the result, of every list of lines.
-- Assumes nothing.
use Rattle.std.specs.Prelude.{ℕ, ◌≡◌, Bool, ◌&&◌, List, [], ◌∷◌, ◌++◌}
use Rattle.graph.specs.declared.act.Act.{Act}
use Rattle.graph.specs.Acts.{new_value, new_links, new_held, result_value}
use Rattle.graph.specs.Targets.{whole, all}
use Rattle.graph.specs.Calls.{Call}
use Rattle.graph.specs.Nodes.{Node, Op, Result, may_finish}
use Rattle.graph.specs.OneAtATime.{operation, World, process}
use Rattle.graph.specs.CallResults.{nodes_after}

-- the nodes after the act at each of them, and what the call holds after the last, where it holds h at first
abbrev pub every_node : Act → List Node → List Node
every_node a [] = []
every_node a (n ∷ ns) = record { key = n.key; value = new_value a n.value; links = new_links a n.links } ∷ every_node a ns

abbrev pub held_through : Act → ℕ → List Node → ℕ
held_through a h [] = h
held_through a h (n ∷ ns) = held_through a (new_held a h n.value n.links) ns

-- "Such a call acts at each station that it meets, and its `left` is empty": one at a time it meets every node, from front to back
abbrev pub ActsAtEveryNode : Type 0
ActsAtEveryNode =
    (a : Act) (h l : ℕ) (x : World) → process (operation a h whole l) x
    ≡ record {
      nodes = every_node a x.nodes;
      results = x.results ++ (record { label = l; value = result_value a (held_through a h x.nodes); left = [] } ∷ []);
    }

-- "It may finish only at the last station, marked done there"
abbrev pub FinishesOnlyAtTheLast : Type 0
FinishesOnlyAtTheLast = (o : Op) (mark : Bool) → o.targets ≡ all mark → (n : Node) (is_last : Bool) → may_finish o n is_last ≡ is_last && mark

-- the result of an all-call that does a and holds h at first, by the nodes as the calls before leave them
pub record WholeResult (before : List Call) (a : Act) (h : ℕ) (r : Result) : Type 0 where
  pub value : r.value ≡ result_value a (held_through a h (nodes_after before))
  pub left : r.left ≡ []
