-- What is read of the nodes and of the results, and where a label stands among the results.
-- Assumes nothing.
use Rattle.std.specs.Prelude.{ℕ, ◌≡◌, Bool, List, [], ltb, get_or}
use Rattle.graph.specs.Nodes.{Node, Result}
use Rattle.graph.specs.Acceptance.{Claimed}
use Rattle.flat.specs.Inner.Queues.{first_index, remove_at}
use Rattle.state.specs.declared.nodes.Body.{Body}
use Rattle.state.specs.declared.results.CallResult.{CallResult}
use Rattle.state.specs.Inner.Operations.{KeysListed}

-- the struct of a node
pub record IsBody (n : Node) (r : Body) : Type 0 where
  pub key : r.key ≡ n.key
  pub value : r.value ≡ n.value
  pub links : KeysListed n.links r.links

-- the struct of a result
pub record IsCallResult (x : Result) (r : CallResult) : Type 0 where
  pub label : r.label ≡ x.label
  pub value : r.value ≡ x.value
  pub left : KeysListed x.left r.left

abbrev pub node_with : Node → ℕ → List ℕ → Node
node_with n v ls = record { key = n.key; value = v; links = ls }

abbrev pub no_result : Result
no_result = record { label = 0; value = 0; left = [] }

abbrev pub result_with : ℕ → ℕ → List ℕ → Result
result_with l v ts = record { label = l; value = v; left = ts }

abbrev pub is_above : ℕ → Result → Bool
is_above l r = ltb l r.label

-- where a result with label l goes: the index of the first with a label above it, or the length
abbrev pub place_of : ℕ → List Result → ℕ
place_of l rs = first_index (is_above l) rs

-- the result at p claimed, and the others
abbrev pub taken_at : ℕ → List Result → Claimed
taken_at p rs = record { result = get_or rs p no_result; others = remove_at p rs }
