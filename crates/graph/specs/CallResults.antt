-- What the results of a link and an unlink count, and what the result of a top is, by the nodes as the calls before leave them.
-- proofs/CountResults.antt and proofs/TopResult.antt prove it of one-at-a-time processing, runs/proofs/CallResults.antt of every list
-- of lines sent to a fresh session.
-- Assumes nothing.
use Rattle.std.specs.Prelude.{ℕ, ◌+◌, ◌*◌, ◌≤◌, ◌≡◌, Bool, true, cond, List, [], ◌∷◌, ◌++◌, map, length, ◌≤ℤ◌}
use Rattle.graph.specs.Words.{signed}
use Rattle.graph.specs.KeyLists.{contains, count, is_full}
use Rattle.graph.specs.Targets.{To, named, whole}
use Rattle.graph.specs.Calls.{Call, unlink}
use Rattle.graph.specs.Nodes.{Node, Result}
use Rattle.graph.specs.OneAtATime.{one_at_a_time}
use Rattle.graph.specs.Valid.{Each}

-- the nodes that the calls leave, one at a time
abbrev pub nodes_after : List Call → List Node
nodes_after cs = (one_at_a_time cs).nodes

-- is the node with this key a target of the call?
abbrev pub is_target : ℕ → To → Bool
is_target k (named ts) = contains k ts
is_target k whole = true

-- the nodes that are targets: each of them for an all-call (S-3)
abbrev pub targeted : To → List Node → List Node
targeted to [] = []
targeted to (n ∷ ns) = cond (is_target n.key to) (n ∷ targeted to ns) (targeted to ns)

-- their number is at most that of the keys listed, or of the nodes
abbrev pub most_targets : To → List Node → ℕ
most_targets (named ts) ns = length ts
most_targets whole ns = length ns

-- the sum of a number for each node's list of links, without a modulus
module _ (f : List ℕ → ℕ) where
  abbrev pub over_lists : List Node → ℕ
  over_lists [] = 0
  over_lists (n ∷ ns) = f n.links + over_lists ns

abbrev pub one_if_full : List ℕ → ℕ
one_if_full ls = cond (is_full ls) 1 0

-- "The result is the number of targets whose list had eight"
pub record LinkResult (before : List Call) (to : To) (r : Result) : Type 0 where
  pub exact : r.value ≡ over_lists one_if_full (targeted to (nodes_after before))
  pub few : r.value ≤ most_targets to (nodes_after before)

-- S-2: "Its result becomes the number of copies removed, over all its targets."
pub record UnlinkResult (before : List Call) (k : ℕ) (to : To) (r : Result) : Type 0 where
  pub exact : r.value ≡ over_lists (count k) (targeted to (nodes_after before))
  -- by so many links the nodes, all their lists together, have fewer after it
  pub removed : over_lists length (nodes_after before) ≡ r.value + over_lists length (nodes_after (before ++ (unlink k to ∷ [])))
  -- "Tool writers must know whether an unlink did something": with 0 it did nothing
  pub idle : r.value ≡ 0 → nodes_after (before ++ (unlink k to ∷ [])) ≡ nodes_after before
  pub few : r.value ≤ 8 * most_targets to (nodes_after before)

abbrev pub values_of : List Node → List ℕ
values_of ns = map (λ (n : Node). n.value) ns

-- a member of the list and, as signed numbers, an upper bound of it
pub record SignedGreatest (vs : List ℕ) (g : ℕ) : Type 0 where
  pub member : contains g vs ≡ true
  pub upper : Each (λ (v : ℕ). signed v ≤ℤ signed g) vs

-- the result of a top is the greatest of its start and its targets' values, since it "compares values and `start` as signed 32-bit
-- numbers" (S-5)
abbrev pub TopResult : List Call → ℕ → To → Result → Type 0
TopResult before start to r = SignedGreatest (start ∷ values_of (targeted to (nodes_after before))) r.value
