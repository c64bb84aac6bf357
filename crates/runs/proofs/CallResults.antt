-- What a link and an unlink count, what a top gives, and what an all-call does, of every list of lines sent to a fresh session, whatever the
-- schedule and the calls after it.
-- Assumes nothing.
use Prim.Native.Nat.{ℕ, suc, ◌≤◌}
use mathlib.Core.Path.{◌≡◌}
use native.Mathlib.Omega.{arith}
use mathlib.Core.List.{List, ◌∷◌, ◌++◌}
use lib.ListN.{length}
use Rattle.graph.specs.declared.act.Act.{Act}
use Rattle.graph.specs.Targets.{To, named, whole, keys_listed}
use Rattle.graph.specs.Calls.{Call, link, unlink, top, to_of}
use Rattle.graph.specs.Nodes.{Result}
use Rattle.graph.specs.OneAtATime.{operation, labelled}
use Rattle.graph.specs.CallResults.{nodes_after, most_targets, LinkResult, UnlinkResult, TopResult}
use Rattle.graph.specs.WholeScene.{WholeResult}
use Rattle.graph.proofs.Limits.{each_right}
use Rattle.graph.proofs.Validity.{FormFits}
use Rattle.graph.proofs.MadeNodes.{nodes_grow}
use Rattle.graph.proofs.CountResults as counts
use Rattle.graph.proofs.TopResult as tops
use Rattle.graph.proofs.WholeScene as scene
use Rattle.runs.specs.Runs.{Sent, Runs, opening, accepted_lines, TextsOf}
use Rattle.runs.specs.Demand.{ResultOf}
use Rattle.runs.proofs.AcceptedForms.{lines_formed, lines_nodes}
use Rattle.runs.proofs.OneResult.{call_meant}

-- the accepted lines are the texts of these calls, of which c is one; its label is one above the number of those before it
module _ (es : List Sent) (h : Runs opening es) (before later : List Call) (c : Call) (t : TextsOf (accepted_lines es) (before ++ (c ∷ later))) where
  few : most_targets (to_of c) (nodes_after before) ≤ 64
  few = go (to_of c) (each_right FormFits before (c ∷ later) (lines_formed es h (before ++ (c ∷ later)) t)).0.few
    where
      go : (to : To) → length (keys_listed to) ≤ 8 → most_targets to (nodes_after before) ≤ 64
      go (named ts) l = omega arith
      go whole l = omega (arith, nodes_grow before (c ∷ later), lines_nodes es h (before ++ (c ∷ later)) t)

module _ (es : List Sent) (h : Runs opening es) (before later : List Call) (k : ℕ) (to : To) where
  pub link_result : TextsOf (accepted_lines es) (before ++ (link k to ∷ later)) → (r : Result) → ResultOf es (suc (length before)) r → LinkResult before to r
  link_result t r g = counts.link_result before later k to (few es h before later (link k to) t) r (call_meant es h (suc (length before)) _ t r g)

  pub unlink_result : TextsOf (accepted_lines es) (before ++ (unlink k to ∷ later)) → (r : Result) → ResultOf es (suc (length before)) r → UnlinkResult before k to r
  unlink_result t r g = counts.unlink_result before later k to (few es h before later (unlink k to) t) r (call_meant es h (suc (length before)) _ t r g)

module _ (es : List Sent) (h : Runs opening es) (before later : List Call) (start : ℕ) (to : To) where
  pub top_result : TextsOf (accepted_lines es) (before ++ (top start to ∷ later)) → (r : Result) → ResultOf es (suc (length before)) r → TopResult before start to r
  top_result t r g = tops.top_result before later start to r (call_meant es h (suc (length before)) _ t r g)

-- an all-call of any kind: what it does is a, and it holds v at first
module _ (es : List Sent) (h : Runs opening es) (before later : List Call) (c : Call) (a : Act) (v : ℕ) (is : (l : ℕ) → labelled c l ≡ operation a v whole l) where
  pub whole_result : TextsOf (accepted_lines es) (before ++ (c ∷ later)) → (r : Result) → ResultOf es (suc (length before)) r → WholeResult before a v r
  whole_result t r g = scene.whole_result a v before later c is r (call_meant es h (suc (length before)) _ t r g)
