-- A label's result, of one-at-a-time processing: what its operation stores after the nodes that the calls before made.
-- Assumes nothing.
use mathlib.Core.Path.{◌≡◌, refl, sym, ◌∙◌, ap}
use Prim.Native.Nat.{ℕ, suc, ◌+◌, ◌≤◌}
use native.Mathlib.Omega.{arith}
use mathlib.Core.List.{List, [], ◌∷◌, ◌++◌}
use mathlib.Core.Option.{none, some}
use lib.ListN.{length}
use Rattle.graph.specs.declared.act.Act.{Act}
use Rattle.graph.specs.Acts.{result_value}
use Rattle.graph.specs.Targets.{To, left_of}
use Rattle.graph.specs.Calls.{Call, to_of}
use Rattle.graph.specs.Nodes.{Node, Op, Result, visit_op, add_result}
use Rattle.graph.specs.OneAtATime.{World, operation, labelled, pass_op, process, process_from, one_at_a_time}
use Rattle.graph.specs.Counts.{result_of_label}
use Rattle.graph.specs.CallResults.{nodes_after}
use Rattle.graph.proofs.Found.{some_same, find_here, find_skip, find_after}
use Rattle.graph.proofs.Meeting.{visit_act}
use Rattle.graph.proofs.Validity.{Sort, adds, operates, sort}
use Rattle.graph.proofs.MadeNodes.{op}
use Rattle.graph.proofs.Demand3.{pass_labels, one_at_a_time_append}

pass_act : (o : Op) (ns : List Node) → (pass_op o ns).act ≡ o.act
pass_act o [] = refl
pass_act o (n ∷ ns) = pass_act (visit_op o n) ns ∙ visit_act o n

-- each call adds one result, that of its own label
record AddsOne (l : ℕ) (x y : World) : Type 0 where
  result : Result
  label : result.label ≡ l
  more : y.results ≡ x.results ++ (result ∷ [])

process_one : (c : Call) (l : ℕ) (x : World) → AddsOne l x (process (labelled c l) x)
process_one c l x = go (sort c l)
  where
    go : Sort c l → AddsOne l x (process (labelled c l) x)
    go (adds v i e) = rw e (record { result = add_result l (length x.nodes); label = refl; more = refl })
    go (operates a h i e) =
        let o : Op = op a h (to_of c) (l ∷ []) in
        let q : Op = pass_op o x.nodes in
        rw e (record { result = record { label = l; value = result_value q.act q.held; left = left_of q.targets }; label = refl; more = rw (pass_labels o x.nodes) })

later_keep : (m l : ℕ) (cs : List Call) (x : World) (q : Result) → result_of_label m x.results ≡ some q → result_of_label m (process_from l cs x).results ≡ some q
later_keep m l [] x q e = e
later_keep m l (c ∷ cs) x q e =
    let a = process_one c l x in
    later_keep m (suc l) cs (process (labelled c l) x) q (find_after m x.results (a.result ∷ []) (some q) a.more e)

earlier_miss : (m l : ℕ) (cs : List Call) (x : World) → l + length cs ≤ m → result_of_label m x.results ≡ none → result_of_label m (process_from l cs x).results ≡ none
earlier_miss m l [] x h e = e
earlier_miss m l (c ∷ cs) x h e =
    let a = process_one c l x in
    earlier_miss m (suc l) cs (process (labelled c l) x) (omega arith) (find_after m x.results (a.result ∷ []) none a.more e ∙ find_skip m a.result [] (λ q. omega (arith, a.label, q)))

module _ (a : Act) (h : ℕ) (to : To) where
  -- the operation of the call that comes after those before, past the nodes that they made
  abbrev pub past_nodes : List Call → Op
  past_nodes before = pass_op (op a h to (suc (length before) ∷ [])) (nodes_after before)

  pub own_result : (before later : List Call) (c : Call) → ((m : ℕ) → labelled c m ≡ operation a h to m) →
      (r : Result) → result_of_label (suc (length before)) (one_at_a_time (before ++ (c ∷ later))).results ≡ some r →
      record { label = suc (length before); value = result_value (past_nodes before).act (past_nodes before).held; left = left_of (past_nodes before).targets } ≡ r
  own_result before later c is r e =
      let m : ℕ = suc (length before) in
      let x : World = one_at_a_time before in
      let q : Op = pass_op (op a h to (m ∷ [])) x.nodes in
      let own : Result = record { label = m; value = result_value q.act q.held; left = left_of q.targets } in
      let new : (process (labelled c m) x).results ≡ x.results ++ (own ∷ []) = rw (is m, pass_labels (op a h to (m ∷ [])) x.nodes) in
      let none_yet : result_of_label m x.results ≡ none = earlier_miss m 1 before _ (omega arith) refl in
      let found : result_of_label m (process (labelled c m) x).results ≡ some own = find_after m x.results (own ∷ []) none new none_yet ∙ find_here m own [] refl in
      some_same (sym (later_keep m (suc m) later (process (labelled c m) x) own found) ∙ sym (ap (λ (y : World). result_of_label m y.results) (one_at_a_time_append before (c ∷ later))) ∙ e)

  pub own_value : (before later : List Call) (c : Call) → ((m : ℕ) → labelled c m ≡ operation a h to m) →
      (r : Result) → result_of_label (suc (length before)) (one_at_a_time (before ++ (c ∷ later))).results ≡ some r → r.value ≡ result_value a (past_nodes before).held
  own_value before later c is r e =
      sym (ap (λ (y : Result). y.value) (own_result before later c is r e))
      ∙ ap (λ (b : Act). result_value b (past_nodes before).held) (pass_act (op a h to (suc (length before) ∷ [])) (nodes_after before))
