-- Nodes that calls make from nothing, one at a time: keys fall to 1, and no list has more than eight, whatever the calls. So a target
-- struck at one node is that of no node behind it. And how the operation of a call that waited meets them, listed or for all.
-- Assumes nothing.
use mathlib.Core.Path.{◌≡◌, refl, sym, ◌∙◌, ap}
use Prim.Native.Nat.{ℕ, suc, ◌<◌, ◌≤◌}
use native.Mathlib.Omega.{arith}
use mathlib.Core.Bool.{Bool, true, false, cond}
use mathlib.Core.List.{List, [], ◌∷◌, ◌++◌}
use lib.ListN.{length}
use Rattle.graph.specs.KeyLists.{contains, strike}
use Rattle.graph.specs.declared.act.Act.{Act}
use Rattle.graph.specs.Acts.{new_held}
use Rattle.graph.specs.Targets.{To, named, whole, untouched}
use Rattle.graph.specs.Calls.{Call, to_of}
use Rattle.graph.specs.Nodes.{Node, Op, hits, act_on, act_by, onward, visit_node, visit_op}
use Rattle.graph.specs.OneAtATime.{World, labelled, pass_nodes, process, process_from, one_at_a_time}
use Rattle.graph.specs.CallResults.{is_target, nodes_after, targeted}
use Rattle.graph.proofs.Striking.{contains_strike}
use Rattle.graph.proofs.Meeting.{visit_key}
use Rattle.graph.proofs.Limits.{short_links}
use Rattle.graph.proofs.Validity.{Sort, adds, operates, sort}
use Rattle.graph.proofs.Demand3.{one_at_a_time_append}

-- the operation of a call that waits
abbrev pub op : Act → ℕ → To → List ℕ → Op
op a h to ls = record { act = a; held = h; targets = untouched to; labels = ls }

abbrev pub Made : List Node → Type 0
Made [] = Unit {0}
Made (n ∷ ns) = (n.key ≡ suc (length ns)) × (length n.links ≤ 8) × Made ns

pass_length : (o : Op) (ns : List Node) → length (pass_nodes o ns) ≡ length ns
pass_length o [] = refl
pass_length o (n ∷ ns) = ap suc (pass_length (visit_op o n) ns)

made_pass : (o : Op) (ns : List Node) → Made ns → Made (pass_nodes o ns)
made_pass o [] h = tt
made_pass o (n ∷ ns) h = (visit_key o n ∙ h.0 ∙ ap suc (sym (pass_length (visit_op o n) ns)), short (hits o n), made_pass (visit_op o n) ns h.2)
  where
    short : (b : Bool) → length (cond b (act_on o n) n).links ≤ 8
    short true = short_links o.act n.links h.1
    short false = h.1

pub made_process : (c : Call) (l : ℕ) (x : World) → Made x.nodes → Made (process (labelled c l) x).nodes
made_process c l x h = go (sort c l)
  where
    go : Sort c l → Made (process (labelled c l) x).nodes
    go (adds v i e) = rw e (refl, omega arith, h)
    go (operates a v i e) = rw e (made_pass _ x.nodes h)

made_from : (l : ℕ) (cs : List Call) (x : World) → Made x.nodes → Made (process_from l cs x).nodes
made_from l [] x h = h
made_from l (c ∷ cs) x h = made_from (suc l) cs (process (labelled c l) x) (made_process c l x h)

-- no call takes a node away
process_grows : (c : Call) (l : ℕ) (x : World) → length x.nodes ≤ length (process (labelled c l) x).nodes
process_grows c l x = go (sort c l)
  where
    go : Sort c l → length x.nodes ≤ length (process (labelled c l) x).nodes
    go (adds v i e) = rw e (omega arith)
    go (operates a v i e) = rw e (omega (arith, pass_length (op a v (to_of c) (l ∷ [])) x.nodes))

grows_from : (l : ℕ) (cs : List Call) (x : World) → length x.nodes ≤ length (process_from l cs x).nodes
grows_from l [] x = omega arith
grows_from l (c ∷ cs) x = omega (arith, process_grows c l x, grows_from (suc l) cs (process (labelled c l) x))

pub nodes_grow : (before later : List Call) → length (nodes_after before) ≤ length (nodes_after (before ++ later))
nodes_grow before later = omega (arith, grows_from (suc (length before)) later (one_at_a_time before), ap (λ (y : World). length y.nodes) (one_at_a_time_append before later))

pub made : (cs : List Call) → Made (nodes_after cs)
made cs = made_from 1 cs _ tt

-- A CALL'S OPERATION meets them
-- the call's targets past a node that it acted at
abbrev pub past : ℕ → To → To
past k (named ts) = named (strike k ts)
past k whole = whole

pub visit_at : (a : Act) (h : ℕ) (to : To) (ls : List ℕ) (n : Node) → visit_node (op a h to ls) n ≡ cond (is_target n.key to) (act_on (op a h to ls) n) n
visit_at a h (named ts) ls n = refl
visit_at a h whole ls n = refl

pub visit_to : (a : Act) (h : ℕ) (to : To) (ls : List ℕ) (n : Node) →
    visit_op (op a h to ls) n ≡ cond (is_target n.key to) (op a (new_held a h n.value n.links) (past n.key to) ls) (op a h to ls)
visit_to a h (named ts) ls n = go (contains n.key ts)
  where
    go : (b : Bool) → onward (cond b (act_by (op a h (named ts) ls) n) (op a h (named ts) ls)) ≡ cond b (op a (new_held a h n.value n.links) (named (strike n.key ts)) ls) (op a h (named ts) ls)
    go true = refl
    go false = refl
visit_to a h whole ls n = refl

struck_key : (ts : List ℕ) (k : ℕ) (ns : List Node) → length ns < k → Made ns → targeted (named (strike k ts)) ns ≡ targeted (named ts) ns
struck_key ts k [] l h = refl
struck_key ts k (n ∷ ns) l h =
    let behind : targeted (named (strike k ts)) ns ≡ targeted (named ts) ns = struck_key ts k ns (omega arith) h.2 in
    λ i. cond (contains_strike n.key k ts (λ e. omega (arith, e, h.0, l)) i) (n ∷ behind i) (behind i)

pub past_same : (to : To) (n : Node) (ns : List Node) → Made (n ∷ ns) → targeted (past n.key to) ns ≡ targeted to ns
past_same (named ts) n ns m = struck_key ts n.key ns (omega (arith, m.0)) m.2
past_same whole n ns m = refl
