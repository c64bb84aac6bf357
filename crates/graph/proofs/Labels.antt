-- Live labels: a sum over them is the total of the outcome, so every step keeps it; and results stand by rising label.
-- Assumes nothing.
use mathlib.Core.Path.{◌≡◌, refl, sym, ◌∙◌, ap}
use Prim.Native.Nat.{ℕ, suc, ◌+◌, ◌≤◌, ◌<◌}
use native.Mathlib.Omega.{arith}
use mathlib.Core.Bool.{Bool, true, false, cond, ◌&&◌, ◌||◌}
use mathlib.Core.List.{List, [], ◌∷◌, ◌++◌}
use lib.Dec.{eqb, leb, ltb}
use lib.ListN.{length}
use borrow.Author.Tests.{leb-true, le-leb, ltb-false, lt-ltb, eq-eqb}
use Rattle.graph.specs.Refusals.{Answer, refused, done}
use Rattle.graph.specs.KeyLists.{contains, count, above, rising}
use Rattle.graph.specs.Targets.{left_of}
use Rattle.graph.specs.Acts.{result_value}
use Rattle.graph.specs.Nodes.{Node, Op, Result, hits, act_by, visit_node, visit_op, results_for, new_node}
use Rattle.graph.specs.OneAtATime.{Labelled, add_of, op_of}
use Rattle.graph.specs.Sessions.{Station, station, Session, insert, store, labels_of_unit, labels_of_units, labels_of_stations, labels_of_calls, labels_of_results, pending, live}
use Rattle.graph.specs.Steps.{Step, step, enter}
use Rattle.graph.specs.Valid.{Each, Given}
use Rattle.graph.proofs.Answers.{Holds, refuses, holds, holds_at, and_left, and_right, and_both, eqb_same}
use Rattle.graph.proofs.Outcome.{flat, flow_ops, Seen, sum_of, sum_append, sum, sum_ops, through, admitting, outcome, sum_store}
use Rattle.graph.proofs.OutcomeKept.{Same, step_same}

-- the sum of a number for each label
abbrev pub total : (ℕ → ℕ) → List ℕ → ℕ
total v ls = sum_of v ls

abbrev pub by_label : (ℕ → ℕ) → Result → ℕ
by_label v r = v r.label

-- 1 at l, else 0; 1 everywhere; 1 where the label was not given
abbrev pub is : ℕ → ℕ → ℕ
is l x = cond (eqb l x) 1 0

abbrev pub one : ℕ → ℕ
one l = 1

abbrev pub stray : ℕ → ℕ → ℕ
stray last l = cond (leb 1 l && leb l last) 0 1

pub total_append : (v : ℕ → ℕ) (xs ys : List ℕ) → total v (xs ++ ys) ≡ total v xs + total v ys
total_append v = sum_append v

pub total_is : (l : ℕ) (xs : List ℕ) → total (is l) xs ≡ count l xs
total_is l [] = refl
total_is l (x ∷ xs) = omega (arith, total_is l xs)

pub total_one : (xs : List ℕ) → total one xs ≡ length xs
total_one [] = refl
total_one (x ∷ xs) = omega (arith, total_one xs)

pub total_results : (v : ℕ → ℕ) (rs : List Result) → total v (labels_of_results rs) ≡ sum (by_label v) rs
total_results v [] = refl
total_results v (r ∷ rs) = ap (λ (k : ℕ). v r.label + k) (total_results v rs)

pub given_stray : (last : ℕ) (xs : List ℕ) → Each (Given last) xs → total (stray last) xs ≡ 0
given_stray last [] h = refl
given_stray last (x ∷ xs) h = rw (le-leb 1 x h.0.0, le-leb x last h.0.1) (omega (arith, given_stray last xs h.1))

pub stray_given : (last : ℕ) (xs : List ℕ) → total (stray last) xs ≡ 0 → Each (Given last) xs
stray_given last [] h = tt
stray_given last (x ∷ xs) h = go (leb 1 x && leb x last) refl (stray_given last xs) h
  where
    go : (b : Bool) → (leb 1 x && leb x last) ≡ b → (total (stray last) xs ≡ 0 → Each (Given last) xs) → cond b 0 1 + total (stray last) xs ≡ 0 → Each (Given last) (x ∷ xs)
    go true e ih h = ((leb-true 1 x (and_left _ _ e), leb-true x last (and_right (leb 1 x) _ e)), ih (omega arith))
    go false e ih h = absurd (omega arith)

pub length_labels : (rs : List Result) → length (labels_of_results rs) ≡ length rs
length_labels [] = refl
length_labels (r ∷ rs) = ap suc (length_labels rs)

pub contains_count : (l : ℕ) (xs : List ℕ) → contains l xs ≡ ltb 0 (count l xs)
contains_count l [] = refl
contains_count l (x ∷ xs) = go (eqb l x) (contains_count l xs)
  where
    go : (b : Bool) → contains l xs ≡ ltb 0 (count l xs) → (b || contains l xs) ≡ ltb 0 (cond b 1 0 + count l xs)
    go true e = sym (lt-ltb 0 (1 + count l xs) (omega arith))
    go false e = let z : count l xs ≡ 0 + count l xs = omega arith in e ∙ ap (ltb 0) z

pub count_out : (l : ℕ) (xs : List ℕ) → contains l xs ≡ false → count l xs ≡ 0
count_out l xs e = omega (arith, ltb-false 0 (count l xs) (sym (contains_count l xs) ∙ e))

-- THE OUTCOME'S TOTAL
stored_total : (v : ℕ → ℕ) (ls : List ℕ) (x : ℕ) (ts : List ℕ) → sum (by_label v) (results_for ls x ts) ≡ total v ls
stored_total v [] x ts = refl
stored_total v (l ∷ ls) x ts = omega (arith, stored_total v ls x ts)

ops_total : (v : ℕ → ℕ) (os : List Op) → sum_ops (by_label v) os ≡ total v (labels_of_unit os)
ops_total v [] = refl
ops_total v (o ∷ os) = omega (arith, stored_total v o.labels (result_value o.act o.held) (left_of o.targets), ops_total v os, total_append v o.labels (labels_of_unit os))

cond_labels : (b : Bool) (p o : Op) → p.labels ≡ o.labels → (cond b p o).labels ≡ o.labels
cond_labels true p o e = e
cond_labels false p o e = refl

pub visit_labels : (o : Op) (n : Node) → (visit_op o n).labels ≡ o.labels
visit_labels o n = cond_labels (hits o n) (act_by o n) o refl

flow_labels : (os : List Op) (n : Node) → labels_of_unit (flow_ops os n) ≡ labels_of_unit os
flow_labels [] n = refl
flow_labels (o ∷ os) n = λ i. visit_labels o n i ++ flow_labels os (visit_node o n) i

unit_append : (v : ℕ → ℕ) (us vs : List Op) → total v (labels_of_unit (us ++ vs)) ≡ total v (labels_of_unit us) + total v (labels_of_unit vs)
unit_append v [] vs = omega arith
unit_append v (o ∷ os) vs = omega (arith, unit_append v os vs, total_append v o.labels (labels_of_unit (os ++ vs)), total_append v o.labels (labels_of_unit os))

flat_total : (v : ℕ → ℕ) (us : List (List Op)) → total v (labels_of_unit (flat us)) ≡ total v (labels_of_units us)
flat_total v [] = refl
flat_total v (u ∷ us) = omega (arith, unit_append v u (flat us), flat_total v us, total_append v (labels_of_unit u) (labels_of_units us))

through_total : (v : ℕ → ℕ) (ss : List Station) (os : List Op) → (through (by_label v) ss os).total ≡ total v (labels_of_stations ss) + total v (labels_of_unit os)
through_total v [] os = omega (arith, ops_total v os)
through_total v (s ∷ ss) os =
    let xs = flat s.units ++ os in
    omega (arith, through_total v ss (flow_ops xs s.node), ap (total v) (flow_labels xs s.node), unit_append v (flat s.units) os, flat_total v s.units, total_append v (labels_of_units s.units) (labels_of_stations ss))

units_append : (v : ℕ → ℕ) (us vs : List (List Op)) → total v (labels_of_units (us ++ vs)) ≡ total v (labels_of_units us) + total v (labels_of_units vs)
units_append v [] vs = omega arith
units_append v (u ∷ us) vs = omega (arith, units_append v us vs, total_append v (labels_of_unit u) (labels_of_units (us ++ vs)), total_append v (labels_of_unit u) (labels_of_units us))

enter_total : (v : ℕ → ℕ) (o : Op) (ss : List Station) → sum (by_label v) (enter o ss).new_results + total v (labels_of_stations (enter o ss).now) ≡ total v o.labels + total v (labels_of_stations ss)
enter_total v o [] = omega (arith, stored_total v o.labels (result_value o.act o.held) (left_of o.targets))
enter_total v o (s ∷ ss) =
    let new = (o ∷ []) ∷ [] in
    omega (arith, total_append v (labels_of_units (s.units ++ new)) (labels_of_stations ss), total_append v (labels_of_units s.units) (labels_of_stations ss), units_append v s.units new, total_append v (o.labels ++ []) [], total_append v o.labels [])

admitting_total : (v : ℕ → ℕ) (cs : List Labelled) (ss : List Station) → (admitting (by_label v) cs ss).total ≡ total v (labels_of_calls cs) + total v (labels_of_stations ss)
admitting_total v [] ss = omega (arith, through_total v ss [])
admitting_total v (add_of l x ∷ cs) ss = omega (arith, admitting_total v cs (station (new_node (length ss) x) [] ∷ ss))
admitting_total v (op_of o ∷ cs) ss = omega (arith, admitting_total v cs (enter o ss).now, enter_total v o ss, total_append v o.labels (labels_of_calls cs))

pub live_total_law : (v : ℕ → ℕ) (s : Session) → (outcome (by_label v) s).total ≡ total v (live s)
live_total_law v s =
    omega (
      arith,
      admitting_total v s.top_stream s.stations,
      total_append v (labels_of_stations s.stations) (labels_of_calls s.top_stream),
      total_append v (pending s) (labels_of_results s.results),
      total_results v s.results,
    )

-- of every session, reached or not: a step keeps the live labels, each as often as it stands there
pub record SameLabels (s t : Session) : Type 0 where
  pub labels : (v : ℕ → ℕ) → total v (live t) ≡ total v (live s)

pub step_labels : (t : Step) (s : Session) → Holds (SameLabels s) (step t s)
step_labels t s = go (step t s) (λ v. step_same (by_label v) t s)
  where
    go : (x : Answer Session) → ((v : ℕ → ℕ) → Holds (Same (by_label v) s) x) → Holds (SameLabels s) x
    go (refused r) k = refuses
    go (done u) k = holds {a = u} (record { labels = λ v. sym (live_total_law v u) ∙ ap (λ (y : Seen). y.total) (sym (holds_at (k v))) ∙ live_total_law v s })

-- RESULTS BY RISING LABEL
insert_above : (d : ℕ) (r : Result) (rs : List Result) → d < r.label → count r.label (labels_of_results rs) ≡ 0 → above d (labels_of_results rs) ≡ true → above d (labels_of_results (insert r rs)) ≡ true
insert_above d r [] h c e = and_both (lt-ltb d r.label h) refl
insert_above d r (q ∷ qs) h c e = go (ltb r.label q.label) refl (insert_above q.label r qs)
  where
    go : (b : Bool) → ltb r.label q.label ≡ b →
        (q.label < r.label → count r.label (labels_of_results qs) ≡ 0 → above q.label (labels_of_results qs) ≡ true → above q.label (labels_of_results (insert r qs)) ≡ true) →
        above d (labels_of_results (cond b (r ∷ q ∷ qs) (q ∷ insert r qs))) ≡ true
    go true f ih = and_both (lt-ltb d r.label h) (and_both f (and_right (ltb d q.label) _ e))
    go false f ih =
        let ne : r.label ≡ q.label → ⊥ = λ p. absurd (omega (arith, ap (λ (b : Bool). cond {A = ℕ} b 1 0) (eq-eqb r.label q.label p))) in
        let lt : q.label < r.label = omega (arith, ltb-false r.label q.label f) in
        and_both (and_left (ltb d q.label) _ e) (ih lt (omega arith) (and_right (ltb d q.label) _ e))

insert_rising : (r : Result) (rs : List Result) → count r.label (labels_of_results rs) ≡ 0 → rising (labels_of_results rs) ≡ true → rising (labels_of_results (insert r rs)) ≡ true
insert_rising r [] c e = refl
insert_rising r (q ∷ qs) c e = go (ltb r.label q.label) refl
  where
    go : (b : Bool) → ltb r.label q.label ≡ b → rising (labels_of_results (cond b (r ∷ q ∷ qs) (q ∷ insert r qs))) ≡ true
    go true f = and_both f e
    go false f =
        let ne : r.label ≡ q.label → ⊥ = λ p. absurd (omega (arith, ap (λ (b : Bool). cond {A = ℕ} b 1 0) (eq-eqb r.label q.label p))) in
        let lt : q.label < r.label = omega (arith, ltb-false r.label q.label f) in
        insert_above q.label r qs lt (omega arith) e

count_store : (l : ℕ) (new rs : List Result) → count l (labels_of_results (store new rs)) ≡ count l (labels_of_results new) + count l (labels_of_results rs)
count_store l new rs =
    sym (total_is l (labels_of_results (store new rs))) ∙ total_results (is l) (store new rs) ∙ sum_store (by_label (is l)) new rs
    ∙ (λ i. sym (sym (total_is l (labels_of_results new)) ∙ total_results (is l) new) i + sym (sym (total_is l (labels_of_results rs)) ∙ total_results (is l) rs) i)

pub store_rising : (new rs : List Result) → ((l : ℕ) → count l (labels_of_results (store new rs)) ≤ 1) → rising (labels_of_results rs) ≡ true → rising (labels_of_results (store new rs)) ≡ true
store_rising [] rs once e = e
store_rising (r ∷ new) rs once e =
    let l : ℕ = r.label in
    let f : is l l ≡ 1 = ap (λ (b : Bool). cond {A = ℕ} b 1 0) (eqb_same l) in
    store_rising new (insert r rs) once (insert_rising r rs (omega (arith, once l, count_store l (r ∷ new) rs)) e)
