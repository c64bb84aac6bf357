-- DEMAND 3, of every list of events sent to a fresh session.
-- Assumes nothing.
use mathlib.Core.Path.{◌≡◌, refl, sym, ◌∙◌, ap}
use Prim.Native.Nat.{ℕ, suc, ◌+◌, ◌*◌, ◌≤◌, ◌<◌}
use native.Mathlib.Nat.{add-zero, add-suc, suc-add, add_comm}
use native.Mathlib.Numerals.{add-one}
use native.Mathlib.Omega.{arith}
use mathlib.Core.Bool.{Bool, true, false, cond, ◌&&◌}
use mathlib.Core.List.{List, [], ◌∷◌, ◌++◌}
use mathlib.Core.Option.{Option, none, some}
use lib.Dec.{eqb}
use lib.ListN.{length, length-append}
use borrow.Author.Tests.{eqb-true, eqb-false, ne_eqb, eq-eqb}
use Rattle.graph.specs.Refusals.{Answer, refused, done}
use Rattle.graph.specs.KeyLists.{contains, count, same_keys}
use Rattle.graph.specs.Targets.{To, named, whole, keys_listed, untouched}
use Rattle.graph.specs.Calls.{Call, to_of}
use Rattle.graph.specs.Nodes.{Node, Op, Result, visit_op, stored}
use Rattle.graph.specs.OneAtATime.{Labelled, labelled, World, pass_op, process, process_from, one_at_a_time}
use Rattle.graph.specs.Sessions.{Station, Session, graph_of, labels_of_results, pending, live}
use Rattle.graph.specs.Steps.{Step, step}
use Rattle.graph.specs.Acceptance.{accepted, accept, Claimed, claim}
use Rattle.graph.specs.Drain.{backmost, drain}
use Rattle.graph.specs.Valid.{Each, Valid}
use Rattle.graph.specs.EventRuns.{Event, calls, steps, drains, claims, EventRun, on_call, on_step, on_drain, on_claim, events, start, run, SameSessionResult, SessionDemand3, SameOutcome}
use Rattle.graph.specs.Counts.{quoted_steps, quote_for, quoted, result_of_label}
use Rattle.graph.proofs.Answers.{Holds, holds, holds_at, and_left, and_right, eqb_same}
use Rattle.graph.proofs.Striking.{same_eq, same_refl}
use Rattle.graph.proofs.Effects.{costs}
use Rattle.graph.proofs.Limits.{each_append}
use Rattle.graph.proofs.Outcome.{Seen, plus, seen_path, sum, through, admitting, outcome, seen, process_seen, sum_append, process_seen_law, process_plus, outcome_accepted}
use Rattle.graph.proofs.OutcomeKept.{Same, step_same}
use Rattle.graph.proofs.Labels.{by_label, is, total_append, total_is, total_results, count_out, visit_labels, live_total_law}
use Rattle.graph.proofs.Weights.{waiting_to, weight_of_call, weight_of_calls, weight_of, Lighter, step_lighter}
use Rattle.graph.proofs.Validity.{valid_fresh, Stepped, step_valid, claim_valid, ValidClaim, Accepts, accept_valid, FormFits, Fits, Sort, adds, operates, sort}
use Rattle.graph.proofs.Drains.{no_units, pending_resting, valid_progress, work_cons, work_append, drain_drains, drain_ends}

-- ONE-AT-A-TIME RESULTS have the labels i, i + 1, i + 2, ..
abbrev Labelling : ℕ → List Result → Type 0
Labelling i [] = Unit {0}
Labelling i (r ∷ rs) = (r.label ≡ i) × Labelling (suc i) rs

labelling_last : (i : ℕ) (rs : List Result) (r : Result) → Labelling i rs → r.label ≡ i + length rs → Labelling i (rs ++ (r ∷ []))
labelling_last i [] r h e = (omega (arith, e), tt)
labelling_last i (q ∷ qs) r h e = (h.0, labelling_last (suc i) qs r h.1 (omega (arith, e)))

pub pass_labels : (o : Op) (ns : List Node) → (pass_op o ns).labels ≡ o.labels
pass_labels o [] = refl
pass_labels o (n ∷ ns) = pass_labels (visit_op o n) ns ∙ visit_labels o n

-- the results after n calls
record Plain (n : ℕ) (x : World) : Type 0 where
  labelling : Labelling 1 x.results
  size : length x.results ≡ n

plain_snoc : (n : ℕ) (x : World) (r : Result) (ns : List Node) → Plain n x → r.label ≡ suc n → Plain (suc n) (record { nodes = ns; results = x.results ++ (r ∷ []) })
plain_snoc n x r ns h e = record { labelling = labelling_last 1 x.results r h.labelling (omega (arith, e, h.size)); size = omega (arith, length-append x.results (r ∷ []), h.size) }

plain_process : (c : Call) (n : ℕ) (x : World) → Plain n x → Plain (suc n) (process (labelled c (suc n)) x)
plain_process c n x h = go (sort c (suc n))
  where
    one : (o q : Op) (ns : List Node) → q.labels ≡ suc n ∷ [] → Plain (suc n) (record { nodes = ns; results = x.results ++ stored q })
    one o q ns e = rw e (plain_snoc n x _ ns h refl)

    go : Sort c (suc n) → Plain (suc n) (process (labelled c (suc n)) x)
    go (adds v i e) = rw e (plain_snoc n x _ _ h refl)
    go (operates a v i e) =
        let o : Op = record { act = a; held = v; targets = untouched (to_of c); labels = suc n ∷ [] } in
        rw e (one o (pass_op o x.nodes) _ (pass_labels o x.nodes))

process_append : (l : ℕ) (bs cs : List Call) (x : World) → process_from l (bs ++ cs) x ≡ process_from (l + length bs) cs (process_from l bs x)
process_append l [] cs x = ap (λ (m : ℕ). process_from m cs x) (sym (add-zero l))
process_append l (b ∷ bs) cs x =
    process_append (suc l) bs cs (process (labelled b l) x) ∙ ap (λ (m : ℕ). process_from m cs (process_from (suc l) bs (process (labelled b l) x))) (suc-add l (length bs) ∙ sym (add-suc l (length bs)))

pub one_at_a_time_append : (bs cs : List Call) → one_at_a_time (bs ++ cs) ≡ process_from (suc (length bs)) cs (one_at_a_time bs)
one_at_a_time_append bs cs = process_append 1 bs cs _ ∙ ap (λ (m : ℕ). process_from m cs (one_at_a_time bs)) (add_comm 1 (length bs) ∙ add-one (length bs))

pub one_at_a_time_last : (cs : List Call) (c : Call) → one_at_a_time (cs ++ (c ∷ [])) ≡ process (labelled c (suc (length cs))) (one_at_a_time cs)
one_at_a_time_last cs c = one_at_a_time_append cs (c ∷ [])

-- THE RUN: what has been claimed, with the outcome of the session, is one-at-a-time processing of the accepted calls
record Good (x : EventRun) : Type 0 where
  valid : Valid x.now
  balance : (w : Result → ℕ) → plus (sum w x.claimed) (outcome w x.now) ≡ seen w (one_at_a_time x.accepted)
  bound : quoted_steps x.taken + weight_of x.now ≤ quoted x.accepted
  labels : x.now.last ≡ length x.accepted
  plain : Plain (length x.accepted) (one_at_a_time x.accepted)
  formed : Each FormFits x.accepted

good_start : Good start
good_start = record {
  valid = valid_fresh;
  balance = λ w. refl;
  bound = omega arith;
  labels = refl;
  plain = record { labelling = tt; size = refl };
  formed = tt;
}

weight_last : (cs : List Labelled) (c : Labelled) → weight_of_calls (cs ++ (c ∷ [])) ≡ weight_of_calls cs + weight_of_call c
weight_last [] c = omega arith
weight_last (d ∷ cs) c = omega (arith, weight_last cs c)

quoted_last : (cs : List Call) (c : Call) → quoted (cs ++ (c ∷ [])) ≡ quoted cs + quote_for (to_of c)
quoted_last [] c = omega arith
quoted_last (d ∷ cs) c = omega (arith, quoted_last cs c)

-- so at most 129 for each call
pub quoted_most : (cs : List Call) → quoted cs ≤ 129 * length cs
quoted_most [] = omega arith
quoted_most (c ∷ cs) = go (to_of c) (quoted_most cs)
  where
    go : (to : To) → quoted cs ≤ 129 * length cs → quote_for to + quoted cs ≤ 129 * suc (length cs)
    go (named ts) h = omega arith
    go whole h = omega arith

-- 73 = 65 + 8, and 129 for all
quote_covers : (to : To) → length (keys_listed to) ≤ 8 → waiting_to (untouched to) ≤ quote_for to
quote_covers (named ts) h = omega arith
quote_covers whole h = omega arith

quote_some : (to : To) → 1 ≤ quote_for to
quote_some (named ts) = omega arith
quote_some whole = omega arith

weight_call : (c : Call) (l : ℕ) → FormFits c → weight_of_call (labelled c l) ≤ quote_for (to_of c)
weight_call c l f = go (sort c l)
  where
    go : Sort c l → weight_of_call (labelled c l) ≤ quote_for (to_of c)
    go (adds v i e) = rw e (quote_some (to_of c))
    go (operates a h i e) = rw e (quote_covers (to_of c) f.few)

good_accepted : (c : Call) (x : EventRun) → Good x → Fits c x.now → Valid (accepted c x.now) → Good (on_call c x (done (accepted c x.now)))
good_accepted c x g f v =
    let s = x.now in
    let d = labelled c (suc s.last) in
    let size : length (x.accepted ++ (c ∷ [])) ≡ suc (length x.accepted) = omega (arith, length-append x.accepted (c ∷ [])) in
    record {
      valid = v;
      balance = λ w.
          ap (plus (sum w x.claimed)) (outcome_accepted w c s)
          ∙ sym (process_plus w d (sum w x.claimed) (outcome w s))
          ∙ ap (process_seen w d) (g.balance w)
          ∙ sym (process_seen_law w d (one_at_a_time x.accepted))
          ∙ ap (seen w) (ap (λ (k : ℕ). process (labelled c (suc k)) (one_at_a_time x.accepted)) g.labels ∙ sym (one_at_a_time_last x.accepted c));
      bound = omega (arith, g.bound, quoted_last x.accepted c, weight_call c (suc s.last) f.form, weight_last s.top_stream d);
      labels = omega (arith, g.labels, size);
      plain = rw (one_at_a_time_last x.accepted c, size) (plain_process c (length x.accepted) (one_at_a_time x.accepted) g.plain);
      formed = each_append FormFits x.accepted (c ∷ []) g.formed (f.form, tt);
    }

good_call : (c : Call) (x : EventRun) → Good x → Good (on_call c x (accept c x.now))
good_call c x g = go (accept c x.now) (accept_valid c x.now g.valid)
  where
    go : (y : Answer Session) → Holds (Accepts c x.now) y → Good (on_call c x y)
    go (refused r) h = g
    go (done t) (holds h) = rw h.is (good_accepted c x g h.fits (rw h.is at h).valid)

good_step : (t : Step) (x : EventRun) → Good x → Good (on_step t x (step t x.now))
good_step t x g = go (step t x.now) (step_valid t x.now g.valid) (step_lighter t x.now g.valid) (λ w. step_same w t x.now)
  where
    go : (y : Answer Session) → Holds (Stepped x.now) y → Holds (Lighter (costs t) x.now) y → ((w : Result → ℕ) → Holds (Same w x.now) y) → Good (on_step t x y)
    go (refused r) a b k = g
    go (done u) (holds a) (holds b) k = record {
      valid = a.valid;
      balance = λ w. ap (plus (sum w x.claimed)) (sym (holds_at (k w))) ∙ g.balance w;
      bound = omega (arith, b, g.bound, work_append x.taken (t ∷ []), work_cons t []);
      labels = a.last ∙ g.labels;
      plain = g.plain;
      formed = g.formed;
    }

good_drain : (x : EventRun) → Good x → Good (on_drain x (drain x.now))
good_drain x g =
    let h = drain_drains x.now g.valid in
    record {
      valid = h.valid;
      balance = λ w. ap (plus (sum w x.claimed)) (sym (h.same w)) ∙ g.balance w;
      bound = omega (arith, h.lighter, g.bound, work_append x.taken (drain x.now).took);
      labels = h.last ∙ g.labels;
      plain = g.plain;
      formed = g.formed;
    }

good_claim : (l : ℕ) (x : EventRun) → Good x → Good (on_claim x (claim l x.now))
good_claim l x g = go (claim l x.now) (claim_valid l x.now g.valid)
  where
    go : (y : Answer Claimed) → Holds (ValidClaim x.now) y → Good (on_claim x y)
    go (refused r) h = g
    go (done c) (holds h) = record {
      valid = h.valid;
      balance = λ w. seen_path refl (omega (arith, h.found w, sum_append w x.claimed (c.result ∷ []))) ∙ g.balance w;
      bound = g.bound;
      labels = g.labels;
      plain = g.plain;
      formed = g.formed;
    }

good_events : (es : List Event) (x : EventRun) → Good x → Good (events es x)
good_events [] x g = g
good_events (calls c ∷ es) x g = good_events es _ (good_call c x g)
good_events (steps t ∷ es) x g = good_events es _ (good_step t x g)
good_events (drains ∷ es) x g = good_events es _ (good_drain x g)
good_events (claims l ∷ es) x g = good_events es _ (good_claim l x g)

-- RESULTS
-- 1 at the result r, else 0
same_result : Result → Result → Bool
same_result r q = eqb r.label q.label && (eqb r.value q.value && same_keys r.left q.left)

same_self : (r : Result) → same_result r r ≡ true
unfolding same_result
same_self r = rw (eqb_same r.label, eqb_same r.value) (same_refl r.left)

same_result_law : (r q : Result) → same_result r q ≡ true → q ≡ r
unfolding same_result
same_result_law r q e =
    let f = and_right (eqb r.label q.label) _ e in
    λ i. record {
      label = sym (eqb-true r.label q.label (and_left _ _ e)) i;
      value = sym (eqb-true r.value q.value (and_left _ _ f)) i;
      left = same_eq r.left q.left (and_right (eqb r.value q.value) _ f) i;
    }

matches : Result → Result → ℕ
matches r q = cond (same_result r q) 1 0

matches_self : (r : Result) → matches r r ≡ 1
unfolding matches
matches_self r = rw (same_self r)

-- a result that one-at-a-time processing has is the one that its label finds there
record Finds (i : ℕ) (r : Result) (rs : List Result) : Type 0 where
  finds : result_of_label r.label rs ≡ some r
  low : i ≤ r.label

finds_counted : (i : ℕ) (r : Result) (rs : List Result) → Labelling i rs → 1 ≤ sum (matches r) rs → Finds i r rs
unfolding matches
finds_counted i r [] d h = absurd (omega arith)
finds_counted i r (q ∷ rs) d h = go (same_result r q) refl (finds_counted (suc i) r rs d.1) h
  where
    go : (b : Bool) → same_result r q ≡ b → (1 ≤ sum (matches r) rs → Finds (suc i) r rs) → 1 ≤ cond b 1 0 + sum (matches r) rs → Finds i r (q ∷ rs)
    go true e ih h =
        let k : q ≡ r = same_result_law r q e in
        record { finds = rw (ap (λ (x : Result). eqb x.label r.label) k ∙ eqb_same r.label) (ap {B = Option Result} some k); low = omega (arith, d.0, ap (λ (x : Result). x.label) k) }
    go false e ih h =
        let f = ih (omega arith) in
        record { finds = rw (ne_eqb q.label r.label (λ (k : q.label ≡ r.label). omega (arith, f.low, d.0))) f.finds; low = omega (arith, f.low) }

-- what was claimed or is stored is a result of one-at-a-time processing
result_right : (x : EventRun) → Good x → (r : Result) → 1 ≤ sum (matches r) (x.claimed ++ x.now.results) → result_of_label r.label (one_at_a_time x.accepted).results ≡ some r
result_right x g r h =
    (finds_counted 1 r (one_at_a_time x.accepted).results g.plain.labelling (omega (arith, h, sum_append (matches r) x.claimed x.now.results, ap (λ (y : Seen). y.total) (g.balance (matches r))))).finds

-- each label from i on stands once among them
label_none : (i l : ℕ) (rs : List Result) → Labelling i rs → l < i → sum (by_label (is l)) rs ≡ 0
label_none i l [] d h = refl
label_none i l (r ∷ rs) d h = rw (ne_eqb l r.label (λ (k : l ≡ r.label). omega (arith, d.0))) (omega (arith, label_none (suc i) l rs d.1 (omega arith)))

label_one : (i l : ℕ) (rs : List Result) → Labelling i rs → i ≤ l → l < i + length rs → sum (by_label (is l)) rs ≡ 1
label_one i l [] d h k = absurd (omega arith)
label_one i l (r ∷ rs) d h k = go (eqb l r.label) refl (label_one (suc i) l rs d.1)
  where
    go : (b : Bool) → eqb l r.label ≡ b → (suc i ≤ l → l < suc i + length rs → sum (by_label (is l)) rs ≡ 1) → cond b 1 0 + sum (by_label (is l)) rs ≡ 1
    go true e ih = omega (arith, label_none (suc i) l rs d.1 (omega (arith, d.0, eqb-true l r.label e)))
    go false e ih =
        let f : l ≡ i → ⊥ = λ q. eqb-false l r.label e (q ∙ sym d.0) in
        omega (arith, ih (omega arith) (omega arith))

label_most : (i l : ℕ) (rs : List Result) → Labelling i rs → sum (by_label (is l)) rs ≤ 1
label_most i l [] d = omega arith
label_most i l (r ∷ rs) d = go (eqb l r.label) refl (label_most (suc i) l rs d.1)
  where
    go : (b : Bool) → eqb l r.label ≡ b → sum (by_label (is l)) rs ≤ 1 → cond b 1 0 + sum (by_label (is l)) rs ≤ 1
    go true e ih = omega (arith, label_none (suc i) l rs d.1 (omega (arith, d.0, eqb-true l r.label e)))
    go false e ih = omega (arith, ih)

-- a label that stands among results finds one there
record Has (l : ℕ) (rs : List Result) : Type 0 where
  which : Result
  among : 1 ≤ sum (matches which) rs
  names : which.label ≡ l
  found : result_of_label l rs ≡ some which

has_counted : (l : ℕ) (rs : List Result) → 1 ≤ sum (by_label (is l)) rs → Has l rs
has_counted l [] h = absurd (omega arith)
has_counted l (r ∷ rs) h = go (eqb l r.label) refl (has_counted l rs) h
  where
    go : (b : Bool) → eqb l r.label ≡ b → (1 ≤ sum (by_label (is l)) rs → Has l rs) → 1 ≤ cond b 1 0 + sum (by_label (is l)) rs → Has l (r ∷ rs)
    go true e ih h = record { which = r; among = omega (arith, matches_self r); names = sym (eqb-true l r.label e); found = rw (eq-eqb r.label l (sym (eqb-true l r.label e))) }
    go false e ih h =
        let f = ih (omega arith) in
        record { which = f.which; among = omega (arith, f.among); names = f.names; found = rw (ne_eqb r.label l (λ (q : r.label ≡ l). eqb-false l r.label e (sym q))) f.found }

results_same : (x : EventRun) → Good x → (l : ℕ) → 1 ≤ l → l ≤ length x.accepted → contains l (pending x.now) ≡ false →
    SameSessionResult l (x.claimed ++ x.now.results) (one_at_a_time x.accepted).results
results_same x g l h k e =
    let all = (one_at_a_time x.accepted).results in
    let f : Has l (x.claimed ++ x.now.results) = has_counted l _ (omega (
      arith,
      ap (λ (y : Seen). y.total) (g.balance (by_label (is l))),
      live_total_law (is l) x.now,
      total_append (is l) (pending x.now) (labels_of_results x.now.results),
      total_is l (pending x.now),
      count_out l (pending x.now) e,
      total_results (is l) x.now.results,
      sum_append (by_label (is l)) x.claimed x.now.results,
      label_one 1 l all g.plain.labelling h (omega (arith, g.plain.size)),
    )) in
    record {
      result = f.which;
      here = f.found;
      there = ap (λ (j : ℕ). result_of_label j all) (sym f.names) ∙ result_right x g f.which f.among;
    }

claims_right : (x : EventRun) → Good x → (pre post : List Result) (r : Result) → x.claimed ≡ pre ++ (r ∷ post) → result_of_label r.label (one_at_a_time x.accepted).results ≡ some r
claims_right x g pre post r e =
    result_right x g r (omega (arith, sum_append (matches r) x.claimed x.now.results, ap (sum (matches r)) e, sum_append (matches r) pre (r ∷ post), matches_self r))

-- GRAPH
resting_graph : (w : Result → ℕ) (ss : List Station) → backmost ss ≡ none → (through w ss []).nodes ≡ graph_of ss
resting_graph w [] e = refl
resting_graph w (s ∷ ss) e =
    let f = no_units (backmost ss) s.units s.node.key e in
    rw f.1 (ap (λ (r : List Node). s.node ∷ r) (resting_graph w ss f.0))

graph_same : (x : EventRun) → Good x → pending x.now ≡ [] → graph_of x.now.stations ≡ (one_at_a_time x.accepted).nodes
graph_same x g e =
    let r = pending_resting x.now g.valid e in
    let w : Result → ℕ = λ q. 0 in
    sym (resting_graph w x.now.stations r.units) ∙ ap (λ (cs : List Labelled). (admitting w cs x.now.stations).nodes) (sym r.calls) ∙ ap (λ (y : Seen). y.nodes) (g.balance w)

-- ONE THEOREM
pub demand3 : (es : List Event) → SessionDemand3 (run es)
demand3 es =
    let x = run es in
    let g = good_events es start good_start in
    record {
      labels = g.labels;
      results = results_same x g;
      claims = claims_right x g;
      graph = graph_same x g;
      progress = valid_progress x.now g.valid;
      bound = omega (arith, g.bound);
      one_by_one = (drain_drains x.now g.valid).steps;
      cleared = drain_ends x.now g.valid;
      valid = g.valid;
    }

-- the form of each call accepted passes its tests
pub accepted_formed : (es : List Event) → Each FormFits (run es).accepted
accepted_formed es = (good_events es start good_start).formed

-- the accepted calls make at most 64 nodes, one at a time: a drain leaves them in a valid session
pub graph_length : (ss : List Station) → length (graph_of ss) ≡ length ss
graph_length [] = refl
graph_length (s ∷ ss) = ap suc (graph_length ss)

pub accepted_nodes : (es : List Event) → length (one_at_a_time (run es).accepted).nodes ≤ 64
accepted_nodes es =
    let x = run es in
    let g = good_events es start good_start in
    let end = events (drains ∷ []) x in
    let d = good_events (drains ∷ []) x g in
    omega (arith, ap length (graph_same end d (drain_ends x.now g.valid)), graph_length end.now.stations, d.valid.room)

-- a label stands once: among the results that were claimed, or in the session
pub label_once : (es : List Event) (l : ℕ) → count l (labels_of_results (run es).claimed) + count l (live (run es).now) ≤ 1
label_once es l =
    let x = run es in
    let g = good_events es start good_start in
    omega (
      arith,
      ap (λ (y : Seen). y.total) (g.balance (by_label (is l))),
      live_total_law (is l) x.now,
      total_is l (live x.now),
      total_is l (labels_of_results x.claimed),
      total_results (is l) x.claimed,
      label_most 1 l (one_at_a_time x.accepted).results g.plain.labelling,
    )

-- COROLLARY: what two lists that accept the same calls, and end with none pending, have in common
same_find : {l : ℕ} {rs qs all : List Result} → SameSessionResult l rs all → SameSessionResult l qs all → SameSessionResult l rs qs
same_find f g = record { result = f.result; here = f.here; there = g.here ∙ sym g.there ∙ f.there }

pub same_outcome : (es fs : List Event) → (run es).accepted ≡ (run fs).accepted → pending (run es).now ≡ [] → pending (run fs).now ≡ [] → SameOutcome (run es) (run fs)
same_outcome es fs e p q =
    let x = demand3 es in
    let y = demand3 fs in
    record {
      graph = x.graph p ∙ ap (λ (cs : List Call). (one_at_a_time cs).nodes) e ∙ sym (y.graph q);
      results = λ l h k.
          let k' : l ≤ length (run fs).accepted = omega (arith, k, ap length e) in
          same_find (x.results l h k (ap (contains l) p)) (rw (← e) at (y.results l h k' (ap (contains l) q)));
    }
