-- While a call is pending a step is allowed; drain takes such steps, one by one, and ends with none pending.
-- Assumes nothing.
use mathlib.Core.Path.{◌≡◌, refl, sym, ◌∙◌, ap, ap₂}
use Prim.Native.Nat.{ℕ, zero, suc, ◌+◌, ◌*◌, ◌≤◌}
use native.Mathlib.Omega.{arith}
use mathlib.Core.Bool.{Bool, true, false, not, ◌||◌, true≢false, or-true}
use mathlib.Core.List.{List, [], ◌∷◌, ◌++◌}
use mathlib.Core.Option.{Option, none, some}
use lib.Dec.{eqb}
use lib.ListN.{length, length-append}
use borrow.Author.Tests.{ne_eqb}
use Rattle.graph.specs.Refusals.{Answer, refused, done, map_done}
use Rattle.graph.specs.KeyLists.{is_nil, contains}
use Rattle.graph.specs.Targets.{Targets, these, all}
use Rattle.graph.specs.Nodes.{Node, Op, Result, hits, nothing_left}
use Rattle.graph.specs.OneAtATime.{Labelled, add_of, op_of}
use Rattle.graph.specs.Sessions.{Station, station, Session, labels_of_unit, labels_of_units, labels_of_stations, labels_of_calls, labels_of_results, pending}
use Rattle.graph.specs.Steps.{Step, admit, realise, move, finish, join, split, swap, fuse, step, any_hits}
use Rattle.graph.specs.Allowed.{from_key, any_finishes, rule, allowed}
use Rattle.graph.specs.Drain.{or_here, backmost, AfterStep, taking, or_else, drain_step_at, drain_step, Drained, drain_on, drain_for, enough_steps, drain}
use Rattle.graph.specs.Valid.{Each, ValidTargets, ValidOp, ValidUnit, ValidStation, ValidCall, KeysFall, Valid}
use Rattle.graph.specs.Counts.{quoted_steps}
use Rattle.graph.specs.EventRuns.{step_all, SessionProgress}
use Rattle.graph.proofs.Answers.{Holds, refuses, holds, holds_at, is_done, is_done_map, or_left, eqb_same}
use Rattle.graph.proofs.Effects.{costs}
use Rattle.graph.proofs.OutcomeKept.{Same, step_same}
use Rattle.graph.proofs.Weights.{weight_to, waiting_to, weight_of_unit, weight_of_units, weight_of_stations, weight_of_calls, weight_of, Lighter, step_lighter}
use Rattle.graph.proofs.Validity.{Stepped, step_valid}
use Rattle.graph.proofs.Verdicts.{step_done}

-- PROGRESS
-- one of realise, finish and move is allowed
data Able (k : ℕ) (ss : List Station) : Type 0 where
  realises : rule (realise k) ss ≡ true → Able k ss
  finishes : rule (finish k) ss ≡ true → Able k ss
  moves : rule (move k) ss ≡ true → Able k ss

last_finishes : (n : Node) (o : Op) (os : List Op) → hits o n ≡ false → any_finishes (o ∷ os) n true ≡ true
last_finishes n o os e = rw e (go (nothing_left o))
  where
    go : (b : Bool) → ((b || true) || any_finishes os n true) ≡ true
    go true = refl
    go false = refl

able_head : (k : ℕ) (n : Node) (u : List Op) (us : List (List Op)) (ss : List Station) → 1 ≤ length u → Able k (station n (u ∷ us) ∷ ss)
able_head k n [] us ss h = absurd (omega arith)
able_head k n (o ∷ os) us ss h = go (any_hits (o ∷ os) n) refl ss
  where
    go : (b : Bool) → any_hits (o ∷ os) n ≡ b → (ss : List Station) → Able k (station n ((o ∷ os) ∷ us) ∷ ss)
    go true e ss = realises e
    go false e [] = finishes (last_finishes n o os (or_left (hits o n) (any_hits os n) e))
    go false e (s ∷ ss) = moves (rw e)

record AbleAt (k : ℕ) (ss : List Station) : Type 0 where
  able : Able k (from_key k ss)
  low : k ≤ length ss

able_further : (k : ℕ) (s : Station) (ss : List Station) → s.node.key ≡ suc (length ss) → AbleAt k ss → AbleAt k (s ∷ ss)
able_further k s ss e h =
    let f : eqb s.node.key k ≡ false = ne_eqb s.node.key k (λ (q : s.node.key ≡ k). omega (arith, h.low)) in
    record { able = rw f h.able; low = omega (arith, h.low) }

able_here : (k : ℕ) (n : Node) (us : List (List Op)) (ss : List Station) → n.key ≡ suc (length ss) → Each ValidUnit us → or_here none us n.key ≡ some k → AbleAt k (station n us ∷ ss)
able_here k n [] ss f g e = absurd (let z : ◌≡◌ {A = ℕ} 0 1 = cc in omega arith)
able_here k n (u ∷ us) ss f g e =
    let p : n.key ≡ k = cc in
    record { able = rw (← p, eqb_same n.key) (able_head n.key n u us ss g.0.some); low = omega (arith, p, f) }

able_backmost : (ss : List Station) (k : ℕ) → KeysFall ss → Each ValidStation ss → backmost ss ≡ some k → AbleAt k ss
able_backmost [] k f g e = absurd (let z : ◌≡◌ {A = ℕ} 0 1 = cc in omega arith)
able_backmost (s ∷ ss) k f g e = go (backmost ss) refl (able_backmost ss) e
  where
    go : (b : Option ℕ) → backmost ss ≡ b → ((j : ℕ) → KeysFall ss → Each ValidStation ss → backmost ss ≡ some j → AbleAt j ss) → or_here b s.units s.node.key ≡ some k → AbleAt k (s ∷ ss)
    go (some j) p ih e = able_further k s ss f.0 (ih k f.1 g.1 (p ∙ e))
    go none p ih e = able_here k s.node s.units ss f.0 g.0.units e

-- nothing waits
pub record Resting (s : Session) : Type 0 where
  pub units : backmost s.stations ≡ none
  pub calls : s.top_stream ≡ []

pub no_units : (b : Option ℕ) (us : List (List Op)) (k : ℕ) → or_here b us k ≡ none → (b ≡ none) × (us ≡ [])
no_units (some j) us k e = absurd (let z : ◌≡◌ {A = ℕ} 0 1 = cc in omega arith)
no_units none [] k e = (refl, refl)
no_units none (u ∷ us) k e = absurd (let z : ◌≡◌ {A = ℕ} 0 1 = cc in omega arith)

resting_labels : (ss : List Station) → backmost ss ≡ none → labels_of_stations ss ≡ []
resting_labels [] e = refl
resting_labels (s ∷ ss) e =
    let f = no_units (backmost ss) s.units s.node.key e in
    rw f.1 (resting_labels ss f.0)

resting_pending : (s : Session) → Resting s → pending s ≡ []
resting_pending s r = rw (r.calls, resting_labels s.stations r.units)

-- in a valid session every operation has a label, so that where none is pending nothing waits
no_labels_units : (us : List (List Op)) → Each ValidUnit us → length (labels_of_units us) ≡ 0 → us ≡ []
no_labels_units [] g e = refl
no_labels_units ([] ∷ us) g e = absurd (omega (arith, g.0.some))
no_labels_units ((o ∷ os) ∷ us) g e = absurd (omega (arith, g.0.ops.0.named, length-append (o.labels ++ labels_of_unit os) (labels_of_units us), length-append o.labels (labels_of_unit os)))

here_none : (b : Option ℕ) (us : List (List Op)) (k : ℕ) → b ≡ none → us ≡ [] → or_here b us k ≡ none
here_none b us k e f = rw (e, f)

no_labels_stations : (ss : List Station) → Each ValidStation ss → length (labels_of_stations ss) ≡ 0 → backmost ss ≡ none
no_labels_stations [] g e = refl
no_labels_stations (s ∷ ss) g e =
    let f = length-append (labels_of_units s.units) (labels_of_stations ss) in
    here_none (backmost ss) s.units s.node.key (no_labels_stations ss g.1 (omega arith)) (no_labels_units s.units g.0.units (omega arith))

no_labels_calls : (cs : List Labelled) → Each ValidCall cs → length (labels_of_calls cs) ≡ 0 → cs ≡ []
no_labels_calls [] g e = refl
no_labels_calls (add_of l v ∷ cs) g e = absurd (omega arith)
no_labels_calls (op_of o ∷ cs) g e = absurd (omega (arith, g.0.op.named, length-append o.labels (labels_of_calls cs)))

pub pending_resting : (s : Session) → Valid s → pending s ≡ [] → Resting s
pending_resting s g e =
    let f = length-append (labels_of_stations s.stations) (labels_of_calls s.top_stream) in
    let z : length (pending s) ≡ 0 = ap length e in
    record { units = no_labels_stations s.stations g.stations (omega arith); calls = no_labels_calls s.top_stream g.top_stream (omega arith) }

pub valid_progress : (s : Session) → Valid s → (l : ℕ) → contains l (pending s) ≡ true → SessionProgress s
valid_progress s g l h = go (backmost s.stations) refl
  where
    waiting : (cs : List Labelled) → s.top_stream ≡ cs → backmost s.stations ≡ none → SessionProgress s
    waiting [] p e = absurd (true≢false (sym h ∙ ap (contains l) (resting_pending s (record { units = e; calls = p }))))
    waiting (c ∷ cs) p e = record { what = admit; work = refl; fine = rw p }

    at : (k : ℕ) → Able k (from_key k s.stations) → SessionProgress s
    at k (realises e) = record { what = realise k; work = refl; fine = e }
    at k (finishes e) = record { what = finish k; work = refl; fine = e }
    at k (moves e) = record { what = move k; work = refl; fine = e }

    go : (b : Option ℕ) → backmost s.stations ≡ b → SessionProgress s
    go none e = waiting s.top_stream refl e
    go (some k) e = at k (able_backmost s.stations k g.falling g.stations e).able

-- DRAIN
taking_done : (t : Step) (s : Session) → is_done (taking t s) ≡ allowed t s
taking_done t s = is_done_map _ (step t s) ∙ step_done t s

done_else : {A : Type 0} (x y : Answer A) → is_done (or_else x y) ≡ (is_done x || is_done y)
done_else (refused r) y = refl
done_else (done a) y = refl

able_any : {k : ℕ} {ss : List Station} → Able k ss → (rule (realise k) ss || (rule (finish k) ss || rule (move k) ss)) ≡ true
able_any (realises e) = rw e
able_any {k} {ss} (finishes e) = rw e (or-true (rule (realise k) ss))
able_any {k} {ss} (moves e) = rw (e, or-true (rule (finish k) ss)) (or-true (rule (realise k) ss))

admit_refused : (cs : List Labelled) → not (is_nil cs) ≡ false → cs ≡ []
admit_refused [] e = refl
admit_refused (c ∷ cs) e = absurd (true≢false e)

-- drain's step is refused only where nothing waits
refused_resting : (s : Session) → Valid s → is_done (drain_step s) ≡ false → Resting s
refused_resting s g e = go (backmost s.stations) refl e
  where
    go : (b : Option ℕ) → backmost s.stations ≡ b → is_done (drain_step_at b s) ≡ false → Resting s
    go none f e = record { units = f; calls = admit_refused s.top_stream (sym (taking_done admit s) ∙ e) }
    go (some k) f e = absurd (true≢false (sym (able_any (able_backmost s.stations k g.falling g.stations f).able) ∙ sym (
        done_else (taking (realise k) s) _
        ∙ ap₂ ◌||◌ (taking_done (realise k) s) (done_else (taking (finish k) s) _ ∙ ap₂ ◌||◌ (taking_done (finish k) s) (taking_done (move k) s))) ∙ e))

-- a step that drain takes
pub record Took (s : Session) (t : AfterStep) : Type 0 where
  pub did : step t.what s ≡ done t.to
  pub cost : costs t.what ≡ 1

taking_took : (t : Step) (s : Session) → costs t ≡ 1 → Holds (Took s) (taking t s)
taking_took t s c = go (step t s) refl
  where
    go : (x : Answer Session) → step t s ≡ x → Holds (Took s) (map_done (λ u. record { what = t; to = u }) x)
    go (refused r) e = refuses
    go (done u) e = holds {a = record { what = t; to = u }} (record { did = e; cost = c })

holds_else : {A : Type 0} {P : A → Type 0} {x y : Answer A} → Holds P x → Holds P y → Holds P (or_else x y)
holds_else refuses h = h
holds_else (holds p) h = holds p

pub drain_took : (s : Session) → Holds (Took s) (drain_step s)
drain_took s = go (backmost s.stations)
  where
    go : (b : Option ℕ) → Holds (Took s) (drain_step_at b s)
    go none = taking_took admit s refl
    go (some k) = holds_else (taking_took (realise k) s refl) (holds_else (taking_took (finish k) s refl) (taking_took (move k) s refl))

-- a fact of a step, where the step was done
pub done_holds : {P : Session → Type 0} {x : Answer Session} {u : Session} → x ≡ done u → Holds P x → P u
done_holds {P} e h = holds_at (rw e at h)

pub work_cons : (t : Step) (ts : List Step) → quoted_steps (t ∷ ts) ≡ costs t + quoted_steps ts
work_cons admit ts = omega arith
work_cons (realise k) ts = omega arith
work_cons (move k) ts = omega arith
work_cons (finish k) ts = omega arith
work_cons (join k i) ts = omega arith
work_cons (split k i j) ts = omega arith
work_cons (swap k i) ts = omega arith
work_cons (fuse k i) ts = omega arith

pub work_append : (xs ys : List Step) → quoted_steps (xs ++ ys) ≡ quoted_steps xs + quoted_steps ys
work_append [] ys = omega arith
work_append (x ∷ xs) ys = omega (arith, work_cons x (xs ++ ys), work_cons x xs, work_append xs ys)

-- what drain keeps, and that its steps are the same sent one by one
pub record Drains (s : Session) (d : Drained) : Type 0 where
  pub valid : Valid d.end
  pub last : d.end.last ≡ s.last
  pub lighter : quoted_steps d.took + weight_of d.end ≤ weight_of s
  pub same : (w : Result → ℕ) → Same w s d.end
  pub steps : step_all d.took s ≡ done d.end

drains_none : (s : Session) → Valid s → Drains s (record { end = s; took = [] })
drains_none s g = record { valid = g; last = refl; lighter = omega arith; same = λ w. refl; steps = refl }

-- facts of one step of cost 1 that was done
pub record Next (s : Session) (u : Session) : Type 0 where
  pub valid : Valid u
  pub last : u.last ≡ s.last
  pub lighter : 1 + weight_of u ≤ weight_of s
  pub same : (w : Result → ℕ) → Same w s u

pub next : (s : Session) → Valid s → (t : AfterStep) → Took s t → Next s t.to
next s g t h =
    let v : Stepped s t.to = done_holds h.did (step_valid t.what s g) in
    let l : Lighter (costs t.what) s t.to = done_holds h.did (step_lighter t.what s g) in
    record { valid = v.valid; last = v.last; lighter = omega (arith, l, h.cost); same = λ w. done_holds h.did (step_same w t.what s) }

drains_more : (s : Session) (t : AfterStep) (d : Drained) → Took s t → Next s t.to → Drains t.to d → Drains s (record { end = d.end; took = t.what ∷ d.took })
drains_more s t d h n i = record {
  valid = i.valid;
  last = i.last ∙ n.last;
  lighter = omega (arith, work_cons t.what d.took, h.cost, n.lighter, i.lighter);
  same = λ w. n.same w ∙ i.same w;
  steps = rw h.did i.steps;
}

pub drains_for : (n : ℕ) (s : Session) → Valid s → Drains s (drain_for n s)
drains_for zero s g = drains_none s g
drains_for (suc n) s g = go (drain_step s) (drain_took s) (drains_for n)
  where
    go : (x : Answer AfterStep) → Holds (Took s) x → ((u : Session) → Valid u → Drains u (drain_for n u)) → Drains s (drain_on (drain_for n) x s)
    go (refused r) h ih = drains_none s g
    go (done t) (holds h) ih =
        let x = next s g t h in
        drains_more s t (drain_for n t.to) h x (ih t.to x.valid)

-- a session without weight takes no step of drain
weightless : (s : Session) → Valid s → weight_of s ≤ 0 → (t : AfterStep) → Took s t → ⊥
weightless s g h t k = omega (arith, (next s g t k).lighter)

ends_for : (n : ℕ) (s : Session) → Valid s → weight_of s ≤ n → Resting (drain_for n s).end
ends_for zero s g h = go (drain_step s) refl (drain_took s)
  where
    go : (x : Answer AfterStep) → drain_step s ≡ x → Holds (Took s) x → Resting s
    go (refused r) e k = refused_resting s g (ap is_done e)
    go (done t) e (holds k) = absurd (weightless s g h t k)
ends_for (suc n) s g h = go (drain_step s) refl (drain_took s) (ends_for n)
  where
    go : (x : Answer AfterStep) → drain_step s ≡ x → Holds (Took s) x → ((u : Session) → Valid u → weight_of u ≤ n → Resting (drain_for n u).end) → Resting (drain_on (drain_for n) x s).end
    go (refused r) e k ih = refused_resting s g (ap is_done e)
    go (done t) e (holds k) ih =
        let x = next s g t k in
        ih t.to x.valid (omega (arith, x.lighter))

-- BOUND: a valid session weighs at most 129 for each live label
weight_most : (d : ℕ) (t : Targets) → d ≤ 63 → ValidTargets t → weight_to d t ≤ 129
weight_most d (these ts) h g = omega (arith, g.few)
weight_most d (all true) h g = omega arith
weight_most d (all false) h g = omega arith

waiting_most : (t : Targets) → ValidTargets t → waiting_to t ≤ 129
waiting_most (these ts) g = omega (arith, g.few)
waiting_most (all m) g = omega arith

unit_bound : (d : ℕ) (os : List Op) → d ≤ 63 → Each ValidOp os → weight_of_unit d os ≤ 129 * length (labels_of_unit os)
unit_bound d [] h g = omega arith
unit_bound d (o ∷ os) h g = omega (arith, unit_bound d os h g.1, g.0.named, weight_most d o.targets h g.0.targets, length-append o.labels (labels_of_unit os))

units_bound : (d : ℕ) (us : List (List Op)) → d ≤ 63 → Each ValidUnit us → weight_of_units d us ≤ 129 * length (labels_of_units us)
units_bound d [] h g = omega arith
units_bound d (u ∷ us) h g = omega (arith, unit_bound d u h g.0.ops, units_bound d us h g.1, length-append (labels_of_unit u) (labels_of_units us))

stations_bound : (ss : List Station) → length ss ≤ 64 → Each ValidStation ss → weight_of_stations ss ≤ 129 * length (labels_of_stations ss)
stations_bound [] h g = omega arith
stations_bound (s ∷ ss) h g = omega (arith, units_bound (length ss) s.units (omega arith) g.0.units, stations_bound ss (omega arith) g.1, length-append (labels_of_units s.units) (labels_of_stations ss))

calls_bound : (cs : List Labelled) → Each ValidCall cs → weight_of_calls cs ≤ 129 * length (labels_of_calls cs)
calls_bound [] g = omega arith
calls_bound (add_of l v ∷ cs) g = omega (arith, calls_bound cs g.1)
calls_bound (op_of o ∷ cs) g = omega (arith, calls_bound cs g.1, g.0.op.named, waiting_most o.targets g.0.op.targets, length-append o.labels (labels_of_calls cs))

pub weight_bound : (s : Session) → Valid s → weight_of s ≤ 129 * 64
weight_bound s g =
    omega (
      arith,
      stations_bound s.stations (omega (arith, g.room)) g.stations,
      calls_bound s.top_stream g.top_stream,
      length-append (labels_of_stations s.stations) (labels_of_calls s.top_stream),
      length-append (pending s) (labels_of_results s.results),
      g.places,
    )

pub weight_enough : (s : Session) → Valid s → weight_of s ≤ enough_steps
unfolding enough_steps
weight_enough s g = omega (arith, weight_bound s g)

-- from every valid session
pub drain_ends : (s : Session) → Valid s → pending (drain s).end ≡ []
drain_ends s g = resting_pending _ (ends_for enough_steps s g (weight_enough s g))

pub drain_drains : (s : Session) → Valid s → Drains s (drain s)
drain_drains s g = drains_for enough_steps s g

-- STEP BY STEP: what drain comes to after one of its steps, and where it takes none
rests_for : (m : ℕ) (s : Session) → Valid s → weight_of s ≤ 0 → drain_for m s ≡ record { end = s; took = [] }
rests_for zero s g h = refl
rests_for (suc m) s g h = go (drain_step s) (drain_took s)
  where
    go : (x : Answer AfterStep) → Holds (Took s) x → drain_on (drain_for m) x s ≡ record { end = s; took = [] }
    go (refused r) j = refl
    go (done t) (holds j) = absurd (weightless s g h t j)

enough : (n m : ℕ) (s : Session) → Valid s → weight_of s ≤ n → weight_of s ≤ m → drain_for n s ≡ drain_for m s
enough zero m s g h k = sym (rests_for m s g h)
enough (suc n) zero s g h k = rests_for (suc n) s g k
enough (suc n) (suc m) s g h k = go (drain_step s) (drain_took s) (enough n m)
  where
    go : (x : Answer AfterStep) → Holds (Took s) x → ((u : Session) → Valid u → weight_of u ≤ n → weight_of u ≤ m → drain_for n u ≡ drain_for m u) → drain_on (drain_for n) x s ≡ drain_on (drain_for m) x s
    go (refused r) j ih = refl
    go (done t) (holds j) ih =
        let x = next s g t j in
        let e : drain_for n t.to ≡ drain_for m t.to = ih t.to x.valid (omega (arith, x.lighter)) (omega (arith, x.lighter)) in
        λ i. record { end = (e i).end; took = t.what ∷ (e i).took }

-- one step, and what is left of the steps that are enough
drain_once : (s : Session) → (n : ℕ) × (enough_steps ≡ suc n) × (drain s ≡ drain_on (drain_for n) (drain_step s) s)
unfolding enough_steps
drain_once s = (8255, refl, refl)

pub drain_next : (s : Session) → Valid s → (t : AfterStep) → drain_step s ≡ done t → drain s ≡ record { end = (drain t.to).end; took = t.what ∷ (drain t.to).took }
drain_next s g t e =
    let x = next s g t (holds_at (rw e at (drain_took s))) in
    let o = drain_once s in
    let n : ℕ = o.0 in
    let f : drain_for n t.to ≡ drain t.to = enough n enough_steps t.to x.valid (omega (arith, x.lighter, weight_enough s g, o.1)) (weight_enough t.to x.valid) in
    o.2 ∙ ap (λ (y : Answer AfterStep). drain_on (drain_for n) y s) e ∙ (λ i. record { end = (f i).end; took = t.what ∷ (f i).took })

pub drain_rests : (s : Session) (r : ℕ) → drain_step s ≡ refused r → drain s ≡ record { end = s; took = [] }
drain_rests s r e = let o = drain_once s in o.2 ∙ ap (λ (y : Answer AfterStep). drain_on (drain_for o.0) y s) e

-- "With none pending it is accepted and takes no step."
pub drain_idle : (s : Session) → Valid s → pending s ≡ [] → drain s ≡ record { end = s; took = [] }
drain_idle s g e = let r = pending_resting s g e in drain_rests s 21 (rw (r.units, r.calls))

-- every step that drain takes is an admit, realise, move or finish
works_for : (n : ℕ) (s : Session) → quoted_steps (drain_for n s).took ≡ length (drain_for n s).took
works_for zero s = refl
works_for (suc n) s = go (drain_step s) (drain_took s) (works_for n)
  where
    go : (x : Answer AfterStep) → Holds (Took s) x → ((u : Session) → quoted_steps (drain_for n u).took ≡ length (drain_for n u).took) → quoted_steps (drain_on (drain_for n) x s).took ≡ length (drain_on (drain_for n) x s).took
    go (refused r) h ih = refl
    go (done t) (holds h) ih = omega (arith, work_cons t.what (drain_for n t.to).took, h.cost, ih t.to)

pub drain_works : (s : Session) → quoted_steps (drain s).took ≡ length (drain s).took
drain_works s = works_for enough_steps s
