-- Every step keeps the outcome.
-- Assumes nothing.
use mathlib.Core.Path.{◌≡◌, refl, sym, ◌∙◌, ap}
use Prim.Native.Nat.{ℕ, suc, ◌+◌}
use native.Mathlib.Nat.{zero-add}
use native.Mathlib.Omega.{arith}
use mathlib.Core.Bool.{Bool, true, false, not, ◌&&◌, ◌||◌, true≢false}
use mathlib.Core.List.{List, [], ◌∷◌, ◌++◌, append_assoc, append-nil}
use lib.Dec.{leb}
use lib.ListN.{length}
use borrow.Author.Tests.{not-true}
use Rattle.graph.specs.declared.affine.Affine.{Affine}
use Rattle.graph.specs.declared.act.Act.{Act}
use Rattle.graph.specs.declared.act.Act.TheVariants.{Map}
use Rattle.graph.specs.Affine.{composed}
use Rattle.graph.specs.KeyLists.{is_nil}
use Rattle.graph.specs.Targets.{Targets, reaches, struck, without_mark, left_of, same_targets}
use Rattle.graph.specs.Acts.{is_map, affine_of, result_value}
use Rattle.graph.specs.Nodes.{Node, Op, Result, hits, act_on, act_by, onward, visit_node, visit_op, nothing_left, may_finish, results_for, stored, new_node}
use Rattle.graph.specs.OneAtATime.{Labelled, add_of, op_of}
use Rattle.graph.specs.Sessions.{Station, station, Session, store}
use Rattle.graph.specs.Steps.{Step, Change, any_hits, onwards, put_unit, may_fuse, fused, enter, admitted, admit_head, step_at, step}
use Rattle.graph.proofs.Answers.{Holds, refuses, holds, holds_map, by_bool, and_left, and_right}
use Rattle.graph.proofs.Targeting.{same_targets_law, struck_misses, none_misses, none_without, left_without}
use Rattle.graph.proofs.AffineLaws.{applied_composed, map_of}
use Rattle.graph.proofs.Effects.{Reshaped, joined, cut, swapped, fusing, before, after, Effect, realised, moved, finished, reshaped, further, effect_at, effect_size, by_station}
use Rattle.graph.proofs.Outcome.{flat, flow_node, flow_ops, Seen, front, plus, seen_path, plus_zero, plus_plus, plus_swap, flat_append, flow_node_append, flow_ops_append, sum, through, admitting, outcome, sum_store, sum_ops_append, through_enter}
use Rattle.graph.proofs.Meeting.{flow_key, pass_node, pass_op_law, hit_node, hit_op, flow_node_pass, flow_ops_pass, flow_node_passes, flow_ops_passes, any_hits_key, Commute, swap_commutes, meet, meet_sym, commute_op, commute_node, commute_visited}

-- an operation that targets none of the nodes that it has yet to meet
abbrev Idle : Op → List Station → Type 0
Idle o [] = Unit {0}
Idle o (s ∷ ss) = (hits o s.node ≡ false) × Idle (onward o) ss

idle_nil : (o : Op) (ss : List Station) → nothing_left o ≡ true → Idle o ss
idle_nil o [] h = tt
idle_nil o (s ∷ ss) h = (none_misses o.targets h s.node.key, idle_nil (onward o) ss (none_without o.targets ∙ h))

finish_idle : (o : Op) (n : Node) (ss : List Station) → may_finish o n (is_nil ss) ≡ true → Idle o (station n [] ∷ ss)
finish_idle o n ss e = go (nothing_left o) refl ss e
  where
    go : (b : Bool) → nothing_left o ≡ b → (ss : List Station) → (b || (is_nil ss && not (hits o n))) ≡ true → Idle o (station n [] ∷ ss)
    go true f ss e = idle_nil o (station n [] ∷ ss) f
    go false f [] e = (not-true (hits o n) e, tt)
    go false f (s ∷ ss) e = absurd (true≢false (sym e))

flat_put_unit : (u : List Op) (us : List (List Op)) → flat (put_unit u us) ≡ u ++ flat us
flat_put_unit [] us = refl
flat_put_unit (o ∷ os) us = refl

-- REALISE: after the operations that pass the node, acting now is acting when the stream comes through
acted_node : (n : Node) (pre : List Op) (o : Op) (rest : List Op) → any_hits pre n ≡ false → hits o n ≡ true →
    flow_node (pre ++ (o ∷ rest)) n ≡ flow_node (pre ++ (act_by o n ∷ rest)) (act_on o n)
acted_node n pre o rest e h =
    flow_node_passes pre (o ∷ rest) n e ∙ ap (flow_node rest) (hit_node o n h)
    ∙ sym (flow_node_passes pre (act_by o n ∷ rest) (act_on o n) (any_hits_key pre (act_on o n) n refl ∙ e) ∙ flow_node_pass (act_by o n) rest (act_on o n) (struck_misses n.key o.targets))

acted_ops : (n : Node) (pre : List Op) (o : Op) (rest : List Op) → any_hits pre n ≡ false → hits o n ≡ true →
    flow_ops (pre ++ (o ∷ rest)) n ≡ flow_ops (pre ++ (act_by o n ∷ rest)) (act_on o n)
acted_ops n pre o rest e h =
    flow_ops_passes pre (o ∷ rest) n e ∙ (λ i. onwards pre ++ (hit_op o n h i ∷ flow_ops rest (hit_node o n h i)))
    ∙ sym (flow_ops_passes pre (act_by o n ∷ rest) (act_on o n) (any_hits_key pre (act_on o n) n refl ∙ e) ∙ ap (λ (r : List Op). onwards pre ++ r) (flow_ops_pass (act_by o n) rest (act_on o n) (struck_misses n.key o.targets)))

-- an operation with an act of the same targets and labels
abbrev with : Act → ℕ → Targets → List ℕ → Op
with a h ts ls = record { act = a; held = h; targets = ts; labels = ls }

stored_onward : (o : Op) → stored (onward o) ≡ stored o
stored_onward o = λ i. results_for o.labels (result_value o.act o.held) (left_without o.targets i)

module _ (w : Result → ℕ) where
  -- FINISH: an idle operation may as well go at once
  through_drop : (ss : List Station) (pre post : List Op) (o : Op) → Idle o ss → through w ss (pre ++ (o ∷ post)) ≡ plus (sum w (stored o)) (through w ss (pre ++ post))
  through_drop [] pre post o h = seen_path refl (omega (arith, sum_ops_append w pre (o ∷ post), sum_ops_append w pre post))
  through_drop (s ∷ ss) pre post o h =
      let n = s.node in
      let xs = flat s.units ++ pre in
      let m = flow_node xs n in
      let e : hits o m ≡ false = ap (λ (k : ℕ). reaches k o.targets) (flow_key xs n) ∙ h.0 in
      rw (← append_assoc (flat s.units) pre (o ∷ post), ← append_assoc (flat s.units) pre post, flow_node_append xs (o ∷ post) n, flow_ops_append xs (o ∷ post) n, flow_node_append xs post n, flow_ops_append xs post n)
      ((λ i. front (flow_node_pass o post m e i) (through w ss (flow_ops xs n ++ flow_ops_pass o post m e i))) ∙ ap (front _) (through_drop ss (flow_ops xs n) (flow_ops post m) (onward o) h.1)
      ∙ (λ i. front (flow_node post m) (plus (sum w (stored_onward o i)) (through w ss (flow_ops xs n ++ flow_ops post m)))))

  -- SWAP
  through_swap : (ss : List Station) (pre post : List Op) (o q : Op) → Commute o q → through w ss (pre ++ (o ∷ q ∷ post)) ≡ through w ss (pre ++ (q ∷ o ∷ post))
  through_swap [] pre post o q c = seen_path refl (omega (arith, sum_ops_append w pre (o ∷ q ∷ post), sum_ops_append w pre (q ∷ o ∷ post)))
  through_swap (s ∷ ss) pre post o q c =
      let n = s.node in
      let xs = flat s.units ++ pre in
      let m = flow_node xs n in
      let e = commute_node o q m (meet m c) in
      rw (← append_assoc (flat s.units) pre (o ∷ q ∷ post), ← append_assoc (flat s.units) pre (q ∷ o ∷ post), flow_node_append xs (o ∷ q ∷ post) n, flow_ops_append xs (o ∷ q ∷ post) n, flow_node_append xs (q ∷ o ∷ post) n, flow_ops_append xs (q ∷ o ∷ post) n)
      ((λ i. front (flow_node post (e i)) (through w ss (flow_ops xs n ++ (visit_op o m ∷ commute_op o q m (meet m c) i ∷ flow_ops post (e i)))))
      ∙ ap (front _) (through_swap ss (flow_ops xs n) _ (visit_op o m) (visit_op q m) (commute_visited o q m m c))
      ∙ (λ i. front (flow_node post (visit_node o (visit_node q m))) (through w ss (flow_ops xs n ++ (visit_op q m ∷ sym (commute_op q o m (meet_sym m c)) i ∷ flow_ops post (visit_node o (visit_node q m)))))))

  -- FUSE
  sum_labels : (ls ms : List ℕ) (v : ℕ) (ts : List ℕ) → sum w (results_for (ls ++ ms) v ts) ≡ sum w (results_for ls v ts) + sum w (results_for ms v ts)
  sum_labels [] ms v ts = sym (zero-add _)
  sum_labels (l ∷ ls) ms v ts = omega (arith, sum_labels ls ms v ts)

  through_fuse : (ss : List Station) (pre post : List Op) (f g : Affine) (h1 h2 : ℕ) (ts : Targets) (ls ms : List ℕ) →
      through w ss (pre ++ (with (Map f) h1 ts ls ∷ with (Map g) h2 ts ms ∷ post)) ≡ through w ss (pre ++ (with (Map (composed f g)) 0 ts (ls ++ ms) ∷ post))
  through_fuse [] pre post f g h1 h2 ts ls ms =
      let o = with (Map f) h1 ts ls in
      let q = with (Map g) h2 ts ms in
      let r = with (Map (composed f g)) 0 ts (ls ++ ms) in
      seen_path refl (omega (arith, sum_ops_append w pre (o ∷ q ∷ post), sum_ops_append w pre (r ∷ post), sum_labels ls ms 0 (left_of ts)))
  through_fuse (s ∷ ss) pre post f g h1 h2 ts ls ms =
      let o = with (Map f) h1 ts ls in
      let q = with (Map g) h2 ts ms in
      let r = with (Map (composed f g)) 0 ts (ls ++ ms) in
      let n = s.node in
      let xs = flat s.units ++ pre in
      let m = flow_node xs n in
      rw (← append_assoc (flat s.units) pre (o ∷ q ∷ post), ← append_assoc (flat s.units) pre (r ∷ post), flow_node_append xs (o ∷ q ∷ post) n, flow_ops_append xs (o ∷ q ∷ post) n, flow_node_append xs (r ∷ post) n, flow_ops_append xs (r ∷ post) n)
      (by_bool (reaches m.key ts)
      (λ e.
      let p_n : visit_node q (visit_node o m) ≡ act_on r m = ap (visit_node q) (hit_node o m e) ∙ hit_node q (act_on o m) e ∙ (λ i. record { key = m.key; value = sym (applied_composed f g m.value) i; links = m.links }) in
      let p_o : visit_op q (visit_node o m) ≡ onward (act_by q m) = ap (visit_op q) (hit_node o m e) ∙ hit_op q (act_on o m) e in
      (λ i. front (flow_node post (p_n i)) (through w ss (flow_ops xs n ++ (hit_op o m e i ∷ p_o i ∷ flow_ops post (p_n i)))))
      ∙ ap (front _) (through_fuse ss (flow_ops xs n) (flow_ops post (act_on r m)) f g h1 h2 (without_mark (struck m.key ts)) ls ms)
      ∙ sym (λ i. front (flow_node post (hit_node r m e i)) (through w ss (flow_ops xs n ++ (hit_op r m e i ∷ flow_ops post (hit_node r m e i))))))
      (λ e.
      let p_n : visit_node q (visit_node o m) ≡ m = ap (visit_node q) (pass_node o m e) ∙ pass_node q m e in
      let p_o : visit_op q (visit_node o m) ≡ onward q = ap (visit_op q) (pass_node o m e) ∙ pass_op_law q m e in
      (λ i. front (flow_node post (p_n i)) (through w ss (flow_ops xs n ++ (pass_op_law o m e i ∷ p_o i ∷ flow_ops post (p_n i)))))
      ∙ ap (front _) (through_fuse ss (flow_ops xs n) (flow_ops post m) f g h1 h2 (without_mark ts) ls ms)
      ∙ sym (λ i. front (flow_node post (pass_node r m e i)) (through w ss (flow_ops xs n ++ (pass_op_law r m e i ∷ flow_ops post (pass_node r m e i)))))))

  fused_through : (ss : List Station) (pre post : List Op) (o q : Op) → may_fuse o q ≡ true → through w ss (pre ++ (o ∷ q ∷ post)) ≡ through w ss (pre ++ (fused o q ∷ post))
  fused_through ss pre post o q e =
      let maps : (is_map o.act && is_map q.act) ≡ true = and_left _ _ e in
      let same : (same_targets o.targets q.targets && leb (length (o.labels ++ q.labels)) 4) ≡ true = and_right (is_map o.act && is_map q.act) _ e in
      let p : o.act ≡ Map (affine_of o.act) = map_of o.act (and_left _ _ maps) in
      let r : q.act ≡ Map (affine_of q.act) = map_of q.act (and_right (is_map o.act) _ maps) in
      let k : q.targets ≡ o.targets = same_targets_law o.targets q.targets (and_left _ _ same) in
      (λ i. through w ss (pre ++ (with (p i) o.held o.targets o.labels ∷ with (r i) q.held (k i) q.labels ∷ post)))
      ∙ through_fuse ss pre post (affine_of o.act) (affine_of q.act) o.held q.held o.targets o.labels q.labels

  -- units alone: no node and no result tells the two lists apart
  alike : {us vs : List (List Op)} → Reshaped us vs → (ss : List Station) (pre post : List Op) → through w ss (pre ++ (flat us ++ post)) ≡ through w ss (pre ++ (flat vs ++ post))
  alike (joined u v) ss pre post = ap (λ (r : List Op). through w ss (pre ++ (r ++ post))) (sym (append_assoc u v []))
  alike (cut u v a b) ss pre post = ap (λ (r : List Op). through w ss (pre ++ (r ++ post))) (append_assoc u v [])
  alike (swapped o q e) ss pre post = through_swap ss pre post o q (swap_commutes o q e)
  alike (fusing o q e) ss pre post = fused_through ss pre post o q e
  alike (before {us} {vs} ws h) ss pre post =
      rw (flat_append us ws, flat_append vs ws, append_assoc (flat us) (flat ws) post, append_assoc (flat vs) (flat ws) post) (alike h ss pre (flat ws ++ post))
  alike (after u {us} {vs} h) ss pre post =
      rw (append_assoc u (flat us) post, append_assoc u (flat vs) post, ← append_assoc pre u (flat us ++ post), ← append_assoc pre u (flat vs ++ post)) (alike h ss (pre ++ u) post)

  -- what a step at a station keeps, whatever comes in
  effect_kept : {k : ℕ} {ss : List Station} {c : Change} → Effect k ss c → (os : List Op) → through w ss os ≡ plus (sum w c.new_results) (through w c.now os)
  effect_kept (realised n pre o post us ss e h) os =
      let X = post ++ (flat us ++ os) in
      rw (append_assoc (pre ++ (o ∷ post)) (flat us) os, append_assoc (pre ++ (act_by o n ∷ post)) (flat us) os, append_assoc pre (o ∷ post) (flat us ++ os), append_assoc pre (act_by o n ∷ post) (flat us ++ os))
      ((λ i. front (acted_node n pre o X e h i) (through w ss (acted_ops n pre o X e h i))) ∙ sym (plus_zero _))
  effect_kept (moved n u us s ss e) os =
      rw (append_assoc u (flat us) os, flat_append s.units (onwards u ∷ []), append-nil (onwards u), append_assoc (flat s.units) (onwards u))
      ((λ i. front (flow_node_passes u (flat us ++ os) n e i) (through w (s ∷ ss) (flow_ops_passes u (flat us ++ os) n e i))) ∙ sym (plus_zero _))
  effect_kept (finished n pre o post us ss e) os =
      let X = flat us ++ os in
      rw (append_assoc (pre ++ (o ∷ post)) (flat us) os, flat_put_unit (pre ++ post) us, append_assoc (pre ++ post) (flat us) os, append_assoc pre (o ∷ post) X, append_assoc pre post X)
      (through_drop (station n [] ∷ ss) pre (post ++ X) o (finish_idle o n ss e))
  effect_kept (reshaped n ss h) os = alike h (station n [] ∷ ss) [] os ∙ sym (plus_zero _)
  effect_kept (further s h) os = ap (front _) (effect_kept h _)

  -- what the top stream makes of the stations depends on nothing else of them
  entering_same : (o : Op) (k : ℕ) (ss ts : List Station) → length ts ≡ length ss → ((os : List Op) → through w ss os ≡ plus k (through w ts os)) →
      (sum w (enter o ss).new_results ≡ sum w (enter o ts).new_results) × (length (enter o ts).now ≡ length (enter o ss).now) × ((os : List Op) → through w (enter o ss).now os ≡ plus k (through w (enter o ts).now os))
  entering_same o k [] [] e h = (refl, refl, h)
  entering_same o k [] (t ∷ ts) e h = absurd (omega arith)
  entering_same o k (s ∷ ss) [] e h = absurd (omega arith)
  entering_same o k (s ∷ ss) (t ∷ ts) e h =
      (refl, e, λ os. sym (through_enter w o (s ∷ ss) os ∙ plus_zero _) ∙ h (o ∷ os) ∙ ap (plus k) (through_enter w o (t ∷ ts) os ∙ plus_zero _))

  admitting_same : (cs : List Labelled) (k : ℕ) (ss ts : List Station) → length ts ≡ length ss → ((os : List Op) → through w ss os ≡ plus k (through w ts os)) → admitting w cs ss ≡ plus k (admitting w cs ts)
  admitting_same [] k ss ts e h = h []
  admitting_same (add_of l v ∷ cs) k ss ts e h =
      let n = station (new_node (length ss) v) [] in
      rw e (ap (plus _) (admitting_same cs k (n ∷ ss) (n ∷ ts) (ap suc e) (λ os. ap (front _) (h _))) ∙ plus_swap _ k _)
  admitting_same (op_of o ∷ cs) k ss ts e h =
      let f = entering_same o k ss ts e h in
      ap (plus _) (admitting_same cs k (enter o ss).now (enter o ts).now f.1 f.2) ∙ plus_swap _ k _ ∙ (λ i. plus k (plus (f.0 i) (admitting w cs (enter o ts).now)))

  storing : (new rs : List Result) (x : Seen) → plus (sum w rs) (plus (sum w new) x) ≡ plus (sum w (store new rs)) x
  storing new rs x = plus_swap _ _ x ∙ plus_plus _ _ x ∙ ap (λ (k : ℕ). plus k x) (sym (sum_store w new rs))

  abbrev pub Same : Session → Session → Type 0
  Same s t = outcome w s ≡ outcome w t

  step_at_law : (k : ℕ) (t : Step) (s : Session) → Holds (Same s) (step_at k t s)
  step_at_law k t s = holds_map _ (λ c h.
      ap (plus _) (admitting_same s.top_stream (sum w c.new_results) s.stations c.now (effect_size h) (effect_kept h)) ∙ storing c.new_results s.results _) (effect_at k t s.stations)

  step_admit : (s : Session) (cs : List Labelled) → Holds (λ t. plus (sum w s.results) (admitting w cs s.stations) ≡ outcome w t) (admit_head s cs)
  step_admit s [] = refuses
  step_admit s (c ∷ cs) = holds (storing (admitted c s.stations).new_results s.results _)

  pub step_same : (t : Step) (s : Session) → Holds (Same s) (step t s)
  step_same t s = by_station (λ t. Same s) s (step_admit s s.top_stream) (λ k t. step_at_law k t s) t
