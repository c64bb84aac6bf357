-- Where operations meet a node: an operation that passes it, and two that may change places.
-- Assumes nothing.
use mathlib.Core.Path.{◌≡◌, refl, sym, ◌∙◌, ap}
use Prim.Native.Nat.{ℕ}
use mathlib.Core.Bool.{Bool, true, false, cond, ◌||◌, true≢false}
use mathlib.Core.List.{List, [], ◌∷◌, ◌++◌}
use Rattle.graph.specs.declared.act.Act.{Act}
use Rattle.graph.specs.declared.act.Act.TheVariants.{Map, Link, Unlink, Sum, Top, Pick, Near}
use Rattle.graph.specs.Targets.{reaches, struck, disjoint_targets}
use Rattle.graph.specs.Acts.{is_fold, new_value, new_links, new_held, may_share}
use Rattle.graph.specs.Nodes.{Node, Op, hits, act_on, act_by, onward, visit_node, visit_op}
use Rattle.graph.specs.Steps.{may_swap, any_hits, onwards}
use Rattle.graph.proofs.Answers.{by_bool, or_left, or_right, and_left, and_right}
use Rattle.graph.proofs.Targeting.{awaits, reach_awaits, struck_awaits, without_awaits, disjoint_awaits}
use Rattle.graph.proofs.Outcome.{flow_node, flow_ops}

cond_key : (b : Bool) (m n : Node) → m.key ≡ n.key → (cond b m n).key ≡ n.key
cond_key true m n e = e
cond_key false m n e = refl

pub visit_key : (o : Op) (n : Node) → (visit_node o n).key ≡ n.key
visit_key o n = cond_key (hits o n) (act_on o n) n refl

pub flow_key : (os : List Op) (n : Node) → (flow_node os n).key ≡ n.key
flow_key [] n = refl
flow_key (o ∷ os) n = flow_key os (visit_node o n) ∙ visit_key o n

pub pass_node : (o : Op) (n : Node) → hits o n ≡ false → visit_node o n ≡ n
pass_node o n e = rw e

pub pass_op_law : (o : Op) (n : Node) → hits o n ≡ false → visit_op o n ≡ onward o
pass_op_law o n e = rw e

pub hit_node : (o : Op) (n : Node) → hits o n ≡ true → visit_node o n ≡ act_on o n
hit_node o n e = rw e

pub hit_op : (o : Op) (n : Node) → hits o n ≡ true → visit_op o n ≡ onward (act_by o n)
hit_op o n e = rw e

-- a stream whose first operation, or first unit, passes the node
pub flow_node_pass : (o : Op) (os : List Op) (n : Node) → hits o n ≡ false → flow_node (o ∷ os) n ≡ flow_node os n
flow_node_pass o os n e i = flow_node os (pass_node o n e i)

pub flow_ops_pass : (o : Op) (os : List Op) (n : Node) → hits o n ≡ false → flow_ops (o ∷ os) n ≡ onward o ∷ flow_ops os n
flow_ops_pass o os n e i = pass_op_law o n e i ∷ flow_ops os (pass_node o n e i)

pub flow_node_passes : (u rest : List Op) (n : Node) → any_hits u n ≡ false → flow_node (u ++ rest) n ≡ flow_node rest n
flow_node_passes [] rest n e = refl
flow_node_passes (o ∷ os) rest n e = flow_node_pass o (os ++ rest) n (or_left _ _ e) ∙ flow_node_passes os rest n (or_right (hits o n) _ e)

pub flow_ops_passes : (u rest : List Op) (n : Node) → any_hits u n ≡ false → flow_ops (u ++ rest) n ≡ onwards u ++ flow_ops rest n
flow_ops_passes [] rest n e = refl
flow_ops_passes (o ∷ os) rest n e = flow_ops_pass o (os ++ rest) n (or_left _ _ e) ∙ ap (λ (r : List Op). onward o ∷ r) (flow_ops_passes os rest n (or_right (hits o n) _ e))

pub any_hits_key : (u : List Op) (m n : Node) → m.key ≡ n.key → any_hits u m ≡ any_hits u n
any_hits_key [] m n e = refl
any_hits_key (o ∷ os) m n e = λ i. reaches (e i) o.targets || any_hits_key os m n e i

-- SWAP
-- two acts that may meet one node in either order: neither the node nor what each holds shows it
pub record Free (a b : Act) : Type 0 where
  pub values : (v : ℕ) → new_value b (new_value a v) ≡ new_value a (new_value b v)
  pub lists : (ls : List ℕ) → new_links b (new_links a ls) ≡ new_links a (new_links b ls)
  pub second : (h v : ℕ) (ls : List ℕ) → new_held b h (new_value a v) (new_links a ls) ≡ new_held b h v ls
  pub first : (h v : ℕ) (ls : List ℕ) → new_held a h (new_value b v) (new_links b ls) ≡ new_held a h v ls

free_sym : {a b : Act} → Free a b → Free b a
free_sym f = record { values = λ v. sym (f.values v); lists = λ ls. sym (f.lists ls); second = f.first; first = f.second }

-- a fold leaves the node as it is
record Reads (a : Act) : Type 0 where
  value : (v : ℕ) → new_value a v ≡ v
  links : (ls : List ℕ) → new_links a ls ≡ ls

fold_reads : (a : Act) → is_fold a ≡ true → Reads a
fold_reads (Map m) e = absurd (true≢false (sym e))
fold_reads (Link k) e = absurd (true≢false (sym e))
fold_reads (Unlink k) e = absurd (true≢false (sym e))
fold_reads Sum e = record { value = λ v. refl; links = λ ls. refl }
fold_reads Top e = record { value = λ v. refl; links = λ ls. refl }
fold_reads Pick e = record { value = λ v. refl; links = λ ls. refl }
fold_reads (Near k) e = record { value = λ v. refl; links = λ ls. refl }

reads_free : {a b : Act} → Reads a → Reads b → Free a b
reads_free {a} {b} f g = record {
  values = λ v. g.value (new_value a v) ∙ f.value v ∙ sym (f.value (new_value b v) ∙ g.value v);
  lists = λ ls. g.links (new_links a ls) ∙ f.links ls ∙ sym (f.links (new_links b ls) ∙ g.links ls);
  second = λ h v ls i. new_held b h (f.value v i) (f.links ls i);
  first = λ h v ls i. new_held a h (g.value v i) (g.links ls i);
}

-- where the swap table lets two acts share a target, they may change places
pub share_free : (a b : Act) → may_share a b ≡ true → Free a b
share_free a b e = reads_free (fold_reads a (and_left _ _ e)) (fold_reads b (and_right (is_fold a) _ e))

-- two operations that may change places: no target is shared, or the acts are free
pub data Commute (o q : Op) : Type 0 where
  parted : ((k : ℕ) → awaits k o.targets ≡ true → awaits k q.targets ≡ false) → Commute o q
  shares : Free o.act q.act → Commute o q

pub swap_commutes : (o q : Op) → may_swap o q ≡ true → Commute o q
swap_commutes o q e = go (disjoint_targets o.targets q.targets) refl e
  where
    go : (b : Bool) → disjoint_targets o.targets q.targets ≡ b → (b || may_share o.act q.act) ≡ true → Commute o q
    go true f e = parted (disjoint_awaits o.targets q.targets f)
    go false f e = shares (share_free o.act q.act e)

-- where both target the node n, their acts are free
abbrev Meet : Op → Op → Node → Type 0
Meet o q n = hits o n ≡ true → hits q n ≡ true → Free o.act q.act

pub meet : {o q : Op} (n : Node) → Commute o q → Meet o q n
meet {o} {q} n (parted f) e1 e2 = absurd (true≢false (sym (reach_awaits n.key q.targets e2) ∙ f n.key (reach_awaits n.key o.targets e1)))
meet n (shares f) e1 e2 = f

pub meet_sym : {o q : Op} (n : Node) → Commute o q → Meet q o n
meet_sym n c e2 e1 = free_sym (meet n c e1 e2)

pub commute_op : (o q : Op) (n : Node) → Meet o q n → visit_op q (visit_node o n) ≡ visit_op q n
commute_op o q n h =
    by_bool (hits o n)
    (λ e1. ap (visit_op q) (hit_node o n e1) ∙ by_bool (hits q n)
    (λ e2. hit_op q (act_on o n) e2
    ∙ (λ i. onward (record { act = q.act; held = (h e1 e2).second q.held n.value n.links i; targets = struck n.key q.targets; labels = q.labels }))
    ∙ sym (hit_op q n e2))
    (λ e2. pass_op_law q (act_on o n) e2 ∙ sym (pass_op_law q n e2)))
    (λ e1. ap (visit_op q) (pass_node o n e1))

pub commute_node : (o q : Op) (n : Node) → Meet o q n → visit_node q (visit_node o n) ≡ visit_node o (visit_node q n)
commute_node o q n h =
    by_bool (hits o n)
    (λ e1. ap (visit_node q) (hit_node o n e1) ∙ by_bool (hits q n)
    (λ e2. hit_node q (act_on o n) e2
    ∙ (λ i. record { key = n.key; value = (h e1 e2).values n.value i; links = (h e1 e2).lists n.links i })
    ∙ sym (hit_node o (act_on q n) e1) ∙ sym (ap (visit_node o) (hit_node q n e2)))
    (λ e2. pass_node q (act_on o n) e2 ∙ sym (hit_node o n e1) ∙ sym (ap (visit_node o) (pass_node q n e2))))
    (λ e1. ap (visit_node q) (pass_node o n e1) ∙ sym (pass_node o (visit_node q n) (ap (λ (k : ℕ). reaches k o.targets) (visit_key q n) ∙ e1)))

-- a visit strikes or clears, and keeps the act
cond_targets : (b : Bool) (k : ℕ) (p o : Op) → (awaits k o.targets ≡ false → awaits k p.targets ≡ false) → awaits k o.targets ≡ false → awaits k (cond b p o).targets ≡ false
cond_targets true k p o f e = f e
cond_targets false k p o f e = e

visit_targets : (o : Op) (n : Node) (k : ℕ) → awaits k o.targets ≡ false → awaits k (visit_op o n).targets ≡ false
visit_targets o n k e = without_awaits k (cond (hits o n) (act_by o n) o).targets ∙ cond_targets (hits o n) k (act_by o n) o (struck_awaits k n.key o.targets) e

cond_act : (b : Bool) (p o : Op) → p.act ≡ o.act → (cond b p o).act ≡ o.act
cond_act true p o e = e
cond_act false p o e = refl

pub visit_act : (o : Op) (n : Node) → (visit_op o n).act ≡ o.act
visit_act o n = cond_act (hits o n) (act_by o n) o refl

pub commute_visited : (o q : Op) (n m : Node) → Commute o q → Commute (visit_op o n) (visit_op q m)
commute_visited o q n m (parted f) = parted (λ k e. visit_targets q m k (by_bool (awaits k o.targets) (λ e1. f k e1) (λ e1. absurd (true≢false (sym e ∙ visit_targets o n k e1)))))
commute_visited o q n m (shares f) = shares (rw (visit_act o n, visit_act q m) f)
