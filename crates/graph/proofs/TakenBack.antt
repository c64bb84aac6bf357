-- A map and its unmap, in either order, restore the value of every target present at both, if no other call from the first on acts on it
-- (S-6): of one-at-a-time processing.
-- Assumes nothing.
use mathlib.Core.Path.{◌≡◌, refl, sym, ◌∙◌, ap}
use Prim.Native.Nat.{ℕ, suc, ◌≤◌}
use native.Mathlib.Omega.{arith}
use mathlib.Core.Bool.{Bool, true, false, cond}
use mathlib.Core.List.{List, [], ◌∷◌, ◌++◌}
use mathlib.Core.Option.{some, none-ne-some, some-injective}
use lib.Dec.{eqb}
use lib.ListN.{length}
use borrow.Author.Tests.{eqb-true, eqb-false, ne_eqb}
use Rattle.graph.specs.declared.affine.Affine.{Affine}
use Rattle.graph.specs.declared.act.Act.{Act}
use Rattle.graph.specs.declared.act.Act.TheVariants.{Map}
use Rattle.graph.specs.Affine.{is_odd, applied, inverse}
use Rattle.graph.specs.Acts.{new_value, new_held}
use Rattle.graph.specs.Targets.{To, named, whole}
use Rattle.graph.specs.Calls.{Call, add, map, link, unlink, sum, top, pick, near, unmap, to_of}
use Rattle.graph.specs.Nodes.{Node, Op, act_on, visit_node, visit_op}
use Rattle.graph.specs.OneAtATime.{Labelled, World, operation, labelled, pass_nodes, process, process_from, one_at_a_time}
use Rattle.graph.specs.TakenBack.{MapAndUnmapCalls, map_call_first, unmap_call_first, acts_on_value, value_at, NoneActs, with_pair, TakenBack, Restores}
use Rattle.graph.specs.CallResults.{is_target, nodes_after}
use Rattle.graph.proofs.Striking.{contains_strike}
use Rattle.graph.proofs.Meeting.{visit_key}
use Rattle.graph.proofs.MadeNodes.{Made, made, made_process, op, past, visit_at, visit_to}
use Rattle.graph.proofs.Demand3.{one_at_a_time_append}
use Rattle.graph.proofs.Inverses.{undone, redone}

-- ONE NODE'S VALUE
-- what an act makes of the value of node k, for these targets
abbrev value_by : ℕ → Act → To → ℕ → ℕ
value_by k a to v = cond (is_target k to) (new_value a v) v

-- past another node they are targets still
past_other : (k j : ℕ) (to : To) → (k ≡ j → ⊥) → is_target k (past j to) ≡ is_target k to
past_other k j (named ts) d = contains_strike k j ts d
past_other k j whole d = refl

visit_value : (a : Act) (h : ℕ) (to : To) (ls : List ℕ) (n : Node) → (visit_node (op a h to ls) n).value ≡ value_by n.key a to n.value
visit_value a h to ls n = ap (λ (m : Node). m.value) (visit_at a h to ls n) ∙ go (is_target n.key to)
  where
    go : (b : Bool) → (cond b (act_on (op a h to ls) n) n).value ≡ cond b (new_value a n.value) n.value
    go true = refl
    go false = refl

module _ (k : ℕ) (a : Act) (ls : List ℕ) where
  pass_value : (h : ℕ) (to : To) (ns : List Node) (v : ℕ) → value_at k ns ≡ some v → value_at k (pass_nodes (op a h to ls) ns) ≡ some (value_by k a to v)
  pass_value h to [] v e = absurd (none-ne-some v e)
  pass_value h to (n ∷ ns) v e =
      ap (λ (j : ℕ). cond (eqb j k) (some (visit_node (op a h to ls) n).value) (value_at k (pass_nodes (visit_op (op a h to ls) n) ns))) (visit_key (op a h to ls) n)
      ∙ go (eqb n.key k) refl e (λ j more. pass_value j more ns v)
    where
      -- the nodes behind, where node k is among them
      later : (b : Bool) → (k ≡ n.key → ⊥) → value_at k ns ≡ some v → ((j : ℕ) (more : To) → value_at k ns ≡ some v → value_at k (pass_nodes (op a j more ls) ns) ≡ some (value_by k a more v)) →
          value_at k (pass_nodes (cond b (op a (new_held a h n.value n.links) (past n.key to) ls) (op a h to ls)) ns) ≡ some (value_by k a to v)
      later true d e ih = ih _ (past n.key to) e ∙ ap (λ (t : Bool). some (cond t (new_value a v) v)) (past_other k n.key to d)
      later false d e ih = ih h to e

      go : (b : Bool) → eqb n.key k ≡ b → cond b (some n.value) (value_at k ns) ≡ some v →
          ((j : ℕ) (more : To) → value_at k ns ≡ some v → value_at k (pass_nodes (op a j more ls) ns) ≡ some (value_by k a more v)) →
          cond b (some (visit_node (op a h to ls) n).value) (value_at k (pass_nodes (visit_op (op a h to ls) n) ns)) ≡ some (value_by k a to v)
      go true f e ih = ap some (visit_value a h to ls n ∙ (λ i. value_by (eqb-true n.key k f i) a to (some-injective n.value v e i)))
      go false f e ih =
          ap (λ (o : Op). value_at k (pass_nodes o ns)) (visit_to a h to ls n) ∙ later (is_target n.key to) (λ q. eqb-false n.key k f (sym q)) e ih

-- a node that is there has a key that was given
at_most : (k : ℕ) (ns : List Node) (v : ℕ) → Made ns → value_at k ns ≡ some v → k ≤ length ns
at_most k [] v m e = absurd (none-ne-some v e)
at_most k (n ∷ ns) v m e = go (eqb n.key k) refl e (at_most k ns v m.2)
  where
    go : (b : Bool) → eqb n.key k ≡ b → cond b (some n.value) (value_at k ns) ≡ some v → (value_at k ns ≡ some v → k ≤ length ns) → k ≤ suc (length ns)
    go true f e ih = omega (arith, eqb-true n.key k f, m.0)
    go false f e ih = omega (arith, ih e)

-- CALLS
module _ (k v : ℕ) where
  -- a call that does not act on the value leaves it
  abbrev Keeps : Call → Type 0
  Keeps c = (l : ℕ) (x : World) → Made x.nodes → value_at k x.nodes ≡ some v → value_at k (process (labelled c l) x).nodes ≡ some v

  keeps_operation : (a : Act) (h : ℕ) (to : To) → value_by k a to v ≡ v → (l : ℕ) (x : World) → value_at k x.nodes ≡ some v → value_at k (process (operation a h to l) x).nodes ≡ some v
  keeps_operation a h to s l x e = pass_value k a (l ∷ []) h to x.nodes v e ∙ ap some s

  keeps_unchanged : (a : Act) (h : ℕ) (to : To) → new_value a v ≡ v → (l : ℕ) (x : World) → value_at k x.nodes ≡ some v → value_at k (process (operation a h to l) x).nodes ≡ some v
  keeps_unchanged a h to s = keeps_operation a h to (go (is_target k to))
    where
      go : (b : Bool) → cond b (new_value a v) v ≡ v
      go true = s
      go false = refl

  keeps : (c : Call) → acts_on_value k c ≡ false → Keeps c
  keeps (add w) f l x m e = ap (λ (b : Bool). cond b (some w) (value_at k x.nodes)) (ne_eqb (suc (length x.nodes)) k (λ q. omega (arith, at_most k x.nodes v m e, q))) ∙ e
  keeps (map a b to) f l x m e = keeps_operation _ 0 to (ap (λ (t : Bool). cond t (applied (record { a = a; b = b }) v) v) f) l x e
  keeps (link j to) f l x m e = keeps_unchanged _ 0 to refl l x e
  keeps (unlink j to) f l x m e = keeps_unchanged _ 0 to refl l x e
  keeps (sum s to) f l x m e = keeps_unchanged _ s to refl l x e
  keeps (top s to) f l x m e = keeps_unchanged _ s to refl l x e
  keeps (pick s to) f l x m e = keeps_unchanged _ s to refl l x e
  keeps (near j s to) f l x m e = keeps_unchanged _ s to refl l x e
  keeps (unmap a b to) f l x m e = keeps_operation _ 0 to (ap (λ (t : Bool). cond t (applied (inverse (record { a = a; b = b })) v) v) f) l x e

  keeps_all : (l : ℕ) (cs : List Call) (x : World) → Made x.nodes → NoneActs k cs → value_at k x.nodes ≡ some v → value_at k (process_from l cs x).nodes ≡ some v
  keeps_all l [] x m h e = e
  keeps_all l (c ∷ cs) x m h e = keeps_all (suc l) cs (process (labelled c l) x) (made_process c l x m) h.1 (keeps c h.0 l x m e)

-- a map of the value, between calls that leave it
module _ (k : ℕ) (d : Call) (t : is_target k (to_of d) ≡ true) (f : Affine) (is : (l : ℕ) → labelled d l ≡ operation (Map f) 0 (to_of d) l) where
  mapped : (v l : ℕ) (x : World) → value_at k x.nodes ≡ some v → value_at k (process (labelled d l) x).nodes ≡ some (applied f v)
  mapped v l x e =
      ap (λ (y : Labelled). value_at k (process y x).nodes) (is l)
      ∙ pass_value k (Map f) (l ∷ []) 0 (to_of d) x.nodes v e
      ∙ ap (λ (b : Bool). some (cond b (applied f v) v)) t

  mapped_among : (v l : ℕ) (between later : List Call) (x : World) → Made x.nodes → NoneActs k between → NoneActs k later →
      value_at k x.nodes ≡ some v → value_at k (process_from l (between ++ (d ∷ later)) x).nodes ≡ some (applied f v)
  mapped_among v l [] later x m h g e = keeps_all k (applied f v) (suc l) later (process (labelled d l) x) (made_process d l x m) g (mapped v l x e)
  mapped_among v l (c ∷ cs) later x m h g e = mapped_among v (suc l) cs later (process (labelled c l) x) (made_process c l x m) h.1 g (keeps k v c h.0 l x m e)

-- THE PAIR
pub restores : (a k : ℕ) (before : List Call) (c : Call) (between : List Call) (d : Call) (later : List Call) → is_odd a ≡ true → TakenBack a k c between d later →
    Restores k before c between d later
restores a k before c between d later o t v small e = go c d t.pair t.first t.second
  where
    both : (c d : Call) (f g : Affine) → ((l : ℕ) → labelled c l ≡ operation (Map f) 0 (to_of c) l) → ((l : ℕ) → labelled d l ≡ operation (Map g) 0 (to_of d) l) →
        is_target k (to_of c) ≡ true → is_target k (to_of d) ≡ true → applied g (applied f v) ≡ v → value_at k (nodes_after (with_pair before c between d later)) ≡ some v
    both c d f g ic id tc td r =
        let l : ℕ = suc (length before) in
        let x : World = one_at_a_time before in
        let y : World = process (labelled c l) x in
        ap (λ (z : World). value_at k z.nodes) (one_at_a_time_append before (c ∷ (between ++ (d ∷ later))))
        ∙ mapped_among k d td g id (applied f v) (suc l) between later y (made_process c l x (made before)) t.nothing_else t.nothing_after (mapped k c tc f ic v l x e)
        ∙ ap some r

    go : (c d : Call) → MapAndUnmapCalls a c d → is_target k (to_of c) ≡ true → is_target k (to_of d) ≡ true → value_at k (nodes_after (with_pair before c between d later)) ≡ some v
    go (map _ _ _) (unmap _ _ _) (map_call_first {b = b}) tc td =
        let m : Affine = record { a = a; b = b } in
        both _ _ m (inverse m) (λ l. refl) (λ l. refl) tc td (undone m v o small)
    go (unmap _ _ _) (map _ _ _) (unmap_call_first {b = b}) tc td =
        let m : Affine = record { a = a; b = b } in
        both _ _ (inverse m) m (λ l. refl) (λ l. refl) tc td (redone m v o small)
    go (add value) _ x3 tc td = elim x3 [ ]
    go (map _ b to) (add value) x7 tc td = elim x7 [ ]
    go (map _ b to) (map _ _ _) x8 tc td = elim x8 [ ]
    go (map _ b to) (link key _) x9 tc td = elim x9 [ ]
    go (map _ b to) (unlink key _) x10 tc td = elim x10 [ ]
    go (map _ b to) (sum start _) x11 tc td = elim x11 [ ]
    go (map _ b to) (top start _) x12 tc td = elim x12 [ ]
    go (map _ b to) (pick start _) x13 tc td = elim x13 [ ]
    go (map _ b to) (near key start _) x14 tc td = elim x14 [ ]
    go (link key to) _ x5 tc td = elim x5 [ ]
    go (unlink key to) _ x6 tc td = elim x6 [ ]
    go (sum start to) _ x7 tc td = elim x7 [ ]
    go (top start to) _ x8 tc td = elim x8 [ ]
    go (pick start to) _ x9 tc td = elim x9 [ ]
    go (near key start to) _ x10 tc td = elim x10 [ ]
    go (unmap _ b to) (add value) x14 tc td = elim x14 [ ]
    go (unmap _ b to) (link key _) x15 tc td = elim x15 [ ]
    go (unmap _ b to) (unlink key _) x16 tc td = elim x16 [ ]
    go (unmap _ b to) (sum start _) x17 tc td = elim x17 [ ]
    go (unmap _ b to) (top start _) x18 tc td = elim x18 [ ]
    go (unmap _ b to) (pick start _) x19 tc td = elim x19 [ ]
    go (unmap _ b to) (near key start _) x20 tc td = elim x20 [ ]
    go (unmap _ b to) (unmap _ _ _) x21 tc td = elim x21 [ ]
