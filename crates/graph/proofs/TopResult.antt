-- The result of a top, of one-at-a-time processing: the greatest, as signed numbers, of its start and its targets' values.
-- Assumes nothing.
use mathlib.Core.Path.{◌≡◌, refl, sym, ◌∙◌, ap, subst}
use Prim.Native.Nat.{ℕ, suc}
use mathlib.Core.Bool.{Bool, true, false, cond, ◌||◌, or-true, or-false}
use mathlib.Core.List.{List, [], ◌∷◌, ◌++◌}
use mathlib.Core.Option.{some}
use lib.Dec.{eqb}
use lib.ListN.{length}
use lib.Signed.{lt_z, ≤ℤ_refl}
use borrow.Author.Tests.{eq-eqb}
use Rattle.graph.specs.declared.act.Act.TheVariants.{Top}
use Rattle.graph.specs.Words.{signed}
use Rattle.graph.specs.KeyLists.{contains}
use Rattle.graph.specs.Targets.{To}
use Rattle.graph.specs.Acts.{signed_max}
use Rattle.graph.specs.Calls.{Call, top}
use Rattle.graph.specs.Nodes.{Node, Op, Result}
use Rattle.graph.specs.OneAtATime.{pass_op, one_at_a_time}
use Rattle.graph.specs.Counts.{result_of_label}
use Rattle.graph.specs.CallResults.{is_target, nodes_after, targeted, values_of, SignedGreatest, TopResult}
use Rattle.graph.proofs.MadeNodes.{Made, made, op, past, visit_to, past_same}
use Rattle.graph.proofs.OwnResult.{own_value}
use Rattle.graph.proofs.SignedOrder.{lt_z_true_le, lt_z_false_le, ≤ℤ-trans}

-- the greatest of `signed_max h v` and vs is the greatest of h, v and vs
greatest_of_max : (h v : ℕ) (vs : List ℕ) (g : ℕ) → SignedGreatest (signed_max h v ∷ vs) g → SignedGreatest (h ∷ v ∷ vs) g
greatest_of_max h v vs g = go (lt_z (signed h) (signed v)) refl
  where
    one_more : contains g (h ∷ vs) ≡ true → (b c : Bool) → eqb g h ≡ b → (b || (c || contains g vs)) ≡ true
    one_more m true c e = refl
    one_more m false c e = ap (λ (t : Bool). c || t) (sym (ap (λ (t : Bool). t || contains g vs) e) ∙ m) ∙ or-true c

    go : (t : Bool) → lt_z (signed h) (signed v) ≡ t → SignedGreatest (cond t v h ∷ vs) g → SignedGreatest (h ∷ v ∷ vs) g
    go true e s = record { member = ap (λ (t : Bool). eqb g h || t) s.member ∙ or-true (eqb g h); upper = (≤ℤ-trans (lt_z_true_le (signed h) (signed v) e) s.upper.0, s.upper) }
    go false e s = record { member = one_more s.member (eqb g h) (eqb g v) refl; upper = (s.upper.0, (≤ℤ-trans (lt_z_false_le (signed h) (signed v) e) s.upper.0, s.upper.1)) }

pass_top : (h : ℕ) (to : To) (ls : List ℕ) (ns : List Node) → Made ns → SignedGreatest (h ∷ values_of (targeted to ns)) (pass_op (op Top h to ls) ns).held
pass_top h to ls [] m = record { member = or-false (eqb h h) ∙ eq-eqb h h refl; upper = (≤ℤ_refl (signed h), tt) }
pass_top h to ls (n ∷ ns) m =
    subst (λ (o : Op). SignedGreatest (h ∷ values_of (targeted to (n ∷ ns))) (pass_op o ns).held) (sym (visit_to Top h to ls n)) (go (is_target n.key to) (λ j more. pass_top j more ls ns m.2))
  where
    go : (b : Bool) → ((j : ℕ) (more : To) → SignedGreatest (j ∷ values_of (targeted more ns)) (pass_op (op Top j more ls) ns).held) →
        SignedGreatest (h ∷ values_of (cond b (n ∷ targeted to ns) (targeted to ns))) (pass_op (cond b (op Top (signed_max h n.value) (past n.key to) ls) (op Top h to ls)) ns).held
    go false ih = ih h to
    go true ih =
        let g : ℕ = signed_max h n.value in
        let end : ℕ = (pass_op (op Top g (past n.key to) ls) ns).held in
        greatest_of_max h n.value (values_of (targeted to ns)) end (subst (λ (ms : List Node). SignedGreatest (g ∷ values_of ms) end) (past_same to n ns m) (ih g (past n.key to)))

pub top_result : (before later : List Call) (start : ℕ) (to : To) →
    (r : Result) → result_of_label (suc (length before)) (one_at_a_time (before ++ (top start to ∷ later))).results ≡ some r → TopResult before start to r
top_result before later start to r e =
    let own = own_value Top start to before later (top start to) (λ m. refl) r e in
    subst (SignedGreatest (start ∷ values_of (targeted to (nodes_after before)))) (sym own) (pass_top start to (suc (length before) ∷ []) (nodes_after before) (made before))
