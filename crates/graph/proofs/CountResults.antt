-- What a link and an unlink count, of one-at-a-time processing: from no nodes the counts are exact, and never wrap.
-- Assumes nothing.
use mathlib.Core.Path.{◌≡◌, refl, sym, ◌∙◌, ap}
use Prim.Native.Nat.{ℕ, suc, ◌+◌, ◌*◌, ◌<◌, ◌≤◌}
use native.Mathlib.Nat.{mul-le-mul_left}
use native.Mathlib.Omega.{arith}
use lib.Dec.{lit≤}
use mathlib.Core.Bool.{Bool, true, false, cond}
use mathlib.Core.List.{List, [], ◌∷◌, ◌++◌}
use mathlib.Core.Option.{some}
use lib.ListN.{length}
use Rattle.graph.specs.declared.act.Act.{Act}
use Rattle.graph.specs.declared.act.Act.TheVariants.{Link, Unlink}
use Rattle.graph.specs.Affine.{plus}
use Rattle.graph.specs.Words.{modulus}
use Rattle.graph.specs.KeyLists.{count, is_full}
use Rattle.graph.specs.Targets.{To, named, whole}
use Rattle.graph.specs.Acts.{new_held, result_value}
use Rattle.graph.specs.Calls.{Call, link, unlink}
use Rattle.graph.specs.Nodes.{Node, Op, Result, act_on}
use Rattle.graph.specs.OneAtATime.{World, operation, labelled, pass_nodes, pass_op, one_at_a_time}
use Rattle.graph.specs.Counts.{result_of_label}
use Rattle.graph.specs.CallResults.{is_target, nodes_after, targeted, most_targets, over_lists, one_if_full, LinkResult, UnlinkResult}
use Rattle.graph.proofs.Striking.{strike_less, count_strike, strike_none}
use Rattle.graph.proofs.Demand3.{one_at_a_time_last}
use Rattle.graph.proofs.MadeNodes.{Made, made, op, past, visit_at, visit_to, past_same}
use Rattle.graph.proofs.OwnResult.{own_value}

-- THE KINDS THAT COUNT: what is held grows by f of the target's list, which is at most `most`, and is the result
record CountsBy (f : List ℕ → ℕ) (most : ℕ) (a : Act) : Type 0 where
  grows : (h v : ℕ) (ls : List ℕ) → h + f ls < modulus → new_held a h v ls ≡ h + f ls
  few : (ls : List ℕ) → length ls ≤ 8 → f ls ≤ most
  result : (h : ℕ) → result_value a h ≡ h

link_counts : (k : ℕ) → CountsBy one_if_full 1 (Link k)
link_counts k = record { grows = λ h v ls l. grown (is_full ls) h l; few = λ ls l. one (is_full ls); result = λ h. refl }
  where
    grown : (b : Bool) (h : ℕ) → h + cond b 1 0 < modulus → cond b (plus h 1) h ≡ h + cond b 1 0
    grown true h l = omega arith
    grown false h l = omega arith

    one : (b : Bool) → cond {A = ℕ} b 1 0 ≤ 1
    one true = omega arith
    one false = omega arith

unlink_counts : (k : ℕ) → CountsBy (count k) 8 (Unlink k)
unlink_counts k = record { grows = λ h v ls l. omega arith; few = λ ls l. omega (arith, count_strike k ls, l); result = λ h. refl }

room : 512 < modulus
room = lit≤ tt

-- THE NUMBER OF TARGETS: past a target there is one fewer, past another node no more
one_more : (most x y : ℕ) → x < y → most + most * x ≤ most * y
one_more most x y h = omega (arith, mul-le-mul_left most h)

past_fewer : (most : ℕ) (to : To) (n : Node) (ns : List Node) → is_target n.key to ≡ true → most + most * most_targets (past n.key to) ns ≤ most * most_targets to (n ∷ ns)
past_fewer most (named ts) n ns e = one_more most _ _ (strike_less n.key ts e)
past_fewer most whole n ns e = one_more most (length ns) (suc (length ns)) (omega arith)

behind_fewer : (most : ℕ) (to : To) (n : Node) (ns : List Node) → most * most_targets to ns ≤ most * most_targets to (n ∷ ns)
behind_fewer most (named ts) n ns = omega arith
behind_fewer most whole n ns = omega (arith, one_more most (length ns) (suc (length ns)) (omega arith))

module _ (f : List ℕ → ℕ) (most : ℕ) (a : Act) (counts : CountsBy f most a) where
  over_few : (to : To) (ns : List Node) → Made ns → over_lists f (targeted to ns) ≤ most * most_targets to ns
  over_few to [] m = omega arith
  over_few to (n ∷ ns) m = go (is_target n.key to) refl (over_few (past n.key to) ns m.2) (over_few to ns m.2)
    where
      go : (b : Bool) → is_target n.key to ≡ b → over_lists f (targeted (past n.key to) ns) ≤ most * most_targets (past n.key to) ns → over_lists f (targeted to ns) ≤ most * most_targets to ns →
          over_lists f (cond b (n ∷ targeted to ns) (targeted to ns)) ≤ most * most_targets to (n ∷ ns)
      go true e h k = omega (arith, counts.few n.links m.1, h, ap (over_lists f) (past_same to n ns m), past_fewer most to n ns e)
      go false e h k = omega (arith, k, behind_fewer most to n ns)

  -- what it holds stays below the modulus, so that nothing wraps
  pass_held : (h : ℕ) (to : To) (ls : List ℕ) (ns : List Node) → Made ns → h + most * most_targets to ns < modulus → (pass_op (op a h to ls) ns).held ≡ h + over_lists f (targeted to ns)
  pass_held h to ls [] m s = omega arith
  pass_held h to ls (n ∷ ns) m s =
      ap (λ (o : Op). (pass_op o ns).held) (visit_to a h to ls n) ∙ go (is_target n.key to) refl (λ j more. pass_held j more ls ns m.2)
    where
      grown : ℕ
      grown = new_held a h n.value n.links

      go : (b : Bool) → is_target n.key to ≡ b → ((j : ℕ) (more : To) → j + most * most_targets more ns < modulus → (pass_op (op a j more ls) ns).held ≡ j + over_lists f (targeted more ns)) →
          (pass_op (cond b (op a grown (past n.key to) ls) (op a h to ls)) ns).held ≡ h + over_lists f (cond b (n ∷ targeted to ns) (targeted to ns))
      go false e ih = omega (arith, ih h to (omega (arith, s, behind_fewer most to n ns)))
      go true e ih =
          let less = past_fewer most to n ns e in
          let small : f n.links ≤ most = counts.few n.links m.1 in
          let by : grown ≡ h + f n.links = counts.grows h n.value n.links (omega (arith, s, less, small)) in
          omega (arith, ih grown (past n.key to) (omega (arith, by, s, less, small)), by, ap (over_lists f) (past_same to n ns m))

  -- the lists are those of the nodes as the calls before leave them
  result_counts : (before later : List Call) (c : Call) (to : To) → ((m : ℕ) → labelled c m ≡ operation a 0 to m) → most * most_targets to (nodes_after before) < modulus →
      (r : Result) → result_of_label (suc (length before)) (one_at_a_time (before ++ (c ∷ later))).results ≡ some r → r.value ≡ over_lists f (targeted to (nodes_after before))
  result_counts before later c to is h r e =
      omega (arith, own_value a 0 to before later c is r e ∙ counts.result _, pass_held 0 to (suc (length before) ∷ []) (nodes_after before) (made before) (omega (arith, h)))

-- "A call names 0 to 8 target keys", and there are at most 64 nodes
pub link_result : (before later : List Call) (k : ℕ) (to : To) → most_targets to (nodes_after before) ≤ 64 →
    (r : Result) → result_of_label (suc (length before)) (one_at_a_time (before ++ (link k to ∷ later))).results ≡ some r → LinkResult before to r
link_result before later k to h r e =
    let counted = result_counts one_if_full 1 (Link k) (link_counts k) before later (link k to) to (λ m. refl) (omega (arith, h, room)) r e in
    record { exact = counted; few = omega (arith, counted, over_few one_if_full 1 (Link k) (link_counts k) to (nodes_after before) (made before)) }

module _ (k : ℕ) (ls : List ℕ) where
  pass_removes : (h : ℕ) (to : To) (ns : List Node) → Made ns → over_lists length ns ≡ over_lists (count k) (targeted to ns) + over_lists length (pass_nodes (op (Unlink k) h to ls) ns)
  pass_removes h to [] m = refl
  pass_removes h to (n ∷ ns) m =
      go (is_target n.key to) (λ j more. pass_removes j more ns m.2)
      ∙ sym (λ i. over_lists (count k) (targeted to (n ∷ ns)) + (length (visit_at (Unlink k) h to ls n i).links + over_lists length (pass_nodes (visit_to (Unlink k) h to ls n i) ns)))
    where
      more_held : ℕ
      more_held = plus h (count k n.links)

      go : (b : Bool) → ((j : ℕ) (more : To) → over_lists length ns ≡ over_lists (count k) (targeted more ns) + over_lists length (pass_nodes (op (Unlink k) j more ls) ns)) → length n.links + over_lists length ns
          ≡ over_lists (count k) (cond b (n ∷ targeted to ns) (targeted to ns))
          + (length (cond b (act_on (op (Unlink k) h to ls) n) n).links + over_lists length (pass_nodes (cond b (op (Unlink k) more_held (past n.key to) ls) (op (Unlink k) h to ls)) ns))
      go true ih = omega (arith, count_strike k n.links, ih more_held (past n.key to), ap (over_lists (count k)) (past_same to n ns m))
      go false ih = omega (arith, ih h to)

  pass_idle : (h : ℕ) (to : To) (ns : List Node) → Made ns → over_lists (count k) (targeted to ns) ≡ 0 → pass_nodes (op (Unlink k) h to ls) ns ≡ ns
  pass_idle h to [] m z = refl
  pass_idle h to (n ∷ ns) m z =
      (λ i. visit_at (Unlink k) h to ls n i ∷ pass_nodes (visit_to (Unlink k) h to ls n i) ns) ∙ go (is_target n.key to) (λ j more. pass_idle j more ns m.2) z
    where
      go : (b : Bool) → ((j : ℕ) (more : To) → over_lists (count k) (targeted more ns) ≡ 0 → pass_nodes (op (Unlink k) j more ls) ns ≡ ns) → over_lists (count k) (cond b (n ∷ targeted to ns) (targeted to ns)) ≡ 0 →
          cond b (act_on (op (Unlink k) h to ls) n) n ∷ pass_nodes (cond b (op (Unlink k) (plus h (count k n.links)) (past n.key to) ls) (op (Unlink k) h to ls)) ns ≡ n ∷ ns
      go true ih z =
          let none_here : count k n.links ≡ 0 = omega arith in
          let rest : over_lists (count k) (targeted (past n.key to) ns) ≡ 0 = omega (arith, z, ap (over_lists (count k)) (past_same to n ns m)) in
          λ i. record { key = n.key; value = n.value; links = strike_none k n.links none_here i } ∷ ih (plus h (count k n.links)) (past n.key to) rest i
      go false ih z = ap (λ (ms : List Node). n ∷ ms) (ih h to (omega arith))

pub unlink_result : (before later : List Call) (k : ℕ) (to : To) → most_targets to (nodes_after before) ≤ 64 →
    (r : Result) → result_of_label (suc (length before)) (one_at_a_time (before ++ (unlink k to ∷ later))).results ≡ some r → UnlinkResult before k to r
unlink_result before later k to h r e =
    let ns : List Node = nodes_after before in
    let l : List ℕ = suc (length before) ∷ [] in
    let counted = result_counts (count k) 8 (Unlink k) (unlink_counts k) before later (unlink k to) to (λ m. refl) (omega (arith, h, room)) r e in
    let last : nodes_after (before ++ (unlink k to ∷ [])) ≡ pass_nodes (op (Unlink k) 0 to l) ns = ap (λ (y : World). y.nodes) (one_at_a_time_last before (unlink k to)) in
    record {
      exact = counted;
      removed = omega (arith, counted, ap (over_lists length) last, pass_removes k l 0 to ns (made before));
      idle = λ z. last ∙ pass_idle k l 0 to ns (made before) (sym counted ∙ z);
      few = omega (arith, counted, over_few (count k) 8 (Unlink k) (unlink_counts k) to ns (made before));
    }
