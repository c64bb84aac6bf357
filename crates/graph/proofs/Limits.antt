-- The limits of nodes, operations and results: what acts and fuses keep, so does every effect.
-- Assumes nothing.
use mathlib.Core.Path.{◌≡◌, refl, ◌∙◌, ap}
use Prim.Native.Nat.{ℕ, zero, suc, ◌+◌, ◌*◌, ◌≤◌, ◌<◌}
use native.Mathlib.Nat.{mod-lt}
use native.Mathlib.Omega.{arith}
use mathlib.Core.Bool.{Bool, true, false, cond, ◌&&◌}
use mathlib.Core.List.{List, [], ◌∷◌, ◌++◌}
use lib.Dec.{eqb, ltb, lit≤}
use lib.ListN.{length, get_or, length-append}
use lib.Signed.{lt_z}
use borrow.Author.Tests.{leb-true, leb-false, ltb-true, lt-ltb}
use Rattle.graph.specs.declared.affine.Affine.{Affine}
use Rattle.graph.specs.declared.act.Act.{Act}
use Rattle.graph.specs.declared.act.Act.TheVariants.{Map, Link, Unlink, Sum, Top, Pick, Near}
use Rattle.graph.specs.Words.{modulus, signed}
use Rattle.graph.specs.Affine.{plus}
use Rattle.graph.specs.KeyLists.{is_key, are_keys, contains, count, strike, above, rising, is_full}
use Rattle.graph.specs.Targets.{Targets, these, all, struck, without_mark, left_of, same_targets}
use Rattle.graph.specs.Acts.{is_map, affine_of, new_value, new_links, new_held, result_value}
use Rattle.graph.specs.Nodes.{Node, Op, act_on, act_by, results_for, stored, new_node, add_result}
use Rattle.graph.specs.Sessions.{Station}
use Rattle.graph.specs.Steps.{Change, onwards, put_unit, may_fuse, fused}
use Rattle.graph.specs.Valid.{Each, ValidKeys, ValidTargets, ValidNode, ValidAct, ValidHeld, ValidOp, ValidUnit, ValidStation, ValidResult}
use Rattle.graph.proofs.Answers.{and_left, and_right, and_both}
use Rattle.graph.proofs.Striking.{strike_le}
use Rattle.graph.proofs.KeyLaws.{are_keys_snoc, are_keys_strike}
use Rattle.graph.proofs.Effects.{Reshaped, joined, cut, swapped, fusing, before, after, Effect, realised, moved, finished, reshaped, further}

module _ {A : Type 0} (P : A → Type 0) where
  pub each_append : (xs ys : List A) → Each P xs → Each P ys → Each P (xs ++ ys)
  each_append [] ys g h = h
  each_append (x ∷ xs) ys g h = (g.0, each_append xs ys g.1 h)

  pub each_left : (xs ys : List A) → Each P (xs ++ ys) → Each P xs
  each_left [] ys h = tt
  each_left (x ∷ xs) ys h = (h.0, each_left xs ys h.1)

  pub each_right : (xs ys : List A) → Each P (xs ++ ys) → Each P ys
  each_right [] ys h = h
  each_right (x ∷ xs) ys h = each_right xs ys h.1

  pub each_at : (xs : List A) (d : A) → Each P xs → (i : ℕ) → i < length xs → P (get_or xs i d)
  each_at [] d e i h = absurd (omega arith)
  each_at (x ∷ xs) d e zero h = e.0
  each_at (x ∷ xs) d e (suc i) h = each_at xs d e.1 i (omega arith)

positive : 0 < modulus
positive = lit≤ tt

cond_lt : (b : Bool) (x y m : ℕ) → x < m → y < m → cond b x y < m
cond_lt true x y m g h = g
cond_lt false x y m g h = h

-- striking
pub above_lower : (i j : ℕ) (ts : List ℕ) → i ≤ j → above j ts ≡ true → above i ts ≡ true
above_lower i j [] h e = refl
above_lower i j (t ∷ ts) h e = and_both (lt-ltb i t (omega (arith, ltb-true j t (and_left _ _ e)))) (and_right (ltb j t) _ e)

above_strike : (k d : ℕ) (ts : List ℕ) → above d ts ≡ true → above d (strike k ts) ≡ true
above_strike k d [] e = refl
above_strike k d (t ∷ ts) e = go (eqb k t) (and_left _ _ e) (above_strike k t ts (and_right (ltb d t) _ e))
  where
    go : (b : Bool) → ltb d t ≡ true → above t (strike k ts) ≡ true → above d (cond b (strike k ts) (t ∷ strike k ts)) ≡ true
    go true l h = above_lower d t (strike k ts) (omega (arith, ltb-true d t l)) h
    go false l h = and_both l h

pub rising_above : (d : ℕ) (ts : List ℕ) → above d ts ≡ true → rising ts ≡ true
rising_above d [] e = refl
rising_above d (t ∷ ts) e = and_right (ltb d t) _ e

rising_strike : (k : ℕ) (ts : List ℕ) → rising ts ≡ true → rising (strike k ts) ≡ true
rising_strike k [] e = refl
rising_strike k (t ∷ ts) e = go (eqb k t) (above_strike k t ts e)
  where
    go : (b : Bool) → above t (strike k ts) ≡ true → rising (cond b (strike k ts) (t ∷ strike k ts)) ≡ true
    go true h = rising_above t (strike k ts) h
    go false h = h

valid_strike : (k : ℕ) (ts : List ℕ) → ValidKeys ts → ValidKeys (strike k ts)
valid_strike k ts h = record { few = omega (arith, strike_le k ts, h.few); keys = are_keys_strike k ts h.keys; rise = rising_strike k ts h.rise }

valid_struck : (k : ℕ) (t : Targets) → ValidTargets t → ValidTargets (struck k t)
valid_struck k (these ts) h = valid_strike k ts h
valid_struck k (all m) h = tt

valid_without : (t : Targets) → ValidTargets t → ValidTargets (without_mark t)
valid_without (these ts) h = h
valid_without (all m) h = tt

valid_none : ValidKeys []
valid_none = record { few = omega arith; keys = refl; rise = refl }

valid_left : (t : Targets) → ValidTargets t → ValidKeys (left_of t)
valid_left (these ts) h = h
valid_left (all m) h = valid_none

-- acts
valid_value : (a : Act) (v : ℕ) → v < modulus → new_value a v < modulus
valid_value (Map m) v h = mod-lt (m.a * v + m.b) positive
valid_value (Link k) v h = h
valid_value (Unlink k) v h = h
valid_value Sum v h = h
valid_value Top v h = h
valid_value Pick v h = h
valid_value (Near k) v h = h

short_linked : (k : ℕ) (ls : List ℕ) (b : Bool) → is_full ls ≡ b → length ls ≤ 8 → length (cond b ls (ls ++ (k ∷ []))) ≤ 8
short_linked k ls true e h = h
short_linked k ls false e h = omega (arith, leb-false 8 (length ls) e, length-append ls (k ∷ []))

pub short_links : (a : Act) (ls : List ℕ) → length ls ≤ 8 → length (new_links a ls) ≤ 8
short_links (Map m) ls h = h
short_links (Link k) ls h = short_linked k ls (is_full ls) refl h
short_links (Unlink k) ls h = omega (arith, strike_le k ls, h)
short_links Sum ls h = h
short_links Top ls h = h
short_links Pick ls h = h
short_links (Near k) ls h = h

are_keys_linked : (k : ℕ) (ls : List ℕ) (b : Bool) → is_key k ≡ true → are_keys ls ≡ true → are_keys (cond b ls (ls ++ (k ∷ []))) ≡ true
are_keys_linked k ls true g h = h
are_keys_linked k ls false g h = are_keys_snoc ls k ∙ and_both h g

keys_links : (a : Act) (ls : List ℕ) → ValidAct a → are_keys ls ≡ true → are_keys (new_links a ls) ≡ true
keys_links (Map m) ls g h = h
keys_links (Link k) ls g h = are_keys_linked k ls (is_full ls) g h
keys_links (Unlink k) ls g h = are_keys_strike k ls h
keys_links Sum ls g h = h
keys_links Top ls g h = h
keys_links Pick ls g h = h
keys_links (Near k) ls g h = h

valid_held : (a : Act) (h v : ℕ) (ls : List ℕ) → v < modulus → ValidHeld a h → ValidHeld a (new_held a h v ls)
valid_held (Map m) h v ls g k = k
valid_held (Link j) h v ls g k = cond_lt (is_full ls) (plus h 1) h modulus (mod-lt (1 * h + 1) positive) k
valid_held (Unlink j) h v ls g k = mod-lt (1 * h + count j ls) positive
valid_held Sum h v ls g k = mod-lt (1 * h + v) positive
valid_held Top h v ls g k = cond_lt (lt_z (signed h) (signed v)) v h modulus g k
valid_held Pick h v ls g k = g
valid_held (Near j) h v ls g k = cond_lt (contains j ls) (plus h v) h modulus (mod-lt (1 * h + v) positive) k

valid_result_value : (a : Act) (h : ℕ) → ValidHeld a h → result_value a h < modulus
valid_result_value (Map m) h k = positive
valid_result_value (Link j) h k = k
valid_result_value (Unlink j) h k = k
valid_result_value Sum h k = k
valid_result_value Top h k = k
valid_result_value Pick h k = k
valid_result_value (Near j) h k = k

valid_act_on : (o : Op) (n : Node) → ValidOp o → ValidNode n → ValidNode (act_on o n)
valid_act_on o n g h = record { value = valid_value o.act n.value h.value; few = short_links o.act n.links h.few; keys = keys_links o.act n.links g.act h.keys }

valid_act_by : (o : Op) (n : Node) → ValidOp o → ValidNode n → ValidOp (act_by o n)
valid_act_by o n g h = record {
  act = g.act;
  held = valid_held o.act o.held n.value n.links h.value g.held;
  targets = valid_struck n.key o.targets g.targets;
  named = g.named;
  few = g.few;
}

valid_fused : (o q : Op) → may_fuse o q ≡ true → ValidOp o → ValidOp (fused o q)
valid_fused o q e g =
    let f : Affine = affine_of o.act in
    let s : Affine = affine_of q.act in
    record {
      act = (mod-lt (s.a * f.a + 0) positive, mod-lt (s.a * f.b + s.b) positive);
      held = refl;
      targets = g.targets;
      named = omega (arith, g.named, length-append o.labels q.labels);
      few = leb-true (length (o.labels ++ q.labels)) 4 (and_right (same_targets o.targets q.targets) _ (and_right (is_map o.act && is_map q.act) _ e));
    }

pub valid_stored : (o : Op) → ValidOp o → Each ValidResult (stored o)
valid_stored o g = go o.labels
  where
    go : (ls : List ℕ) → Each ValidResult (results_for ls (result_value o.act o.held) (left_of o.targets))
    go [] = tt
    go (l ∷ ls) = (record { value = valid_result_value o.act o.held g.held; left = valid_left o.targets g.targets }, go ls)

pub valid_new_node : (n v : ℕ) → v < modulus → ValidNode (new_node n v)
valid_new_node n v h = record { value = h; few = omega arith; keys = refl }

pub valid_add_result : (l n : ℕ) → n < 64 → ValidResult (add_result l n)
valid_add_result l n h = record { value = omega (arith, lit≤ {m = 65} {n = modulus} tt); left = valid_none }

-- units
valid_reshaped : {us vs : List (List Op)} → Reshaped us vs → Each ValidUnit us → Each ValidUnit vs
valid_reshaped (joined u v) g =
    (record { some = omega (arith, g.0.some, length-append u v); ops = each_append ValidOp u v g.0.ops g.1.0.ops }, tt)
valid_reshaped (cut u v a b) g =
    (record { some = a; ops = each_left ValidOp u v g.0.ops }, (record { some = b; ops = each_right ValidOp u v g.0.ops }, tt))
valid_reshaped (swapped o q e) g = (g.1.0, (g.0, tt))
valid_reshaped (fusing o q e) g = (record { some = omega arith; ops = (valid_fused o q e g.0.ops.0, tt) }, tt)
valid_reshaped (before {us} {vs} ws h) g = each_append ValidUnit vs ws (valid_reshaped h (each_left ValidUnit us ws g)) (each_right ValidUnit us ws g)
valid_reshaped (after u h) g = (g.0, valid_reshaped h g.1)

valid_put : (u : List Op) (us : List (List Op)) → Each ValidOp u → Each ValidUnit us → Each ValidUnit (put_unit u us)
valid_put [] us g h = h
valid_put (o ∷ os) us g h = (record { some = omega arith; ops = g }, h)

valid_onwards : (u : List Op) → Each ValidOp u → Each ValidOp (onwards u)
valid_onwards [] g = tt
valid_onwards (o ∷ os) g = (
  record { act = g.0.act; held = g.0.held; targets = valid_without o.targets g.0.targets; named = g.0.named; few = g.0.few },
  valid_onwards os g.1,
)

onwards_length : (u : List Op) → length (onwards u) ≡ length u
onwards_length [] = refl
onwards_length (o ∷ os) = ap suc (onwards_length os)

valid_moved : (u : List Op) → ValidUnit u → ValidUnit (onwards u)
valid_moved u g = record { some = omega (arith, g.some, onwards_length u); ops = valid_onwards u g.ops }

pub record ValidChange (c : Change) : Type 0 where
  pub now : Each ValidStation c.now
  pub new_results : Each ValidResult c.new_results

pub valid_effect : {k : ℕ} {ss : List Station} {c : Change} → Effect k ss c → Each ValidStation ss → ValidChange c
valid_effect (realised n pre o post us ss e h) g =
    let ops = g.0.units.0.ops in
    let here : Each ValidOp (o ∷ post) = each_right ValidOp pre (o ∷ post) ops in
    let new : Each ValidOp (pre ++ (act_by o n ∷ post)) = each_append ValidOp pre (act_by o n ∷ post) (each_left ValidOp pre (o ∷ post) ops) (valid_act_by o n here.0 g.0.node, here.1) in
    record {
      now = (record { node = valid_act_on o n here.0 g.0.node; units = (record { some = omega (arith, length-append pre (act_by o n ∷ post)); ops = new }, g.0.units.1) }, g.1);
      new_results = tt;
    }
valid_effect (moved n u us s ss e) g = record {
  now = (record { node = g.0.node; units = g.0.units.1 }, (record { node = g.1.0.node; units = each_append ValidUnit s.units (onwards u ∷ []) g.1.0.units (valid_moved u g.0.units.0, tt) }, g.1.1));
  new_results = tt;
}
valid_effect (finished n pre o post us ss e) g =
    let ops = g.0.units.0.ops in
    let here : Each ValidOp (o ∷ post) = each_right ValidOp pre (o ∷ post) ops in
    record {
      now = (record { node = g.0.node; units = valid_put (pre ++ post) us (each_append ValidOp pre post (each_left ValidOp pre (o ∷ post) ops) here.1) g.0.units.1 }, g.1);
      new_results = valid_stored o here.0;
    }
valid_effect (reshaped n ss h) g = record { now = (record { node = g.0.node; units = valid_reshaped h g.0.units }, g.1); new_results = tt }
valid_effect (further s h) g =
    let x = valid_effect h g.1 in
    record { now = (g.0, x.now); new_results = x.new_results }
