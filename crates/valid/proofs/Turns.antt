-- One turn of each loop of the tests: the answer for the whole is the answer for what is left.
-- Assumes nothing.
use mathlib.Core.Path.{◌≡◌, refl, sym, ap, subst, ◌∙◌}
use Prim.Native.Nat.{ℕ, zero, suc, ◌+◌, ◌-◌, ◌%◌, ◌≤◌, ◌<◌}
use native.Mathlib.Numerals.{add-one}
use native.Mathlib.Omega.{arith}
use mathlib.Core.Bool.{Bool, true, false, cond, not, ◌&&◌, ◌||◌, or-false, true≢false, or_assoc}
use mathlib.Core.List.{List, [], ◌∷◌, ◌++◌, append_assoc, append-nil}
use lib.Dec.{eqb, leb}
use native.Mathlib.Decide.{dec_lt}
use borrow.Rule.Slice.PartMut.{put_mid}
use Rattle.std.specs.Prelude.{min}
use Rattle.std.proofs.lemmas.Slice.{take-put_mid}
use lib.ListN.{length, length-append, length-take, get_or, set, take, drop, replicate, drop_of_length-le, length-drop, length-set}
use lib.Seq.{drop-cons, take-suc, take_all, take-suc-set, take-add, take-take, take-append-add, take_at, drop_at, drop-append-le, length-take-le, get_or-take, get_or-set_same, get_or-set_other}
use borrow.Author.Tests.{eq-eqb, eqb-true, eqb-false, ne_eqb, le-leb, lt-leb}
use Rattle.graph.specs.KeyLists.{contains}
use Rattle.graph.proofs.Answers.{and_right}
use Rattle.records.specs.declared.op.OpRecord.{OpRecord}
use Rattle.records.specs.declared.result.ResultRecord.{ResultRecord}
use Rattle.valid.specs.Inner.Decoded.{labels_of}
use Rattle.valid.specs.Inner.Tests.{walk, is_add_record, adds_among, op_labels, result_labels, given_once, Gathers, Padded}

-- TESTS one after the other
pub yes_test : {a b c : Bool} → a ≡ true → c ≡ b → c ≡ (a && b)
yes_test {a} {b} {c} e q = q ∙ sym (ap (λ (x : Bool). x && b) e)

-- WALKS
module _ {S A : Type 0} (ok : S → A → Bool) (next : S → A → S) (xs : List A) (d : A) (i : ℕ) (st : S) where
  pub walk_next : i < length xs → ok st (get_or xs i d) ≡ true → walk ok next (next st (get_or xs i d)) (drop (i + 1) xs) ≡ walk ok next st (drop i xs)
  unfolding walk
  walk_next h e = rw (add-one, drop-cons xs i d h, e)

  pub walk_not : i < length xs → ok st (get_or xs i d) ≡ false → walk ok next st (drop i xs) ≡ false
  unfolding walk
  walk_not h e = rw (drop-cons xs i d h, e)

  pub walk_end : length xs ≤ i → walk ok next st (drop i xs) ≡ true
  unfolding walk
  walk_end h = rw (drop_of_length-le xs h)

-- ADDS
module _ (os : List OpRecord) (d : OpRecord) (i : ℕ) where
  pub adds_next : (b : Bool) → i < length os → is_add_record (get_or os i d) ≡ b → adds_among (drop i os) ≡ cond b 1 0 + adds_among (drop (i + 1) os)
  unfolding adds_among
  adds_next b h e = rw (drop-cons os i d h, e, add-one)

  pub adds_end : length os ≤ i → adds_among (drop i os) ≡ 0
  unfolding adds_among
  adds_end h = rw (drop_of_length-le os h)

-- THE POOL
labels_append : (os ps : List OpRecord) → op_labels (os ++ ps) ≡ op_labels os ++ op_labels ps
unfolding op_labels
labels_append [] ps = refl
labels_append (o ∷ os) ps = ap (λ (l : List ℕ). labels_of o.labels ++ l) (labels_append os ps) ∙ sym (append_assoc (labels_of o.labels) (op_labels os) (op_labels ps))

pub ops_next : (os : List OpRecord) (d : OpRecord) (i : ℕ) → i < length os → op_labels (take (i + 1) os) ≡ op_labels (take i os) ++ labels_of (get_or os i d).labels
unfolding op_labels
ops_next os d i h =
    ap (λ (n : ℕ). op_labels (take n os)) (add-one i) ∙ ap op_labels (take-suc os i d h)
    ∙ labels_append (take i os) (get_or os i d ∷ []) ∙ ap (λ (l : List ℕ). op_labels (take i os) ++ l) (append-nil (labels_of (get_or os i d).labels))

results_append : (os ps : List ResultRecord) → result_labels (os ++ ps) ≡ result_labels os ++ result_labels ps
unfolding result_labels
results_append [] ps = refl
results_append (o ∷ os) ps = ap (λ (l : List ℕ). o.label ∷ l) (results_append os ps)

pub results_next : (rs : List ResultRecord) (d : ResultRecord) (i : ℕ) → i < length rs → result_labels (take (i + 1) rs) ≡ result_labels (take i rs) ++ ((get_or rs i d).label ∷ [])
unfolding result_labels
results_next rs d i h = ap (λ (n : ℕ). result_labels (take n rs)) (add-one i) ∙ ap result_labels (take-suc rs i d h) ∙ results_append (take i rs) (get_or rs i d ∷ [])

pub length_results : (rs : List ResultRecord) → length (result_labels rs) ≡ length rs
unfolding result_labels
length_results [] = refl
length_results (r ∷ rs) = ap suc (length_results rs)

-- one label more in the pool
pub push : (pool before : List ℕ) (ls : List ℕ) (at j v : ℕ) → at + j < length pool → take (at + j) pool ≡ take at before ++ ls → take (at + (j + 1)) (set pool (at + j) v) ≡ take at before ++ (ls ++ (v ∷ []))
push pool before ls at j v h e =
    let q : at + (j + 1) ≡ suc (at + j) = omega arith in
    ap (λ (n : ℕ). take n (set pool (at + j) v)) q ∙ take-suc-set pool (at + j) v h
    ∙ ap (λ (l : List ℕ). l ++ (v ∷ [])) e ∙ append_assoc (take at before) ls (v ∷ [])

-- labels written over a part of the pool
pub put_part : (pool ls : List ℕ) (at k n : ℕ) → k ≡ n → n ≡ length ls → at + n ≤ length pool → Gathers ls at pool (put_mid at k pool ls) (at + n)
put_part pool ls at k n q e h =
    let room : at ≤ length pool = omega arith in
    record {
      size = simp (length-append, length-take, length-drop) (omega arith);
      count = ap (λ (m : ℕ). at + m) e;
      front = take-put_mid at k pool ls (at + n) (omega arith) room;
    }

-- of the labels put, the first n
pub put_first : {pool after ls : List ℕ} {at m : ℕ} (n : ℕ) → at ≤ length pool → n ≤ m → Gathers ls at pool after (at + m) → Gathers (take n ls) at pool after (at + n)
put_first {pool} {after} {ls} {at} {m} n room h g =
    let q : length (take at pool) ≡ at = length-take-le at pool room in
    record {
      size = g.size;
      count = ap (λ (k : ℕ). at + k) (sym (length-take-le n ls (omega (arith, g.count))));
      front =
          sym (take-take (at + n) (at + m) after (omega arith)) ∙ ap (take (at + n)) g.front
          ∙ ap (λ (k : ℕ). take (k + n) (take at pool ++ ls)) (sym q) ∙ take-append-add (take at pool) ls n;
    }

pub take_min : (n m : ℕ) (l : List ℕ) → length l ≡ m → take (min n m) l ≡ take n l
take_min n m l e = go (dec_lt n m)
  where
    go : Dec (n < m) → take (min n m) l ≡ take n l
    go (yes h) = ap (λ (k : ℕ). take k l) (omega arith)
    go (no h) = take_all (min n m) l (omega arith) ∙ sym (take_all n l (omega arith))

-- IS IT AMONG THEM
pub contains_append : (x : ℕ) (s t : List ℕ) → contains x (s ++ t) ≡ (contains x s || contains x t)
contains_append x [] t = refl
contains_append x (y ∷ s) t = ap (λ (b : Bool). eqb x y || b) (contains_append x s t) ∙ sym (or_assoc (eqb x y) (contains x s) (contains x t))

eqb_turned : (x y : ℕ) → eqb y x ≡ eqb x y
eqb_turned x y = go (eqb x y) refl
  where
    go : (b : Bool) → eqb x y ≡ b → eqb y x ≡ b
    go true e = eq-eqb y x (sym (eqb-true x y e))
    go false e = ne_eqb y x (λ q. eqb-false x y e (sym q))

-- one more of them
pub among_more : (x : ℕ) (s : List ℕ) (j : ℕ) → j < length s → contains x (take (j + 1) s) ≡ (contains x (take j s) || eqb (get_or s j 0) x)
among_more x s j h =
    ap (λ (n : ℕ). contains x (take n s)) (add-one j) ∙ ap (contains x) (take-suc s j 0 h)
    ∙ contains_append x (take j s) (get_or s j 0 ∷ [])
    ∙ ap (λ (b : Bool). contains x (take j s) || b) (or-false (eqb x (get_or s j 0)) ∙ sym (eqb_turned x (get_or s j 0)))

none_zero : (x : ℕ) → 1 ≤ x → (m k : ℕ) → contains x (take m (replicate k 0)) ≡ false
none_zero x h zero k = refl
none_zero x h (suc m) zero = refl
none_zero x h (suc m) (suc k) = rw (ne_eqb x 0 (λ e. omega arith)) (none_zero x h m k)

-- the zeros after n labels are none of them
module _ (n : ℕ) (s : List ℕ) (p : Padded n s) (k : ℕ) (h : k ≤ n) where
  window : take 64 (drop k s) ≡ drop k (take n s) ++ take ((k + 64) - n) (replicate 64 0)
  window =
      let live : List ℕ = take n s in
      let m : ℕ = (k + 64) - n in
      let size : length live ≡ n = length-take-le n s (omega (arith, p.size)) in
      let q : k + 64 ≡ length live + m = omega (arith, p.few) in
      let front : take k s ++ take 64 (drop k s) ≡ live ++ take m (replicate 64 0) =
      sym (take-add k 64 s) ∙ sym (take-take (k + 64) (n + 64) s (omega arith)) ∙ ap (take (k + 64)) p.front
      ∙ ap (λ (i : ℕ). take i (live ++ replicate 64 0)) q ∙ take-append-add live (replicate 64 0) m in
      sym (drop_at (take k s) (take 64 (drop k s)) k (length-take-le k s (omega (arith, p.size)))) ∙ ap (drop k) front
      ∙ drop-append-le k live (take m (replicate 64 0)) (omega arith)

  pub among_padded : (x : ℕ) → 1 ≤ x → contains x (take 64 (drop k s)) ≡ contains x (drop k (take n s))
  among_padded x a =
      ap (contains x) window ∙ contains_append x (drop k (take n s)) (take ((k + 64) - n) (replicate 64 0))
      ∙ ap (λ (b : Bool). contains x (drop k (take n s)) || b) (none_zero x a ((k + 64) - n) 64) ∙ or-false (contains x (drop k (take n s)))

-- 64 zeros put after n labels
module _ (n : ℕ) (before after : List ℕ) where
  kept : n ≤ length before → Gathers (replicate 64 0) n before after (n + 64) → take n after ≡ take n before
  kept h g = sym (take-take n (n + 64) after (omega arith)) ∙ ap (take n) g.front ∙ take_at (take n before) (replicate 64 0) n (length-take-le n before h)

  pub padded : n ≤ 64 → n + 64 ≤ length before → Gathers (replicate 64 0) n before after (n + 64) → Padded n after
  padded few h g =
      record { few = few; size = omega (arith, g.size); front = g.front ∙ ap (λ (l : List ℕ). l ++ replicate 64 0) (sym (kept (omega arith) g)) }

-- GIVEN ONCE: i labels are behind us
module _ (last : ℕ) (l : List ℕ) (i x : ℕ) (h : i < length l) (e : get_or l i 0 ≡ x) where
  head : drop i l ≡ x ∷ drop (i + 1) l
  head = drop-cons l i 0 h ∙ ap (λ (y : ℕ). y ∷ drop (suc i) l) e ∙ ap (λ (n : ℕ). x ∷ drop n l) (sym (add-one i))

  pub given_zero : x < 1 → given_once last (drop i l) ≡ false
  unfolding given_once
  given_zero a = ap (given_once last) head ∙ rw (lt-leb 1 x a)

  module _ (a : 1 ≤ x) where
    pub given_late : last < x → given_once last (drop i l) ≡ false
    unfolding given_once
    given_late b = ap (given_once last) head ∙ rw (le-leb 1 x a, lt-leb x last b)

    module _ (b : x ≤ last) where
      pub given_twice : contains x (drop (i + 1) l) ≡ true → given_once last (drop i l) ≡ false
      unfolding given_once
      given_twice t = ap (given_once last) head ∙ rw (le-leb 1 x a, le-leb x last b, t)

      pub given_next : contains x (drop (i + 1) l) ≡ false → given_once last (drop (i + 1) l) ≡ given_once last (drop i l)
      unfolding given_once
      given_next t = sym (ap (given_once last) head ∙ rw (le-leb 1 x a, le-leb x last b, t))

pub given_end : (last : ℕ) (l : List ℕ) (i : ℕ) → length l ≤ i → given_once last (drop i l) ≡ true
unfolding given_once
given_end last l i h = rw (drop_of_length-le l h)

-- a label that fails is one too many for all
given_drop : (last k : ℕ) (l : List ℕ) → given_once last l ≡ true → given_once last (drop k l) ≡ true
unfolding given_once
given_drop last zero l e = e
given_drop last (suc k) [] e = refl
given_drop last (suc k) (x ∷ l) e = given_drop last k l (and_right (not (contains x l)) _ (and_right (leb x last) _ (and_right (leb 1 x) _ e)))

pub given_none : (last k : ℕ) (l : List ℕ) → given_once last (drop k l) ≡ false → false ≡ given_once last l
given_none last k l e = go (given_once last l) refl
  where
    go : (b : Bool) → given_once last l ≡ b → false ≡ b
    go true q = sym e ∙ given_drop last k l q
    go false q = refl

-- SEEN: the lower bytes of the labels from i on are noted
pub record Seen (l : List ℕ) (i : ℕ) (seen : List Bool) : Type 0 where
  pub size : length seen ≡ 256
  pub marked : (y : ℕ) → contains y (drop i l) ≡ true → get_or seen (y % 256) false ≡ true

pub none_seen : (l : List ℕ) (i : ℕ) (seen : List Bool) → length l ≤ i → length seen ≡ 256 → Seen l i seen
none_seen l i seen h e = record { size = e; marked = λ y t. absurd (true≢false (sym t ∙ ap (contains y) (drop_of_length-le l h))) }

module _ (l : List ℕ) (k : ℕ) (seen : List Bool) (S : Seen l (k + 1) seen) (x : ℕ) where
  -- where the lower byte is not noted, the label is not there
  pub unseen : get_or seen (x % 256) false ≡ false → contains x (drop (k + 1) l) ≡ false
  unseen a = go (contains x (drop (k + 1) l)) refl
    where
      go : (t : Bool) → contains x (drop (k + 1) l) ≡ t → t ≡ false
      go true b = absurd (true≢false (sym (S.marked x b) ∙ a))
      go false b = refl

  pub one_seen : k < length l → get_or l k 0 ≡ x → Seen l k (set seen (x % 256) true)
  one_seen h e = record { size = length-set seen (x % 256) true ∙ S.size; marked = λ y t. go y (eqb y x) refl (sym (rest y) ∙ t) }
    where
      rest : (y : ℕ) → contains y (drop k l) ≡ (eqb y x || contains y (drop (k + 1) l))
      rest y = ap (contains y) (drop-cons l k 0 h ∙ ap (λ (z : ℕ). z ∷ drop (suc k) l) e ∙ ap (λ (n : ℕ). x ∷ drop n l) (sym (add-one k)))

      at : (y : ℕ) (b : Bool) → eqb (x % 256) (y % 256) ≡ b → get_or seen (y % 256) false ≡ true → get_or (set seen (x % 256) true) (y % 256) false ≡ true
      at y true q m = ap (λ (n : ℕ). get_or (set seen (x % 256) true) n false) (sym (eqb-true (x % 256) (y % 256) q)) ∙ get_or-set_same seen (x % 256) true false (omega (arith, S.size))
      at y false q m = get_or-set_other seen (x % 256) (y % 256) true false (λ r. eqb-false (x % 256) (y % 256) q (sym r)) ∙ m

      go : (y : ℕ) (b : Bool) → eqb y x ≡ b → (b || contains y (drop (k + 1) l)) ≡ true → get_or (set seen (x % 256) true) (y % 256) false ≡ true
      go y true q t = ap (λ (n : ℕ). get_or (set seen (x % 256) true) (n % 256) false) (eqb-true y x q) ∙ get_or-set_same seen (x % 256) true false (omega (arith, S.size))
      go y false q t = at y (eqb (x % 256) (y % 256)) refl (S.marked y t)

-- ONE TURN of the loop that looks at the label before i
module _ (n last : ℕ) (pool : List ℕ) (p : Padded n pool) (i : ℕ) (up : i ≤ n) (more : 0 < i) where
  abbrev live : List ℕ
  live = take n pool

  abbrev here : ℕ
  here = get_or pool (i - 1) 0

  back : i - 1 + 1 ≡ i
  back = omega arith

  room : n ≤ length pool
  room = omega (arith, p.size)

  inside : i - 1 < length live
  inside = omega (arith, length-take-le n pool room)

  read : get_or live (i - 1) 0 ≡ here
  read = get_or-take n pool (i - 1) 0 (omega arith)

  pub turn_zero : here < 1 → false ≡ given_once last live
  turn_zero a = given_none last (i - 1) live (given_zero last live (i - 1) here inside read a)

  module _ (a : 1 ≤ here) where
    pub turn_late : last < here → false ≡ given_once last live
    turn_late b = given_none last (i - 1) live (given_late last live (i - 1) here inside read a b)

    searched : contains here (take 64 (drop (i - 1 + 1) pool)) ≡ contains here (drop (i - 1 + 1) live)
    searched = among_padded n pool p (i - 1 + 1) (omega arith) here a

    module _ (b : here ≤ last) where
      pub turn_twice : contains here (take 64 (drop (i - 1 + 1) pool)) ≡ true → false ≡ given_once last live
      turn_twice t = given_none last (i - 1) live (given_twice last live (i - 1) here inside read a b (sym searched ∙ t))

      module _ (seen : List Bool) (S : Seen live i seen) (rest : given_once last (drop i live) ≡ true) where
        kept_seen : Seen live (i - 1 + 1) seen
        kept_seen = subst (λ (k : ℕ). Seen live k seen) (sym back) S

        -- it was searched where its lower byte is noted
        pub turn_next : (get_or seen (here % 256) false ≡ true → contains here (take 64 (drop (i - 1 + 1) pool)) ≡ false)
            → (given_once last (drop (i - 1) live) ≡ true) × Seen live (i - 1) (set seen (here % 256) true)
        turn_next unfound = (
          sym (given_next last live (i - 1) here inside read a b (go (get_or seen (here % 256) false) refl)) ∙ ap (λ (k : ℕ). given_once last (drop k live)) back ∙ rest,
          one_seen live (i - 1) seen kept_seen here inside read,
        )
          where
            go : (m : Bool) → get_or seen (here % 256) false ≡ m → contains here (drop (i - 1 + 1) live) ≡ false
            go true q = sym searched ∙ unfound q
            go false q = unseen live (i - 1) seen kept_seen here q
