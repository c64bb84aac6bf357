-- Keys sorted, repeats dropped: they are as many as were drawn or fewer, they are keys, and they rise.
-- Assumes nothing.
use Prim.Native.Nat.{ℕ, zero, suc, ◌+◌, ◌-◌, ◌<◌, ◌≤◌}
use mathlib.Core.Path.{◌≡◌, refl, sym, ap, ◌∙◌}
use mathlib.Core.Bool.{Bool, true, false, cond, ◌||◌}
use mathlib.Core.List.{List, [], ◌∷◌, ◌++◌, append-nil}
use native.Mathlib.Omega.{arith}
use lib.Dec.{eqb}
use lib.ListN.{length, length-append}
use borrow.Author.Tests.{eqb-true, ne_eqb, lt-ltb, le-leb}
use Rattle.graph.specs.KeyLists.{are_keys, above, rising, contains}
use Rattle.graph.proofs.Answers.{and_both}
use Rattle.graph.proofs.Limits.{rising_above}
use Rattle.load.specs.Load.{kept_from, sorted}

-- one key more, from the back
kept_next : (n k : ℕ) (ks : List ℕ) → kept_from (suc n) k ks ≡ kept_from n k ks ++ cond (contains (n + k) ks) ((n + k) ∷ []) []
unfolding kept_from
kept_next zero k ks = ap (λ (m : ℕ). cond (contains m ks) (m ∷ []) []) (omega arith)
kept_next (suc n) k ks = go (contains k ks) (kept_next n (suc k) ks)
  where
    go : (b : Bool) {rest : List ℕ} → rest ≡ kept_from n (suc k) ks ++ cond (contains (n + suc k) ks) ((n + suc k) ∷ []) []
        → cond b (k ∷ rest) rest ≡ cond b (k ∷ kept_from n (suc k) ks) (kept_from n (suc k) ks) ++ cond (contains (suc n + k) ks) ((suc n + k) ∷ []) []
    go true e = ap (λ (l : List ℕ). k ∷ l) e ∙ ap (λ (m : ℕ). k ∷ (kept_from n (suc k) ks ++ cond (contains m ks) (m ∷ []) [])) (omega arith)
    go false e = e ∙ ap (λ (m : ℕ). kept_from n (suc k) ks ++ cond (contains m ks) (m ∷ []) []) (omega arith)

-- the keys below k + 1, by those below k
kept_at : (k : ℕ) (ks : List ℕ) → 1 ≤ k → kept_from (k + 1 - 1) 1 ks ≡ kept_from (k - 1) 1 ks ++ cond (contains k ks) (k ∷ []) []
kept_at k ks h =
    let n : k + 1 - 1 ≡ suc (k - 1) = omega arith in
    let m : k - 1 + 1 ≡ k = omega arith in
    ap (λ (j : ℕ). kept_from j 1 ks) n ∙ kept_next (k - 1) 1 ks ∙ ap (λ (j : ℕ). kept_from (k - 1) 1 ks ++ cond (contains j ks) (j ∷ []) []) m

pub kept_hit : (k : ℕ) (ks : List ℕ) → 1 ≤ k → contains k ks ≡ true → kept_from (k - 1) 1 ks ++ (k ∷ []) ≡ kept_from (k + 1 - 1) 1 ks
kept_hit k ks h e = sym (kept_at k ks h ∙ ap (λ (b : Bool). kept_from (k - 1) 1 ks ++ cond b (k ∷ []) []) e)

pub kept_miss : (k : ℕ) (ks : List ℕ) → 1 ≤ k → contains k ks ≡ false → kept_from (k - 1) 1 ks ≡ kept_from (k + 1 - 1) 1 ks
kept_miss k ks h e = sym (kept_at k ks h ∙ ap (λ (b : Bool). kept_from (k - 1) 1 ks ++ cond b (k ∷ []) []) e ∙ append-nil (kept_from (k - 1) 1 ks))

-- ---- how many

-- a key below all that are asked for
kept_below : (n k t : ℕ) (ks : List ℕ) → t < k → kept_from n k (t ∷ ks) ≡ kept_from n k ks
unfolding kept_from
kept_below zero k t ks h = refl
kept_below (suc n) k t ks h = rw (ne_eqb k t (λ e. omega arith), kept_below n (suc k) t ks (omega arith)) refl

-- one key drawn more is at most one kept more
kept_more : (n k t : ℕ) (ks : List ℕ) → length (kept_from n k (t ∷ ks)) ≤ suc (length (kept_from n k ks))
unfolding kept_from
kept_more zero k t ks = omega arith
kept_more (suc n) k t ks = go (eqb k t) refl (contains k ks) (kept_more n (suc k) t ks)
  where
    go : (b : Bool) → eqb k t ≡ b → (d : Bool) → length (kept_from n (suc k) (t ∷ ks)) ≤ suc (length (kept_from n (suc k) ks))
        → length (cond (b || d) (k ∷ kept_from n (suc k) (t ∷ ks)) (kept_from n (suc k) (t ∷ ks))) ≤ suc (length (cond d (k ∷ kept_from n (suc k) ks) (kept_from n (suc k) ks)))
    go true e true h = omega (arith, ap length (kept_below n (suc k) t ks (omega (arith, eqb-true k t e))))
    go true e false h = omega (arith, ap length (kept_below n (suc k) t ks (omega (arith, eqb-true k t e))))
    go false e true h = omega arith
    go false e false h = h

kept_none : (n k : ℕ) → kept_from n k [] ≡ []
unfolding kept_from
kept_none zero k = refl
kept_none (suc n) k = kept_none n (suc k)

kept_few : (n k : ℕ) (ks : List ℕ) → length (kept_from n k ks) ≤ length ks
kept_few n k [] = omega (arith, ap length (kept_none n k))
kept_few n k (t ∷ ks) = omega (arith, kept_more n k t ks, kept_few n k ks)

-- room for a key that was drawn and is not kept yet
pub kept_room : (k : ℕ) (ks : List ℕ) → 1 ≤ k → contains k ks ≡ true → length (kept_from (k - 1) 1 ks) < length ks
kept_room k ks h e =
    omega (arith, kept_few (k + 1 - 1) 1 ks, ap length (kept_hit k ks h e), length-append (kept_from (k - 1) 1 ks) (k ∷ []))

-- ---- keys, and rising

kept_keys : (n k : ℕ) (ks : List ℕ) → 1 ≤ k → n + k ≤ 65 → are_keys (kept_from n k ks) ≡ true
unfolding kept_from
kept_keys zero k ks l h = refl
kept_keys (suc n) k ks l h = go (contains k ks) (kept_keys n (suc k) ks (omega arith) (omega arith))
  where
    go : (b : Bool) → are_keys (kept_from n (suc k) ks) ≡ true → are_keys (cond b (k ∷ kept_from n (suc k) ks) (kept_from n (suc k) ks)) ≡ true
    go true e = and_both (and_both (le-leb 1 k l) (le-leb k 64 (omega arith))) e
    go false e = e

kept_above : (n d k : ℕ) (ks : List ℕ) → d < k → above d (kept_from n k ks) ≡ true
unfolding kept_from
kept_above zero d k ks h = refl
kept_above (suc n) d k ks h = go (contains k ks) (kept_above n d (suc k) ks (omega arith)) (kept_above n k (suc k) ks (omega arith))
  where
    go : (b : Bool) → above d (kept_from n (suc k) ks) ≡ true → above k (kept_from n (suc k) ks) ≡ true → above d (cond b (k ∷ kept_from n (suc k) ks) (kept_from n (suc k) ks)) ≡ true
    go true e f = and_both (lt-ltb d k h) f
    go false e f = e

pub sorted_few : (ks : List ℕ) → length (sorted ks) ≤ length ks
unfolding sorted
sorted_few ks = kept_few 64 1 ks

pub sorted_keys : (ks : List ℕ) → are_keys (sorted ks) ≡ true
unfolding sorted
sorted_keys ks = kept_keys 64 1 ks (omega arith) (omega arith)

pub sorted_rising : (ks : List ℕ) → rising (sorted ks) ≡ true
unfolding sorted
sorted_rising ks = rising_above 0 (kept_from 64 1 ks) (kept_above 64 0 1 ks (omega arith))
