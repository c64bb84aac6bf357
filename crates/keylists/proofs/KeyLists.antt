-- One number more in a list of keys, and lists of 32-bit numbers.
-- Assumes nothing.
use Prim.Native.Nat.{ℕ, ◌+◌, ◌<◌, ◌≤◌, min}
use mathlib.Core.Path.{◌≡◌, refl, sym, ap, ◌∙◌}
use mathlib.Core.Bool.{Bool, true, false, cond, false≢true, ◌&&◌, and-true, and_assoc}
use mathlib.Core.List.{List, [], ◌∷◌, ◌++◌}
use native.Mathlib.Omega.{arith}
use borrow.Author.Tests.{ltb-true, lt-ltb, lt-leb, le-leb}
use lib.Dec.{ltb, leb}
use lib.ListN.{length, set, length-append}
use Rattle.graph.specs.Words.{modulus, are_words}
use Rattle.graph.specs.KeyLists.{is_key, are_keys, above, rising}
use Rattle.graph.specs.Packed.{packed}
use Rattle.graph.specs.Refusals.{Answer, refused, done}
use Rattle.graph.specs.declared.keys.Keys.{Keys}
use Rattle.graph.proofs.KeyLaws.{key_high, are_keys_snoc, packed_more}
use Rattle.graph.proofs.Answers.{and_left, and_right}
use Rattle.keylists.specs.Inner.ListsRead.{Below, last_or, KeysOf, KeysStored, keys_named}
use Rattle.keylists.specs.declared.keylist.KeyList.{KeyList}

-- ---- one number more

above_snoc : (d : ℕ) (ts : List ℕ) (v : ℕ) → above d (ts ++ v ∷ []) ≡ above d ts && ltb (last_or d ts) v
above_snoc d [] v = and-true (ltb d v)
above_snoc d (t ∷ ts) v = ap (λ (b : Bool). ltb d t && b) (above_snoc t ts v) ∙ sym (and_assoc (ltb d t) (above t ts) (ltb (last_or t ts) v))

last_or_snoc : (d : ℕ) (ts : List ℕ) (v : ℕ) → last_or d (ts ++ v ∷ []) ≡ v
last_or_snoc d [] v = refl
last_or_snoc d (t ∷ ts) v = last_or_snoc t ts v

held_more : (ts : List ℕ) (v : ℕ) (k : KeyList) (key : List ℕ) → KeysOf ts k → (k.count < 8 → v ≤ 64 → key ≡ set k.key k.count v) → KeysStored (ts ++ v ∷ []) key
held_more ts v k key p es a l =
    let len : length (ts ++ v ∷ []) ≡ length ts + 1 = length-append ts (v ∷ []) in
    let ab : are_keys ts && is_key v ≡ true = sym (are_keys_snoc ts v) ∙ a in
    let v64 = key_high v (and_right (are_keys ts) (is_key v) ab) in
    let n : k.count ≡ length ts = omega (arith, p.count) in
    let h : k.key ≡ (packed ts).key = p.stored (and_left (are_keys ts) (is_key v) ab) (omega arith) in
    es (omega arith) v64 ∙ cc (ap (λ (q : Keys). q.key) (packed_more ts v (omega arith)))

pub keys_more : (ts : List ℕ) (v : ℕ) (k r : KeyList) → KeysOf ts k
    → r.count ≡ min (k.count + 1) 9
    → r.latest ≡ v
    → r.keys ≡ k.keys && is_key v
    → r.rising ≡ k.rising && ltb k.latest v
    → (k.count < 8 → v ≤ 64 → r.key ≡ set k.key k.count v)
    → KeysOf (ts ++ v ∷ []) r
keys_more ts v k r p en el ek ei es =
    let len : length (ts ++ v ∷ []) ≡ length ts + 1 = length-append ts (v ∷ []) in
    record {
      count = omega (arith, p.count);
      latest = el ∙ sym (last_or_snoc 0 ts v);
      keys = ek ∙ ap (λ (b : Bool). b && is_key v) p.keys ∙ sym (are_keys_snoc ts v);
      rising = ei ∙ cc (p.rising, p.latest, above_snoc 0 ts v);
      stored = held_more ts v k r.key p es;
    }

-- keys are at least 1, so a list of them that rises strictly also rises from 0
pub rising_keys : (ts : List ℕ) → are_keys ts ≡ true → rising ts ≡ above 0 ts
rising_keys [] e = refl
rising_keys (t ∷ ts) e = rw (and_left (leb 1 t) (leb t 64) (and_left (is_key t) (are_keys ts) e))

-- ---- the targets that the numbers are

module _ (ts : List ℕ) (k : KeyList) (p : KeysOf ts k) where
  by_keys : (a b : Bool) {r : Answer Keys} → k.keys ≡ a → (a ≡ true → leb (length ts) 8 && rising ts ≡ b) → r ≡ cond a (cond b (done (packed ts)) (refused 12)) (refused 11) → r ≡ keys_named ts
  by_keys true b e f q = q ∙ sym (rw (← p.keys, e, f refl))
  by_keys false b e f q = q ∙ sym (rw (← p.keys, e))

  pub no_keys : k.keys ≡ false → refused 11 ≡ keys_named ts
  no_keys e = by_keys false false e (λ z. absurd (false≢true z)) refl

  module _ (keys : k.keys ≡ true) where
    rises : rising ts ≡ k.rising
    rises = rising_keys ts (sym p.keys ∙ keys) ∙ sym p.rising

    pub too_many : 8 < k.count → refused 12 ≡ keys_named ts
    too_many h = by_keys true false keys (λ z. rw (lt-leb (length ts) 8 (omega (arith, p.count)))) refl

    module _ (few : k.count ≤ 8) where
      short : leb (length ts) 8 ≡ true
      short = le-leb (length ts) 8 (omega (arith, p.count))

      pub not_rising : k.rising ≡ false → refused 12 ≡ keys_named ts
      not_rising e = by_keys true false keys (λ z. rw (short, rises, e)) refl

      pub are_targets : k.rising ≡ true → done (record { count = k.count; key = k.key }) ≡ keys_named ts
      unfolding packed
      are_targets e =
          let n : k.count ≡ length ts = omega (arith, p.count) in
          let l = p.stored (sym p.keys ∙ keys) (omega arith) in
          by_keys true true keys (λ z. rw (short, rises, e)) (λ i. done (record { count = n i; key = l i }))

-- ---- 32-bit numbers, as a test and as facts

pub words_below : (l : List ℕ) → are_words l ≡ true → Below l
words_below [] e = tt
words_below (t ∷ ts) e = (ltb-true t modulus (and_left (ltb t modulus) (are_words ts) e), words_below ts (and_right (ltb t modulus) (are_words ts) e))

pub below_words : (l : List ℕ) → Below l → are_words l ≡ true
below_words [] b = refl
below_words (t ∷ ts) b = rw (lt-ltb t modulus b.0, below_words ts b.1)

pub below_snoc : (ts : List ℕ) (v : ℕ) → Below ts → v < modulus → Below (ts ++ v ∷ [])
below_snoc [] v b h = (h, tt)
below_snoc (t ∷ ts) v b h = (b.0, below_snoc ts v b.1 h)
