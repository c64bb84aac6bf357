-- Lists of bytes cut after an equals sign: where the cut of one list is that of another.
-- Assumes nothing.
use Prim.Native.Nat.{ℕ, suc, ◌+◌, ◌<◌, ◌≤◌}
use mathlib.Core.Path.{◌≡◌, refl, sym, ap, ◌∙◌}
use mathlib.Core.List.{List, [], ◌∷◌, ◌++◌, append-nil, append_assoc}
use native.Mathlib.Omega.{arith}
use lib.ListN.{length, take, drop, get_or, length-append, length-drop}
use lib.Seq.{take-suc, get_or-drop, get_or-append-add}
use native.Mathlib.Numerals.{add-one}
use Rattle.keylists.specs.Inner.ListsRead.{last_or}
use Rattle.longlines.specs.Inner.LongLines.{EndsInEquals, NoEquals, CutAt, Far}

-- ---- two cuts of one list: one front is the other and more

data Cuts (a x c y : List ℕ) : Type 0 where
  before : (z : List ℕ) → c ≡ a ++ z → x ≡ z ++ y → Cuts a x c y
  behind : (z : List ℕ) → a ≡ c ++ z → y ≡ z ++ x → Cuts a x c y

cuts : (a x c y : List ℕ) → a ++ x ≡ c ++ y → Cuts a x c y
cuts [] x c y e = before c refl e
cuts (p ∷ a) x [] y e = behind (p ∷ a) refl (sym e)
cuts (p ∷ a) x (q ∷ c) y e = go (cuts a x c y (ap (drop 1) e))
  where
    same : p ≡ q
    same = ap (λ (l : List ℕ). get_or l 0 0) e

    go : Cuts a x c y → Cuts (p ∷ a) x (q ∷ c) y
    go (before z f g) = before z (λ i. sym same i ∷ f i) g
    go (behind z f g) = behind z (λ i. same i ∷ f i) g

-- ---- the last byte

pub last_or_append : (d : ℕ) (a b : List ℕ) → last_or d (a ++ b) ≡ last_or (last_or d a) b
last_or_append d [] b = refl
last_or_append d (x ∷ a) b = last_or_append x a b

-- a list that is not empty is something and its last byte
snoc : (x : ℕ) (xs : List ℕ) → (p : List ℕ) × (x ∷ xs ≡ p ++ last_or x xs ∷ [])
snoc x [] = ([], refl)
snoc x (y ∷ ys) = let q = snoc y ys in (x ∷ q.0, ap (λ (l : List ℕ). x ∷ l) q.1)

-- ---- no equals sign

pub without_nil : NoEquals []
without_nil [] b e = let z : ◌≡◌ {A = ℕ} 0 (suc (length b)) = ap length e in omega arith
without_nil (x ∷ a) b e = let z : ◌≡◌ {A = ℕ} 0 (suc (length (a ++ (61 ∷ b)))) = ap length e in omega arith

pub without_cons : (x : ℕ) (l : List ℕ) → (x ≡ 61 → ⊥) → NoEquals l → NoEquals (x ∷ l)
without_cons x l ne w [] b e = ne (ap (λ (r : List ℕ). get_or r 0 0) e)
without_cons x l ne w (y ∷ a) b e = w a b (ap (drop 1) e)

-- what ends in an equals sign and holds none is empty
pub no_end : (l : List ℕ) → NoEquals l → EndsInEquals l → l ≡ []
no_end [] w e = refl
no_end (x ∷ xs) w e = let q = snoc x xs in absurd (w q.0 [] (q.1 ∙ ap (λ (k : ℕ). q.0 ++ k ∷ []) e))

-- ---- the cut

-- empty, or ending in an equals sign
data Tail (z : List ℕ) : Type 0 where
  empty : z ≡ [] → Tail z
  ending : (p : List ℕ) → z ≡ p ++ 61 ∷ [] → Tail z

tail : (a z : List ℕ) → EndsInEquals (a ++ z) → Tail z
tail a [] e = empty refl
tail a (x ∷ xs) e =
    let q = snoc x xs in
    let l : last_or x xs ≡ 61 = sym (last_or_append 61 a (x ∷ xs)) ∙ e in
    ending q.0 (q.1 ∙ ap (λ (k : ℕ). q.0 ++ k ∷ []) l)

pub same_cut : (front rest f t : List ℕ) → front ++ rest ≡ f ++ t → EndsInEquals front → Far front rest → EndsInEquals f → length f ≤ 64 → NoEquals t → (front ≡ f) × (rest ≡ t)
same_cut front rest f t e ends far ends' few none = go (cuts front rest f t e)
  where
    within : (z : List ℕ) → f ≡ front ++ z → rest ≡ z ++ t → Tail z → (front ≡ f) × (rest ≡ t)
    within z p q (empty n) = (sym (p ∙ ap (λ (l : List ℕ). front ++ l) n ∙ append-nil front), q ∙ ap (λ (l : List ℕ). l ++ t) n)
    within z p q (ending y n) =
        let h : 64 ≤ length front + length y = far y t (q ∙ ap (λ (l : List ℕ). l ++ t) n ∙ append_assoc y (61 ∷ []) t) in
        let k : length z ≡ length y + 1 = ap length n ∙ length-append y (61 ∷ []) in
        absurd (omega (arith, length-append front z, ap length p))

    beyond : (z : List ℕ) → front ≡ f ++ z → t ≡ z ++ rest → Tail z → (front ≡ f) × (rest ≡ t)
    beyond z p q (empty n) = (p ∙ ap (λ (l : List ℕ). f ++ l) n ∙ append-nil f, sym (q ∙ ap (λ (l : List ℕ). l ++ rest) n))
    beyond z p q (ending y n) = absurd (none y rest (q ∙ ap (λ (l : List ℕ). l ++ rest) n ∙ append_assoc y (61 ∷ []) rest))

    go : Cuts front rest f t → (front ≡ f) × (rest ≡ t)
    go (before z p q) = within z p q (tail front z (ap (last_or 61) (sym p) ∙ ends'))
    go (behind z p q) = beyond z p q (tail f z (ap (last_or 61) (sym p) ∙ ends))

-- more bytes behind the first 64 change nothing
pub far_more : (front rest piece : List ℕ) → 64 ≤ length front + length rest → Far front rest → Far front (rest ++ piece)
far_more front rest piece long far a b e = go (cuts rest piece a (61 ∷ b) e)
  where
    inside : (z : List ℕ) → rest ≡ a ++ z → 61 ∷ b ≡ z ++ piece → 64 ≤ length front + length a
    inside [] p q = omega (arith, ap length p, length-append a [])
    inside (c ∷ z) p q =
        let k : c ≡ 61 = sym (ap (λ (l : List ℕ). get_or l 0 0) q) in
        far a z (p ∙ ap (λ (n : ℕ). a ++ (n ∷ z)) k)

    go : Cuts rest piece a (61 ∷ b) → 64 ≤ length front + length a
    go (before z p q) = omega (arith, ap length p, length-append rest z)
    go (behind z p q) = inside z p q

-- ---- the cut behind the last equals sign

module _ (l : List ℕ) where
  no_equals : (at : ℕ) → ((j : ℕ) → at ≤ j → j < length l → get_or l j 0 ≡ 61 → ⊥) → NoEquals (drop at l)
  no_equals at n a b e =
      let i : length a < length (drop at l) = omega (arith, ap length e, length-append a (61 ∷ b)) in
      let z : length a ≡ length a + 0 = omega arith in
      let h : get_or (drop at l) (length a) 0 ≡ 61 = ap (λ (r : List ℕ). get_or r (length a) 0) e ∙ ap (λ (n : ℕ). get_or (a ++ 61 ∷ b) n 0) z ∙ get_or-append-add a (61 ∷ b) 0 0 in
      n (at + length a) (omega arith) (omega (arith, length-drop at l)) (sym (get_or-drop at l (length a) 0) ∙ h)

  pub last_equals : (k : ℕ) → k < length l → get_or l k 0 ≡ 61 → ((j : ℕ) → k + 1 ≤ j → j < length l → get_or l j 0 ≡ 61 → ⊥) → CutAt l (k + 1)
  last_equals k h e n =
      let t : take (k + 1) l ≡ take k l ++ get_or l k 0 ∷ [] = rw add-one (take-suc l k 0 h) in
      record {
        within = omega arith;
        ends = ap (last_or 61) t ∙ last_or_append 61 (take k l) (get_or l k 0 ∷ []) ∙ e;
        none = no_equals (k + 1) n;
      }

  pub no_equals_sign : ((j : ℕ) → j < length l → get_or l j 0 ≡ 61 → ⊥) → CutAt l 0
  no_equals_sign n = record { within = omega arith; ends = refl; none = no_equals 0 (λ j z h. n j h) }
