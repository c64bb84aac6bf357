-- A list of which the first bytes came: what one byte more makes of it, and which bytes no list has there.
-- Assumes nothing.
use Prim.Native.Nat.{ℕ, zero, suc, ◌+◌, ◌*◌, ◌-◌, ◌<◌, ◌≤◌}
use mathlib.Core.Path.{◌≡◌, refl, sym, ap, ◌∙◌}
use mathlib.Core.List.{List, [], ◌∷◌, ◌++◌, append-nil, append_assoc}
use native.Mathlib.Omega.{arith}
use lib.ListN.{length, take, drop, take-append-drop, get_or, length-append, get_or-append}
use lib.Seq.{append_snoc, take-suc}
use Rattle.text.specs.Text.{decimal, further, commas}
use Rattle.text.specs.Inner.PartsRead.{Gap}
use Rattle.text.proofs.Decimals.{Figures, value_from, value_from_ge, decimal_low, decimal_more, decimal_is, digit_at}
use Rattle.text.proofs.Splits.{same_number}
use Rattle.text.proofs.CommaLists.{further_gap}
use Rattle.graph.specs.Words.{modulus}
use Rattle.std.proofs.Common.{Option, Some, None}
use Rattle.keylists.proofs.KeyLists.{below_snoc}
use Rattle.keylists.specs.Inner.ListsRead.{Below, KeysOf, KeysRead, passed, begun, Begun, ReadSoFar}
use Rattle.keylists.specs.declared.sofar.ListSoFar.{ListSoFar}
use Rattle.keylists.specs.declared.keylist.KeyList.{KeyList}

-- ---- one number more

further_commas : (ts : List ℕ) (v : ℕ) → further (ts ++ v ∷ []) ≡ 44 ∷ commas (ts ++ v ∷ [])
unfolding further commas
further_commas [] v = refl
further_commas (t ∷ ts) v = refl

pub passed_last : (ts : List ℕ) (v : ℕ) → passed ts ++ decimal v ≡ commas (ts ++ v ∷ [])
unfolding passed further commas
passed_last [] v = sym (append-nil (decimal v))
passed_last (t ∷ ts) v =
    append_assoc (decimal t) (44 ∷ passed ts) (decimal v)
    ∙ ap (λ (r : List ℕ). decimal t ++ (44 ∷ r)) (passed_last ts v)
    ∙ ap (λ (r : List ℕ). decimal t ++ r) (sym (further_commas ts v))

pub passed_next : (ts : List ℕ) (v : ℕ) (x : List ℕ) → passed ts ++ (decimal v ++ (44 ∷ x)) ≡ passed (ts ++ v ∷ []) ++ x
unfolding passed
passed_next [] v x = sym (append_assoc (decimal v) (44 ∷ []) x)
passed_next (t ∷ ts) v x =
    append_assoc (decimal t) (44 ∷ passed ts) (decimal v ++ (44 ∷ x))
    ∙ ap (λ (r : List ℕ). decimal t ++ (44 ∷ r)) (passed_next ts v x)
    ∙ sym (append_assoc (decimal t) (44 ∷ passed (ts ++ v ∷ [])) x)

-- a number that has begun takes a digit
pub one_digit : (b : ℕ) → 48 ≤ b → b ≤ 57 → b ∷ [] ≡ decimal (b - 48)
one_digit b lo hi =
    let e : 48 + (b - 48) ≡ b = omega arith in
    sym (decimal_low (b - 48) (omega arith) ∙ ap (λ (k : ℕ). k ∷ []) e)

pub digit_more : (v b : ℕ) → 0 < v → 48 ≤ b → b ≤ 57 → decimal v ++ b ∷ [] ≡ decimal (v * 10 + (b - 48))
digit_more v b some lo hi =
    let e : 48 + (b - 48) ≡ b = omega arith in
    sym (decimal_more v (b - 48) some (omega arith) ∙ ap (λ (k : ℕ). decimal v ++ k ∷ []) e)

-- ---- what no list begins with

-- these bytes are no list of at least one number
abbrev pub NoNumber : List ℕ → Type 0
NoNumber x = (w : ℕ) (ws : List ℕ) → Below (w ∷ ws) → x ≡ decimal w ++ further ws → ⊥

some_byte : (w : ℕ) (x : List ℕ) → 0 < length (decimal w ++ x)
some_byte w x = omega (arith, (decimal_is w).some, length-append (decimal w) x)

nothing : NoNumber []
nothing w ws b e = omega (arith, ap length e, some_byte w (further ws))

-- after numbers and commas there must stand a number
still_none : (read x : List ℕ) → NoNumber x → NoNumber (passed read ++ x)
unfolding passed further
still_none [] x n = n
still_none (t ∷ ts) x n = go (still_none ts x n)
  where
    go : NoNumber (passed ts ++ x) → NoNumber (passed (t ∷ ts) ++ x)
    go ih w ws b e = next ws b
        (same_number 44 (omega arith) t w (44 ∷ (passed ts ++ x)) (further ws) (sym (append_assoc (decimal t) (44 ∷ passed ts) x) ∙ e) refl (further_gap ws)).1
      where
        next : (ws : List ℕ) → Below (w ∷ ws) → 44 ∷ (passed ts ++ x) ≡ further ws → ⊥
        next [] b e = let z : ◌≡◌ {A = ℕ} 0 1 = cc in omega arith
        next (u ∷ us) b e = ih u us b.1 (ap (drop 1) e)

no_list : (s : List ℕ) → 0 < length s → NoNumber s → (us : List ℕ) → Below us → s ≡ commas us → ⊥
unfolding commas
no_list s some n [] b e = omega (arith, ap length e)
no_list s some n (u ∷ us) b e = n u us b e

-- digits that came are the first of a number
digits_first : (a x d y : List ℕ) → Figures a → Gap 44 y → a ++ x ≡ d ++ y → (z : List ℕ) × (d ≡ a ++ z) × (x ≡ z ++ y)
digits_first [] x d y f g e = (d, refl, e)
digits_first (c ∷ cs) x [] [] f g e = let z : ◌≡◌ {A = ℕ} 0 1 = cc in absurd (omega arith)
digits_first (c ∷ cs) x [] (k ∷ y) f g e = let h : c ≡ k = cc in absurd (omega (arith, f.0))
digits_first (c ∷ cs) x (k ∷ d) y f g e =
    let h : k ≡ c = cc in
    let t = digits_first cs x d y f.2 g (ap (drop 1) e) in
    (t.0, λ i. h i ∷ t.1 i, t.2)

number_goes_on : (v : ℕ) (x : List ℕ) (w : ℕ) (ws : List ℕ) → decimal v ++ x ≡ decimal w ++ further ws
    → (z : List ℕ) × (decimal w ≡ decimal v ++ z) × (x ≡ z ++ further ws)
number_goes_on v x w ws e = digits_first (decimal v) x (decimal w) (further ws) (decimal_is v).figures (further_gap ws) e

figures_end : (a z : List ℕ) → Figures (a ++ z) → Figures z
figures_end [] z f = f
figures_end (c ∷ cs) z f = figures_end cs z f.2

-- where a digit must stand, or the comma behind a number
pub no_digit : (n : Option ℕ) (b : ℕ) → (48 ≤ b → b ≤ 57 → ⊥) → ((v : ℕ) → n ≡ Some v → b ≡ 44 → ⊥) → (rest : List ℕ) → NoNumber (begun n ++ b ∷ rest)
no_digit None b nd nc rest w ws q e =
    let d = digit_at (decimal w) 0 (decimal_is w).figures (decimal_is w).some in
    let h : b ≡ get_or (decimal w) 0 0 = ap (λ (l : List ℕ). get_or l 0 0) e ∙ get_or-append (decimal w) (further ws) 0 0 (decimal_is w).some in
    nd (omega (arith, d.0)) (omega (arith, d.1))
no_digit (Some v) b nd nc rest w ws q e =
    let t = number_goes_on v (b ∷ rest) w ws e in
    go t.0 (further ws) (figures_end (decimal v) t.0 (rw t.1 at (decimal_is w).figures)) (further_gap ws) t.2
  where
    go : (z y : List ℕ) → Figures z → Gap 44 y → b ∷ rest ≡ z ++ y → ⊥
    go [] [] f g e = let z : ◌≡◌ {A = ℕ} 0 1 = cc in omega arith
    go [] (k ∷ y) f g e = let h : b ≡ k = cc in nc v refl (omega arith)
    go (k ∷ z) y f g e = let h : b ≡ k = cc in nd (omega (arith, f.0)) (omega (arith, f.1))

-- no zero stands before another digit
pub after_zero : (b : ℕ) → 48 ≤ b → (rest : List ℕ) → NoNumber (decimal 0 ++ b ∷ rest)
after_zero b lo rest w ws q e = let t = number_goes_on 0 (b ∷ rest) w ws e in go t.0 (further ws) (further_gap ws) t.1 t.2
  where
    lead : (w : ℕ) (z : List ℕ) → decimal w ≡ 48 ∷ z → 0 < length z → ⊥
    lead zero z e some = omega (arith, ap length (sym (decimal_low 0 (omega arith)) ∙ e))
    lead (suc w) z e some = omega (arith, rw e at ((decimal_is (suc w)).lead (omega arith)))

    go : (z y : List ℕ) → Gap 44 y → decimal w ≡ decimal 0 ++ z → b ∷ rest ≡ z ++ y → ⊥
    go [] [] g d e = let z : ◌≡◌ {A = ℕ} 0 1 = cc in omega arith
    go [] (k ∷ y) g d e = let h : b ≡ k = cc in omega arith
    go (k ∷ z) y g d e = lead w (k ∷ z) (d ∙ ap (λ (r : List ℕ). r ++ k ∷ z) (decimal_low 0 (omega arith))) (omega arith)

value_from_append : (v : ℕ) (a z : List ℕ) → value_from v (a ++ z) ≡ value_from (value_from v a) z
value_from_append v [] z = refl
value_from_append v (c ∷ cs) z = value_from_append (v * 10 + (c - 48)) cs z

-- more digits do not make it less
pub too_large : (v b : ℕ) → 0 < v → 48 ≤ b → b ≤ 57 → modulus ≤ v * 10 + (b - 48) → (rest : List ℕ) → NoNumber (decimal v ++ b ∷ rest)
too_large v b some lo hi big rest w ws q e =
    let n = v * 10 + (b - 48) in
    let t = number_goes_on n rest w ws (ap (λ (r : List ℕ). r ++ rest) (sym (digit_more v b some lo hi)) ∙ append_snoc (decimal v) b rest ∙ e) in
    let worth : w ≡ value_from n t.0 =
    sym (decimal_is w).worth ∙ ap (value_from 0) t.1 ∙ value_from_append 0 (decimal n) t.0 ∙ ap (λ (k : ℕ). value_from k t.0) (decimal_is n).worth in
    omega (arith, value_from_ge n t.0, q.0)

-- ---- what came, and with what follows it

module _ (s : List ℕ) (f : ListSoFar) (g : Begun s f) (n : Option ℕ) (e : f.number ≡ n) where
  pub text_when : s ≡ passed g.read ++ begun n
  text_when = g.text ∙ ap (λ (m : Option ℕ). passed g.read ++ begun m) e

  pub text_then : (x : List ℕ) → s ++ x ≡ passed g.read ++ (begun n ++ x)
  text_then x = ap (λ (l : List ℕ). l ++ x) text_when ∙ append_assoc (passed g.read) (begun n) x

  -- no list goes on with the byte b
  pub breaks_at_law : (b : ℕ) → ((rest : List ℕ) → NoNumber (begun n ++ b ∷ rest)) → ReadSoFar (s ++ b ∷ []) None
  breaks_at_law b m rest us below eu =
      no_list _ (omega (arith, ap length (text_then (b ∷ rest)), length-append s (b ∷ rest))) (still_none g.read _ (m rest)) us below
      (sym (append_snoc s b rest ∙ text_then (b ∷ rest)) ∙ eu)

-- more bytes do not make it one
pub still_broken : (s x : List ℕ) → ReadSoFar s None → ReadSoFar (s ++ x) None
still_broken s x n rest us below e = n (x ++ rest) us below (sym (append_assoc s x rest) ∙ e)

-- of a piece whose byte i breaks it
pub piece_broken : (s piece : List ℕ) (i : ℕ) → i < length piece → ReadSoFar ((s ++ take i piece) ++ get_or piece i 0 ∷ []) None → ReadSoFar (s ++ piece) None
piece_broken s piece i h n =
    let t : (s ++ take i piece) ++ get_or piece i 0 ∷ [] ≡ s ++ take (suc i) piece = append_assoc s (take i piece) (get_or piece i 0 ∷ []) ∙ ap (λ (l : List ℕ). s ++ l) (sym (take-suc piece i 0 h)) in
    let a : (s ++ take (suc i) piece) ++ drop (suc i) piece ≡ s ++ piece = append_assoc s (take (suc i) piece) (drop (suc i) piece) ∙ ap (λ (l : List ℕ). s ++ l) (take-append-drop (suc i) piece) in
    rw a at (still_broken (s ++ take (suc i) piece) (drop (suc i) piece) (rw t at n))

-- one number more
pub list_more : (s : List ℕ) (f : ListSoFar) (g : Begun s f) (v : ℕ) → f.number ≡ Some v → v < modulus → (k : KeyList) → KeysOf (g.read ++ v ∷ []) k
    → Begun (s ++ 44 ∷ []) (record { list = k; number = None })
list_more s f g v e h k p =
    record {
      read = g.read ++ v ∷ [];
      below = below_snoc g.read v g.below h;
      text = text_then s f g (Some v) e (44 ∷ []) ∙ passed_next g.read v [];
      known = p;
    }

-- a digit more
pub number_more : (s : List ℕ) (f : ListSoFar) (g : Begun s f) (n : Option ℕ) → f.number ≡ n → (b w : ℕ) → begun n ++ b ∷ [] ≡ decimal w
    → Begun (s ++ b ∷ []) (record { list = f.list; number = Some w })
number_more s f g n e b w q =
    record {
      read = g.read;
      below = g.below;
      text = text_then s f g n e (b ∷ []) ∙ ap (λ (l : List ℕ). passed g.read ++ l) q;
      known = g.known;
    }

-- ---- the end

some_passed : (read : List ℕ) → 0 < length read → 0 < length (passed read)
unfolding passed
some_passed [] h = absurd (omega arith)
some_passed (t ∷ ts) h = some_byte t (44 ∷ passed ts)

module _ (s : List ℕ) (f : ListSoFar) (g : Begun s f) where
  -- a number is the last
  pub number_last : (v : ℕ) → f.number ≡ Some v → v < modulus → (k : KeyList) → KeysOf (g.read ++ v ∷ []) k → KeysRead s (Some k)
  number_last v e h k p = (g.read ++ v ∷ [], below_snoc g.read v g.below h, text_when s f g (Some v) e ∙ passed_last g.read v, p)

  -- a comma is the last byte
  pub comma_last : f.number ≡ None → (f.list.count ≡ 0 → ⊥) → KeysRead s None
  comma_last e some us below eu =
      let n : 0 < length g.read = omega (arith, g.known.count) in
      no_list (passed g.read ++ []) (omega (arith, some_passed g.read n, length-append (passed g.read) [])) (still_none g.read [] nothing) us below (sym (text_when s f g None e) ∙ eu)

  -- no byte came
  pub no_byte : f.number ≡ None → f.list.count ≡ 0 → KeysRead s (Some f.list)
  unfolding passed commas
  no_byte e n = go g.read (text_when s f g None e) (omega (arith, g.known.count)) g.known
    where
      go : (read : List ℕ) → s ≡ passed read ++ [] → length read ≡ 0 → KeysOf read f.list → KeysRead s (Some f.list)
      go [] t h p = ([], tt, t, p)
      go (x ∷ xs) t h p = absurd (omega arith)

-- what no list begins with is none
pub breaks_end : (s : List ℕ) → ReadSoFar s None → KeysRead s None
breaks_end s n us b e = n [] us b (append-nil s ∙ e)
