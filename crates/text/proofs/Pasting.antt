-- Laws of `pasted`: byte by byte, one store, a copy, a decimal, and one text after another.
-- Assumes nothing.
use Prim.Native.Nat.{ℕ, ◌+◌, ◌-◌, ◌/◌, ◌%◌, ◌<◌, ◌≤◌}
use mathlib.Core.Path.{◌≡◌, refl, sym, ap, ◌∙◌}
use mathlib.Core.List.{List, [], ◌∷◌, ◌++◌, append_assoc}
use native.Mathlib.Omega.{arith}
use native.Mathlib.Nat.{add_assoc, add-zero}
use native.Mathlib.Numerals.{add-one}
use lib.ListN.{length, take, drop, set, get_or, length-append, length-take, length-drop, take-append-drop, get_or-append}
use lib.Seq.{set_split, get_or-take, get_or-drop, get_or-append-add, take_at, length-take-le, drop-append-add, take-suc, drop-drop, take_all}
use borrow.Rule.Slice.PartMut.{put_mid}
use Rattle.text.specs.Text.{pasted, decimal}
use Rattle.text.specs.Inner.Put.{TextPut}
use Rattle.text.proofs.Decimals.{decimal_low, decimal_high, len_low, len_high}

pasted_none : (s : List ℕ) (at : ℕ) → pasted s at [] ≡ s
unfolding pasted
pasted_none s at = rw add-zero (take-append-drop at s)

pasted_one : (s : List ℕ) (at b : ℕ) → at < length s → set s at b ≡ pasted s at (b ∷ [])
unfolding pasted
pasted_one s at b h = rw add-one (set_split s at b h)

-- what stands in a list after a was written over it
module _ (s : List ℕ) (at : ℕ) (a : List ℕ) (fits : at + length a ≤ length s) where
  front : length (take at s) ≡ at
  front = length-take-le at s (omega arith)

  pub length_pasted : length (pasted s at a) ≡ length s
  unfolding pasted
  length_pasted = simp (length-append, length-take, length-drop) (omega arith)

  pub pasted_below : (i : ℕ) → i < at → get_or (pasted s at a) i 0 ≡ get_or s i 0
  unfolding pasted
  pasted_below i h =
      let l : i < length (take at s) = omega (arith, front) in
      get_or-append (take at s) (a ++ drop (at + length a) s) 0 i l ∙ get_or-take at s i 0 h

  -- byte k of what follows the front
  beyond : (k : ℕ) → get_or (pasted s at a) (at + k) 0 ≡ get_or (a ++ drop (at + length a) s) k 0
  unfolding pasted
  beyond k =
      ap (λ (n : ℕ). get_or (take at s ++ (a ++ drop (at + length a) s)) (n + k) 0) (sym front)
      ∙ get_or-append-add (take at s) (a ++ drop (at + length a) s) k 0

  pub pasted_in : (k : ℕ) → k < length a → get_or (pasted s at a) (at + k) 0 ≡ get_or a k 0
  pasted_in k h = beyond k ∙ get_or-append a (drop (at + length a) s) 0 k h

  pub pasted_above : (i : ℕ) → at + length a ≤ i → get_or (pasted s at a) i 0 ≡ get_or s i 0
  pasted_above i h =
      let k = i - (at + length a) in
      let e : i ≡ at + (length a + k) = omega arith in
      ap (λ (n : ℕ). get_or (pasted s at a) n 0) e
      ∙ beyond (length a + k)
      ∙ get_or-append-add a (drop (at + length a) s) k 0
      ∙ get_or-drop (at + length a) s k 0
      ∙ ap (λ (n : ℕ). get_or s n 0) (omega arith)

pasted_more : (s : List ℕ) (at n : ℕ) (a b : List ℕ) → at + length a + length b ≤ length s → n ≡ at + length a → pasted (pasted s at a) n b ≡ pasted s at (a ++ b)
unfolding pasted
pasted_more s at n a b h e =
    let both : length (take at s ++ a) ≡ at + length a = length-append (take at s) a ∙ ap (λ (k : ℕ). k + length a) (front s at a (omega arith)) in
    let x = drop (at + length a) s in
    let r : take at s ++ (a ++ x) ≡ (take at s ++ a) ++ x = sym (append_assoc (take at s) a x) in
    let p : take n (take at s ++ (a ++ x)) ≡ take at s ++ a = rw (r, e) (take_at (take at s ++ a) x (at + length a) both) in
    let q : drop (n + length b) (take at s ++ (a ++ x)) ≡ drop (at + (length a + length b)) s =
    rw (r, e) (ap (λ (k : ℕ). drop (k + length b) ((take at s ++ a) ++ x)) (sym both) ∙ drop-append-add (take at s ++ a) x (length b) ∙ drop-drop (length b) (at + length a) s ∙ ap (λ (k : ℕ). drop k s) (add_assoc at (length a) (length b))) in
    rw (p, q, length-append) (append_assoc (take at s) a (b ++ drop (at + (length a + length b)) s) ∙ ap (λ (y : List ℕ). take at s ++ y) (sym (append_assoc a b (drop (at + (length a + length b)) s))))

-- what was written at the start of a buffer
pub take_pasted : (s text : List ℕ) (n : ℕ) → n ≡ 0 + length text → take n (pasted s 0 text) ≡ text
unfolding pasted
take_pasted s text n e = take_at text (drop (0 + length text) s) n (omega arith)

-- ---- texts one after another

pub written_none : (s : List ℕ) (at : ℕ) → TextPut s at [] s at
written_none s at = record { place = omega arith; bytes = sym (pasted_none s at) }

-- a byte stored
pub written_one : (s : List ℕ) (at b : ℕ) → at < length s → TextPut s at (b ∷ []) (set s at b) (at + 1)
written_one s at b h = record { place = omega arith; bytes = pasted_one s at b h }

pub written_size : {s a o : List ℕ} {at p : ℕ} → TextPut s at a o p → at + length a ≤ length s → length o ≡ length s
written_size {s} {a} {o} {at} w h = ap length w.bytes ∙ length_pasted s at a h

-- room for the next text
pub written_room : {s a o : List ℕ} {at p : ℕ} → TextPut s at a o p → (b : List ℕ) → at + length (a ++ b) ≤ length s → p + length b ≤ length o
written_room {s} {a} {o} w b h =
    let l : length (a ++ b) ≡ length a + length b = length-append a b in
    omega (arith, w.place, written_size w (omega arith))

-- the next text
pub written_then : {s a o b o' : List ℕ} {at p p' : ℕ} → TextPut s at a o p → TextPut o p b o' p' → at + length (a ++ b) ≤ length s → TextPut s at (a ++ b) o' p'
written_then {s} {a} {o} {b} {o'} {at} {p} {p'} w v h =
    let l : length (a ++ b) ≡ length a + length b = length-append a b in
    record {
      place = omega (arith, w.place, v.place);
      bytes = v.bytes ∙ ap (λ (r : List ℕ). pasted r p b) w.bytes ∙ pasted_more s at p a b (omega arith) w.place;
    }

pub front_fits : {n : ℕ} (at : ℕ) (a b : List ℕ) → at + length (a ++ b) ≤ n → at + length a ≤ n
front_fits at a b h = omega (arith, length-append a b)

-- a literal copied into `&mut out[at..end]`
pub copied : (s : List ℕ) (at : ℕ) (literal part : List ℕ) → part ≡ literal → TextPut s at literal (put_mid at (at + length literal - at) s part) (at + length literal)
unfolding pasted
copied s at literal part e =
    let k : at + length literal - at ≡ length literal = omega arith in
    record { place = refl; bytes = rw (e, k) (ap (λ (r : List ℕ). take at s ++ (literal ++ r)) (drop-drop (length literal) at s)) }

-- ---- a copy: the first i bytes of the literal are written

module _ (s : List ℕ) (at : ℕ) (literal out : List ℕ) (i : ℕ) (fits : at + length literal ≤ length s) (w : TextPut s at (take i literal) out (at + i)) where
  pub copy_more : i < length literal → length out ≡ length s → TextPut s at (take (i + 1) literal) (set out (at + i) (get_or literal i 0)) (at + (i + 1))
  copy_more h e =
      let t : take (i + 1) literal ≡ take i literal ++ (get_or literal i 0 ∷ []) = rw add-one (take-suc literal i 0 h) in
      let l : length (take i literal) ≡ i = length-take-le i literal (omega arith) in
      let r = written_then w (written_one out (at + i) (get_or literal i 0) (omega arith)) (omega (arith, length-append (take i literal) (get_or literal i 0 ∷ []))) in
      rw t (record { place = omega (arith, r.place); bytes = r.bytes })

  pub copy_all : length literal ≤ i → TextPut s at literal out (at + i)
  copy_all h = rw (take_all i literal h) at w

-- ---- a decimal, digit by digit

pub put_low : (s : List ℕ) (at v : ℕ) → v < 10 → at + length (decimal v) ≤ length s → TextPut s at (decimal v) (set s at (48 + v)) (at + 1)
put_low s at v h fits = rw (decimal_low v h) (written_one s at (48 + v) (omega (arith, len_low v h)))

module _ {s o : List ℕ} {at n v : ℕ} (h : 10 ≤ v) (fits : at + length (decimal v) ≤ length s) (w : TextPut s at (decimal (v / 10)) o n) where
  last_digit : List ℕ
  last_digit = (48 + v % 10) ∷ []

  pub put_within : n < length o
  put_within = omega (arith, len_high v h, w.place, written_size w (omega (arith, len_high v h)))

  pub put_high : TextPut s at (decimal v) (set o n (48 + v % 10)) (n + 1)
  put_high =
      rw (decimal_high v h)
      (written_then w (written_one o n (48 + v % 10) put_within) (omega (arith, ap length (decimal_high v h))))
