-- Lines one after another, one more at a time: measured, and written.
-- Assumes nothing.
use Prim.Native.Nat.{ℕ, suc, ◌+◌, ◌≤◌, ◌<◌}
use mathlib.Core.Path.{◌≡◌, refl, sym, ap, subst, ◌∙◌}
use mathlib.Core.List.{List, [], ◌∷◌, ◌++◌, append-nil, append_assoc, map, reverse, reverse-cons, reverse-append}
use native.Mathlib.Omega.{arith}
use native.Mathlib.Numerals.{add-one}
use lib.ListN.{length, take, drop, get_or, length-append, length-drop, length-reverse}
use lib.Seq.{take-suc, split_at, get_or_at}
use Rattle.text.specs.Inner.Put.{TextPut}
use Rattle.text.specs.Text.{texts}
use Rattle.text.proofs.Pasting.{written_room, written_then}
use Rattle.text.proofs.CommaLists.{texts_append}
use Rattle.listing.specs.Inner.Rows.{joined}

-- the same text, written another way
pub written_as : {s a b o : List ℕ} {at p : ℕ} → a ≡ b → TextPut s at a o p → TextPut s at b o p
written_as {s} {a} {b} {o} {at} {p} e w = subst (λ (t : List ℕ). TextPut s at t o p) e w

pub joined_append : (xs ys : List (List ℕ)) → joined (xs ++ ys) ≡ joined xs ++ joined ys
joined_append xs ys = texts_append (λ (l : List ℕ). l) xs ys

pub joined_map : {A : Type 0} (text : A → List ℕ) (xs : List A) → joined (map text xs) ≡ texts text xs
joined_map text [] = refl
joined_map text (x ∷ xs) = ap (λ (r : List ℕ). text x ++ r) (joined_map text xs)

-- the line at i comes after those before it
module _ (xs : List (List ℕ)) (i : ℕ) (h : i < length xs) where
  front_next : take (i + 1) xs ≡ take i xs ++ (get_or xs i [] ∷ [])
  front_next = rw add-one (take-suc xs i [] h)

  joined_next : joined (take (i + 1) xs) ≡ joined (take i xs) ++ get_or xs i []
  joined_next =
      ap joined front_next ∙ joined_append (take i xs) (get_or xs i [] ∷ []) ∙ ap (λ (r : List ℕ). joined (take i xs) ++ r) (append-nil (get_or xs i []))

  pub length_next : length (joined (take (i + 1) xs)) ≡ length (joined (take i xs)) + length (get_or xs i [])
  length_next = ap length joined_next ∙ length-append (joined (take i xs)) (get_or xs i [])

  module _ {s out : List ℕ} {at p : ℕ} (fits : at + length (joined xs) ≤ length s) (w : TextPut s at (joined (take i xs)) out p) where
    room : at + length (joined (take i xs) ++ get_or xs i []) ≤ length s
    room =
        omega (
          arith,
          ap (λ (r : List (List ℕ)). length (joined r)) (split_at xs i [] h),
          ap length (joined_append (take i xs) (get_or xs i [] ∷ drop (suc i) xs)),
          length-append (joined (take i xs)) (get_or xs i [] ++ joined (drop (suc i) xs)),
          length-append (get_or xs i []) (joined (drop (suc i) xs)),
          length-append (joined (take i xs)) (get_or xs i []),
        )

    pub row_room : p + length (get_or xs i []) ≤ length out
    row_room = written_room w (get_or xs i []) room

    pub row_more : {out' : List ℕ} {p' : ℕ} → TextPut out p (get_or xs i []) out' p' → TextPut s at (joined (take (i + 1) xs)) out' p'
    row_more v = written_as (sym joined_next) (written_then w v room)

-- a list read from the back
pub get_d_back : {A : Type 0} (xs : List A) (i j : ℕ) (d : A) → i + suc j ≡ length xs → get_or (reverse xs) i d ≡ get_or xs j d
get_d_back {A} xs i j d e =
    let h : j < length xs = omega arith in
    let whole : reverse xs ≡ reverse (drop (suc j) xs) ++ (get_or xs j d ∷ reverse (take j xs)) =
    ap reverse (split_at xs j d h) ∙ reverse-append (take j xs) (get_or xs j d ∷ drop (suc j) xs)
    ∙ ap (λ (r : List A). r ++ reverse (take j xs)) (reverse-cons (get_or xs j d) (drop (suc j) xs))
    ∙ append_assoc (reverse (drop (suc j) xs)) (get_or xs j d ∷ []) (reverse (take j xs)) in
    ap (λ (r : List A). get_or r i d) whole
    ∙ get_or_at (reverse (drop (suc j) xs)) (get_or xs j d) (reverse (take j xs)) d i (omega (arith, length-reverse (drop (suc j) xs), length-drop (suc j) xs))
