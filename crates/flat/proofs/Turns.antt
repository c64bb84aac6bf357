-- Searches and changes of a part of a list, one turn of a loop at a time.
-- Assumes nothing.
use mathlib.Core.Path.{◌≡◌, refl, sym, ◌∙◌, ap}
use Prim.Native.Nat.{ℕ, zero, suc, ◌+◌, ◌≤◌, ◌<◌}
use native.Mathlib.Nat.{add-zero}
use native.Mathlib.Numerals.{add-one}
use native.Mathlib.Omega.{arith}
use mathlib.Core.Bool.{Bool, true, false, cond, ◌||◌}
use mathlib.Core.List.{List, [], ◌∷◌, ◌++◌, append_assoc, map, map-append}
use lib.Dec.{ltb, leb-suc-suc}
use lib.ListN.{length, take, drop, get_or, drop_of_length-le, length-append, length-map, take-append-drop}
use lib.Seq.{slice, slice_empty, length-slice, length-take-le, get_or-take, drop-cons, drop-append-le, take-suc}
use borrow.Author.Tests.{lt-ltb, le-ltb, ltb-true, ltb-false}
use Rattle.graph.specs.Steps.{any}
use Rattle.flat.specs.Inner.Queues.{first_index}
use Rattle.flat.specs.Inner.FlatSteps.{alter, map_from, first_in}

-- a search from i on: at an element that p holds of, at another, and at the end
module _ {A : Type 0} (p : A → Bool) (l : List A) (i : ℕ) where
  pub find_end : length l ≤ i → i + first_index p (drop i l) ≡ i
  find_end h = rw (drop_of_length-le l h) (add-zero i)

  module _ (d : A) (h : i < length l) where
    pub find_hit : p (get_or l i d) ≡ true → i + first_index p (drop i l) ≡ i
    find_hit e = rw (drop-cons l i d h, e) (add-zero i)

    pub find_next : p (get_or l i d) ≡ false → i + 1 + first_index p (drop (i + 1) l) ≡ i + first_index p (drop i l)
    find_next e = rw (add-one i, drop-cons l i d h, e) (omega arith)

module _ {A : Type 0} (p : A → Bool) where
  any_find : (xs : List A) → any p xs ≡ ltb (first_index p xs) (length xs)
  any_find [] = sym (le-ltb 0 0 (omega arith))
  any_find (x ∷ xs) = go (p x) (any_find xs)
    where
      go : (b : Bool) → any p xs ≡ ltb (first_index p xs) (length xs) → (b || any p xs) ≡ ltb (cond b zero (suc (first_index p xs))) (suc (length xs))
      go true e = sym (lt-ltb 0 (suc (length xs)) (omega arith))
      go false e = e ∙ sym (leb-suc-suc (suc (first_index p xs)) (length xs))

  module _ (xs : List A) (e : ℕ) (fits : e ≤ length xs) where
    -- the search's answer is below e exactly where there is one
    pub any_first : (a : ℕ) → a ≤ e → any p (slice a e xs) ≡ ltb (first_in p a e xs) e
    any_first a h = any_find (slice a e xs) ∙ go (first_index p (slice a e xs)) (length (slice a e xs)) (omega (arith, length-slice a e xs fits))
      where
        go : (n m : ℕ) → a + m ≡ e → ltb n m ≡ ltb (a + n) e
        go n m q = by_ltb (ltb n m) refl
          where
            by_ltb : (b : Bool) → ltb n m ≡ b → b ≡ ltb (a + n) e
            by_ltb true f = sym (lt-ltb (a + n) e (omega (arith, ltb-true n m f)))
            by_ltb false f = sym (le-ltb (a + n) e (omega (arith, ltb-false n m f)))

    -- a turn of the loop at j: it stops there, or goes on
    pub first_stop : (j : ℕ) (d : A) → j < e → p (get_or xs j d) ≡ true → first_in p j e xs ≡ j
    first_stop j d h t = find_hit p (take e xs) j d (omega (arith, length-take-le e xs fits)) (ap p (get_or-take e xs j d h) ∙ t)

    pub first_next : (j : ℕ) (d : A) → j < e → p (get_or xs j d) ≡ false → first_in p j e xs ≡ first_in p (suc j) e xs
    first_next j d h t =
        sym (find_next p (take e xs) j d (omega (arith, length-take-le e xs fits)) (ap p (get_or-take e xs j d h) ∙ t)) ∙ ap (λ (m : ℕ). first_in p m e xs) (add-one j)

    pub first_end : first_in p e e xs ≡ e
    first_end = find_end p (take e xs) e (omega (arith, length-take-le e xs fits))

module _ {A : Type 0} (f : A → A) where
  pub alter_seam : (xs : List A) (y : A) (ys : List A) → alter (length xs) f (xs ++ (y ∷ ys)) ≡ xs ++ (f y ∷ ys)
  alter_seam [] y ys = refl
  alter_seam (x ∷ xs) y ys = ap (λ (r : List A). x ∷ r) (alter_seam xs y ys)

  pub alter_length : (i : ℕ) (xs : List A) → length (alter i f xs) ≡ length xs
  alter_length i [] = refl
  alter_length zero (x ∷ xs) = refl
  alter_length (suc i) (x ∷ xs) = ap suc (alter_length i xs)

  -- the part from a on, changed up to j, and then at j too
  slice_snoc : (a j : ℕ) (xs : List A) (d : A) → a ≤ j → j < length xs → slice a (suc j) xs ≡ slice a j xs ++ (get_or xs j d ∷ [])
  slice_snoc a j xs d h k =
      ap (drop a) (take-suc xs j d k) ∙ drop-append-le a (take j xs) (get_or xs j d ∷ []) (omega (arith, length-take-le j xs (omega arith)))

  pub map_from_none : (a : ℕ) (xs : List A) → map_from f a a xs ≡ xs
  map_from_none a xs = ap (λ (ys : List A). take a xs ++ (map f ys ++ drop a xs)) (slice_empty a xs) ∙ take-append-drop a xs

  pub map_from_next : (a j : ℕ) (xs : List A) (d : A) → a ≤ j → j < length xs → alter j f (map_from f a j xs) ≡ map_from f a (suc j) xs
  map_from_next a j xs d h k =
      let left : List A = take a xs ++ map f (slice a j xs) in
      let size : length left ≡ j = omega (arith, length-append (take a xs) (map f (slice a j xs)), length-take-le a xs (omega arith), length-map (slice a j xs) f, length-slice a j xs (omega arith)) in
      ap (alter j f) (ap (λ (ys : List A). take a xs ++ (map f (slice a j xs) ++ ys)) (drop-cons xs j d k) ∙ sym (append_assoc (take a xs) (map f (slice a j xs)) (get_or xs j d ∷ drop (suc j) xs)))
      ∙ ap (λ (i : ℕ). alter i f (left ++ (get_or xs j d ∷ drop (suc j) xs))) (sym size)
      ∙ alter_seam left (get_or xs j d) (drop (suc j) xs)
      ∙ append_assoc (take a xs) (map f (slice a j xs)) (f (get_or xs j d) ∷ drop (suc j) xs)
      ∙ ap (λ (ys : List A). take a xs ++ ys) (sym (append_assoc (map f (slice a j xs)) (f (get_or xs j d) ∷ []) (drop (suc j) xs)) ∙ ap (λ (ys : List A). ys ++ drop (suc j) xs) (sym (ap (map f) (slice_snoc a j xs d h k) ∙ map-append f (slice a j xs) (get_or xs j d ∷ []))))
