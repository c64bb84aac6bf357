-- Parts of lists, element by element.
-- Assumes nothing.
use mathlib.Core.Path.{◌≡◌, sym, ap, ◌∙◌}
use Prim.Native.Nat.{ℕ, suc, ◌+◌, ◌*◌, ◌-◌, ◌≤◌, ◌<◌}
use native.Mathlib.Nat.{mul-suc, mul-le-mul_left}
use native.Mathlib.Omega.{arith}
use mathlib.Core.List.{List, ◌∷◌, ◌++◌}
use lib.ListN.{length, get_or, take, drop, length-append, length-take, length-drop, get_or-append}
use lib.Seq.{get_or-take, get_or-drop, get_or-append-add, get_or-append_seam, ext_get_or, take_all, length-take-le}
use Rattle.flat.specs.Inner.Queues.{remove_at}
use Rattle.records.specs.Inner.Numbers.{chunk}
use Rattle.image.specs.Inner.Regions.{insert_at}

-- i records of a size, and one more, are at most n records
pub next_place : (size i n : ℕ) → i < n → size * i + size ≤ size * n
next_place size i n h = omega (arith, mul-suc size i, mul-le-mul_left {m = suc i} {n = n} size h)

-- an element of a chunk, by its index in the list
pub chunk_byte : (s : List ℕ) (b n i : ℕ) → i < n → get_or (chunk s b n) i 0 ≡ get_or s (b + i) 0
unfolding chunk
chunk_byte s b n i h = get_or-take n (drop b s) i 0 h ∙ get_or-drop b s i 0

-- chunks with the same elements
pub chunk_same : (t s : List ℕ) (b c n : ℕ) → b + n ≤ length t → c + n ≤ length s → ((k : ℕ) → k < n → get_or t (b + k) 0 ≡ get_or s (c + k) 0) → chunk t b n ≡ chunk s c n
unfolding chunk
chunk_same t s b c n ht hs e =
    let lt : length (take n (drop b t)) ≡ n = simp (length-take, length-drop) (omega arith) in
    let ls : length (take n (drop c s)) ≡ n = simp (length-take, length-drop) (omega arith) in
    ext_get_or 0 (take n (drop b t)) (take n (drop c s)) (lt ∙ sym ls)
    (λ i h.
    let k : i < n = omega arith in
    get_or-take n (drop b t) i 0 k ∙ get_or-drop b t i 0 ∙ e i k ∙ sym (get_or-take n (drop c s) i 0 k ∙ get_or-drop c s i 0))

pub chunk_is : (t bs : List ℕ) (b : ℕ) → b + length bs ≤ length t → ((k : ℕ) → k < length bs → get_or t (b + k) 0 ≡ get_or bs k 0) → chunk t b (length bs) ≡ bs
unfolding chunk
chunk_is t bs b h e =
    chunk_same t bs b 0 (length bs) h (omega arith) (λ k l. e k l ∙ ap (λ (j : ℕ). get_or bs j 0) (omega arith))
    ∙ take_all (length bs) bs (omega arith)

-- the elements of a list with one removed, and with one more
module _ {A : Type 0} (xs : List A) (p : ℕ) (d : A) where
  remove_length : p < length xs → length (remove_at p xs) + 1 ≡ length xs
  remove_length h = simp (length-append, length-take, length-drop) (omega arith)

  pub length_remove : p < length xs → length (remove_at p xs) ≡ length xs - 1
  length_remove h = omega (arith, remove_length h)

  pub remove_below : p < length xs → (j : ℕ) → j < p → get_or (remove_at p xs) j d ≡ get_or xs j d
  remove_below h j l =
      let a : j < length (take p xs) = simp length-take (omega arith) in
      get_or-append (take p xs) (drop (suc p) xs) d j a ∙ get_or-take p xs j d l

  pub remove_above : p < length xs → (j : ℕ) → p ≤ j → get_or (remove_at p xs) j d ≡ get_or xs (j + 1) d
  remove_above h j l =
      let f : length (take p xs) ≡ p = length-take-le p xs (omega arith) in
      let e : j ≡ length (take p xs) + (j - p) = omega arith in
      ap (λ (n : ℕ). get_or (take p xs ++ drop (suc p) xs) n d) e
      ∙ get_or-append-add (take p xs) (drop (suc p) xs) (j - p) d
      ∙ get_or-drop (suc p) xs (j - p) d
      ∙ ap (λ (n : ℕ). get_or xs n d) (omega arith)

  module _ (x : A) (h : p ≤ length xs) where
    insert_front : length (take p xs) ≡ p
    insert_front = length-take-le p xs h

    pub length_insert : length (insert_at p x xs) ≡ length xs + 1
    length_insert = simp (length-append, length-take, length-drop) (omega (arith, length-drop p xs))

    pub insert_below : (j : ℕ) → j < p → get_or (insert_at p x xs) j d ≡ get_or xs j d
    insert_below j l =
        let a : j < length (take p xs) = simp length-take (omega arith) in
        get_or-append (take p xs) (x ∷ drop p xs) d j a ∙ get_or-take p xs j d l

    pub insert_at_law : (j : ℕ) → j ≡ p → get_or (insert_at p x xs) j d ≡ x
    insert_at_law j e = ap (λ (n : ℕ). get_or (take p xs ++ (x ∷ drop p xs)) n d) (e ∙ sym insert_front) ∙ get_or-append_seam (take p xs) x (drop p xs) d

    pub insert_above : (j : ℕ) → p ≤ j → get_or (insert_at p x xs) (j + 1) d ≡ get_or xs j d
    insert_above j l =
        let e : j + 1 ≡ length (take p xs) + suc (j - p) = omega (arith, insert_front) in
        ap (λ (n : ℕ). get_or (take p xs ++ (x ∷ drop p xs)) n d) e
        ∙ get_or-append-add (take p xs) (x ∷ drop p xs) (suc (j - p)) d
        ∙ get_or-drop p xs (j - p) d
        ∙ ap (λ (n : ℕ). get_or xs n d) (omega arith)
