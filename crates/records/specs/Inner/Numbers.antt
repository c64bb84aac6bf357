-- Numbers and key lists read from bytes, and parts of a list of bytes.
-- Assumes nothing.
use Rattle.std.specs.Prelude.{ℕ, zero, suc, ◌+◌, ◌*◌, Bool, true, ◌&&◌, List, [], ◌∷◌, eqb, get_or, take, drop}
use Rattle.graph.specs.declared.keys.Keys.{Keys}
use Rattle.records.specs.Bytes.{bytes8}

-- the number in the two bytes at `at`, in the four, and in the eight
abbrev pub le16 : List ℕ → ℕ → ℕ
le16 s at = get_or s at 0 + get_or s (at + 1) 0 * 256

abbrev pub le32 : List ℕ → ℕ → ℕ
le32 s at = get_or s at 0 + (get_or s (at + 1) 0 + (get_or s (at + 2) 0 + get_or s (at + 3) 0 * 256) * 256) * 256

abbrev pub le64 : List ℕ → ℕ → ℕ
le64 s at =
    get_or s at 0
    + (get_or s (at + 1) 0
    + (get_or s (at + 2) 0
    + (get_or s (at + 3) 0 + (get_or s (at + 4) 0 + (get_or s (at + 5) 0
    + (get_or s (at + 6) 0 + get_or s (at + 7) 0 * 256) * 256) * 256) * 256) * 256) * 256) * 256

-- a list of keys, 9 bytes: its count, and eight places
abbrev pub keys_at : List ℕ → ℕ → Keys
keys_at s at = record { count = get_or s at 0; key = bytes8 s (at + 1) }

-- f 0, f 1, .., f (n - 1)
module _ {A : Type 0} where
  unfoldable pub tab : ℕ → (ℕ → A) → List A
  tab zero f = []
  tab (suc n) f = f 0 ∷ tab n (λ i. f (suc i))

-- the n elements from index at
unfoldable pub chunk : List ℕ → ℕ → ℕ → List ℕ
chunk s at n = take n (drop at s)

unfoldable pub all_zero : List ℕ → Bool
all_zero [] = true
all_zero (x ∷ xs) = eqb x 0 && all_zero xs
