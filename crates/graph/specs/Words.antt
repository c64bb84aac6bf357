-- Numbers of 32 bits: values, the numbers of a map, starts.
-- Assumes nothing.
use Rattle.std.specs.Prelude.{ℕ, ◌^◌, Bool, true, cond, ◌&&◌, List, [], ◌∷◌, ltb, ℤ, pos, ◌-ℤ◌}

-- 4,294,967,296
abbrev pub modulus : ℕ
modulus = 2 ^ 32

-- "from 0 to 4,294,967,295"
abbrev pub are_words : List ℕ → Bool
are_words [] = true
are_words (v ∷ vs) = ltb v modulus && are_words vs

-- the integer that a number counts as when it is signed: itself below 2,147,483,648, from there on itself less 4,294,967,296.
-- S-5, 'Negative offsets in top': "4,294,967,295 counts as −1 and 2,147,483,648 as the least"
abbrev pub signed : ℕ → ℤ
signed v = cond (ltb v (2 ^ 31)) (pos v) (pos v -ℤ pos modulus)
