-- Texts as lists of bytes: parts of a text, decimals, lists of numbers, and a text written into a buffer.
-- Assumes nothing.
use Rattle.std.specs.Prelude.{ℕ, zero, suc, ◌+◌, ◌/◌, ◌%◌, Bool, true, false, cond, List, [], ◌∷◌, ◌++◌, ltb, eqb, length, take, drop}
use Prim.Native.Char.{code}
use Prim.Native.String.{String, [] as none, ◌∷◌ as ◌then◌}

-- a text of ASCII characters, as bytes
unfoldable pub ascii : String → List ℕ
ascii none = []
ascii (◌then◌ c s) = code c ∷ ascii s

-- the bytes before the first `stop`, or all
unfoldable pub up_to : ℕ → List ℕ → List ℕ
up_to stop [] = []
up_to stop (x ∷ xs) = cond (eqb x stop) [] (x ∷ up_to stop xs)

-- texts one after another
abbrev pub texts : {A : Type 0} → (A → List ℕ) → List A → List ℕ
texts text [] = []
texts text (x ∷ xs) = text x ++ texts text xs

-- does the text begin with this one?
unfoldable pub starts_with : (literal text : List ℕ) → Bool
starts_with [] text = true
starts_with (c ∷ cs) [] = false
starts_with (c ∷ cs) (x ∷ xs) = cond (eqb x c) (starts_with cs xs) false

-- the digits of n, most significant first, in at most `turns` divisions
unfoldable pub digits : (turns n : ℕ) → List ℕ
digits zero n = (48 + n) ∷ []
digits (suc turns) n = cond (ltb n 10) ((48 + n) ∷ []) (digits turns (n / 10) ++ (48 + n % 10) ∷ [])

-- n in base ten, without leading zeros
unfoldable pub decimal : ℕ → List ℕ
decimal n = digits n n

-- each number with a comma before it
unfoldable pub further : List ℕ → List ℕ
further [] = []
further (t ∷ ts) = 44 ∷ (decimal t ++ further ts)

-- numbers parted by commas
unfoldable pub commas : List ℕ → List ℕ
commas [] = []
commas (t ∷ ts) = decimal t ++ further ts

-- the buffer with this text from `at` on
unfoldable pub pasted : List ℕ → ℕ → List ℕ → List ℕ
pasted buffer at text = take at buffer ++ (text ++ drop (at + length text) buffer)
