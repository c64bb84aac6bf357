-- Numbers and key lists in bytes, least significant byte first.
-- Assumes nothing.
use Rattle.std.specs.Prelude.{ℕ, ◌+◌, ◌/◌, ◌%◌, List, [], ◌∷◌, get_or}
use Rattle.graph.specs.declared.keys.Keys.{Keys}

-- the two bytes of a number, and the four
abbrev pub bytes16 : ℕ → List ℕ
bytes16 v = v % 256 ∷ v / 256 % 256 ∷ []

abbrev pub bytes32 : ℕ → List ℕ
bytes32 v = v % 256 ∷ v / 256 % 256 ∷ v / 256 / 256 % 256 ∷ v / 256 / 256 / 256 % 256 ∷ []

-- the eight bytes at `at`
abbrev pub bytes8 : List ℕ → ℕ → List ℕ
bytes8 s at =
    get_or s at 0 ∷ get_or s (at + 1) 0 ∷ get_or s (at + 2) 0 ∷ get_or s (at + 3) 0
    ∷ get_or s (at + 4) 0 ∷ get_or s (at + 5) 0 ∷ get_or s (at + 6) 0 ∷ get_or s (at + 7) 0 ∷ []

-- a list of keys, 9 bytes: its count, and eight places
abbrev pub encode_keys : Keys → List ℕ
encode_keys k = k.count ∷ bytes8 k.key 0
