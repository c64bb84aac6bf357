-- What the readers of lists answer.
-- Assumes nothing.
use Rattle.std.specs.Prelude.{ℕ, ◌<◌, ◌≤◌, min, true, cond, ◌&&◌, List, [], ◌∷◌, ◌++◌, ◌≡◌, leb, length, Option, Some, None}
use Rattle.graph.specs.KeyLists.{are_keys, above, rising}
use Rattle.graph.specs.Words.{modulus}
use Rattle.graph.specs.Valid.{Each}
use Rattle.graph.specs.Packed.{packed}
use Rattle.graph.specs.Refusals.{Answer, refused, done}
use Rattle.graph.specs.declared.keys.Keys.{Keys}
use Rattle.text.specs.Text.{decimal, commas}
use Rattle.keylists.specs.declared.keylist.KeyList.{KeyList}
use Rattle.keylists.specs.declared.sofar.ListSoFar.{ListSoFar}

-- what `are_words` tests, as facts
abbrev pub Below : List ℕ → Type 0
Below ts = Each (λ t. t < modulus) ts

-- ---- a list of keys

abbrev pub last_or : ℕ → List ℕ → ℕ
last_or d [] = d
last_or d (t ∷ ts) = last_or t ts

-- the array holds the list, where it is one of at most eight keys
abbrev pub KeysStored : List ℕ → List ℕ → Type 0
KeysStored ts key = are_keys ts ≡ true → length ts ≤ 8 → key ≡ (packed ts).key

-- what is known of the list ts
pub record KeysOf (ts : List ℕ) (k : KeyList) : Type 0 where
  pub count : k.count ≡ min (length ts) 9
  pub latest : k.latest ≡ last_or 0 ts
  pub keys : k.keys ≡ are_keys ts
  pub rising : k.rising ≡ above 0 ts
  pub stored : KeysStored ts k.key

-- the keys that these numbers are: refused by 11, then 12
abbrev pub keys_named : List ℕ → Answer Keys
keys_named ts = cond (are_keys ts) (cond (leb (length ts) 8 && rising ts) (done (packed ts)) (refused 12)) (refused 11)

-- `Some k`: the bytes are the text of a list of 32-bit numbers, and this is known of it. `None`: of none
abbrev pub KeysRead : List ℕ → Option KeyList → Type 0
KeysRead l (Some k) = (ts : List ℕ) × Below ts × (l ≡ commas ts) × KeysOf ts k
KeysRead l None = (ts : List ℕ) → Below ts → l ≡ commas ts → ⊥

-- ---- a list of which the first bytes came

-- each number with a comma behind it
unfoldable pub passed : List ℕ → List ℕ
passed [] = []
passed (t ∷ ts) = decimal t ++ (44 ∷ passed ts)

-- the digits after the last comma: none yet, or those of v
abbrev pub begun : Option ℕ → List ℕ
begun None = []
begun (Some v) = decimal v

-- the bytes are some numbers, each with its comma, and the digits of one that has begun
pub record Begun (s : List ℕ) (f : ListSoFar) : Type 0 where
  pub read : List ℕ
  pub below : Below read
  pub text : s ≡ passed read ++ begun f.number
  pub known : KeysOf read f.list

-- `None`: no list of 32-bit numbers begins with the bytes
abbrev pub ReadSoFar : List ℕ → Option ListSoFar → Type 0
ReadSoFar s (Some f) = Begun s f
ReadSoFar s None = (rest us : List ℕ) → Below us → s ++ rest ≡ commas us → ⊥
