-- A result and a node by value, and a list key by key.
-- Assumes nothing.
use Rattle.std.specs.Prelude.{ℕ, zero, suc, List, ◌∷◌}
use Rattle.graph.specs.Nodes.{Node, Result}
use Rattle.graph.specs.Packed.{listed}
use Rattle.graph.specs.declared.keys.Keys.{Keys}
use Rattle.text.specs.Text.{decimal}

-- ---- a result and a node by value

abbrev pub result_by_value : ℕ → ℕ → Keys → Result
result_by_value label value left = record { label = label; value = value; left = listed left }

abbrev pub node_by_value : ℕ → ℕ → Keys → Node
node_by_value key value links = record { key = key; value = value; links = listed links }

-- ---- a list key by key

-- the key at a place of a list: a comma before each but the first
abbrev pub entry : (place key : ℕ) → List ℕ
entry zero key = decimal key
entry (suc place) key = 44 ∷ decimal key
