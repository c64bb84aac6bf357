-- The listing: how it grows by a line, and the listing that document 01 prints, computed.
-- Assumes nothing.
use Prim.Native.Nat.{ℕ}
use mathlib.Core.Path.{◌≡◌, refl}
use mathlib.Core.List.{List, [], ◌∷◌, ◌++◌}
use Rattle.graph.specs.Nodes.{Node, Result}
use Rattle.text.specs.Text.{ascii, digits, decimal, further, commas}
use Rattle.print.specs.Printed.{newline, listing_text, refusal_text}

node : ℕ → ℕ → Node
node key value = record { key = key; value = value; links = [] }

result : ℕ → ℕ → List ℕ → Result
result label value left = record { label = label; value = value; left = left }

listing : List ℕ
listing = listing_text (node 2 25 ∷ node 1 19 ∷ []) (result 1 1 [] ∷ result 2 2 [] ∷ result 3 0 [] ∷ result 4 54 (9 ∷ []) ∷ []) 0

document : listing
    ≡ ascii "nodes=2 results=4 pending=0" ++ newline ++ ascii "key=2 value=25 links=" ++ newline ++ ascii "key=1 value=19 links=" ++ newline
    ++ ascii "label=1 value=1 left=" ++ newline ++ ascii "label=2 value=2 left=" ++ newline ++ ascii "label=3 value=0 left=" ++ newline
    ++ ascii "label=4 value=54 left=9" ++ newline
unfolding ascii digits decimal further commas listing node result
document = refl

refusal : refusal_text 3 12 ≡ ascii "line=3 refused=12" ++ newline
unfolding ascii digits decimal
refusal = refl
