-- What is written (docs/RULES.md): result lines, node lines, the listing, and cgrun's refusals.
-- Assumes nothing.
use Rattle.std.specs.Prelude.{ℕ, List, [], ◌∷◌, ◌++◌, length}
use Rattle.graph.specs.Nodes.{Node, Result}
use Rattle.text.specs.Text.{ascii, decimal, commas, texts}

-- a name and a number
abbrev pub numbered : List ℕ → ℕ → List ℕ
numbered name v = name ++ decimal v

abbrev pub newline : List ℕ
newline = 10 ∷ []

-- two numbers and a list of keys, each after its name
abbrev pub line_of : (a : List ℕ) (x : ℕ) (b : List ℕ) (y : ℕ) (c keys : List ℕ) → List ℕ
line_of a x b y c keys = numbered a x ++ numbered b y ++ c ++ commas keys ++ newline

-- label=4 value=54 left=9
abbrev pub result_text : Result → List ℕ
result_text r = line_of (ascii "label=") r.label (ascii " value=") r.value (ascii " left=") r.left

-- key=2 value=25 links=
abbrev pub node_text : Node → List ℕ
node_text n = line_of (ascii "key=") n.key (ascii " value=") n.value (ascii " links=") n.links

-- nodes=2 results=4 pending=0
abbrev pub head_text : (nodes results pending : ℕ) → List ℕ
head_text nodes results pending =
    numbered (ascii "nodes=") nodes ++ numbered (ascii " results=") results ++ numbered (ascii " pending=") pending ++ newline

-- "The head counts nodes, unclaimed results and pending calls. Nodes stand in station order, results by label."
abbrev pub listing_text : List Node → List Result → (pending : ℕ) → List ℕ
listing_text nodes results pending = head_text (length nodes) (length results) pending ++ texts node_text nodes ++ texts result_text results

-- line=3 refused=12
abbrev pub refusal_text : (line refusal : ℕ) → List ℕ
refusal_text line refusal = numbered (ascii "line=") line ++ numbered (ascii " refused=") refusal ++ newline
