-- Pages of S-1, computed. proofs/Cases.antt proves them.
-- Assumes nothing.
use Rattle.std.specs.Prelude.{ℕ, ◌≡◌, List, [], ◌∷◌, ◌++◌, replicate}
use Rattle.graph.specs.Nodes.{Node}
use Rattle.text.specs.Text.{ascii, texts}
use Rattle.print.specs.Printed.{newline, node_text}
use Rattle.graph.specs.Refusals.{refused, done}
use Rattle.pagelines.specs.Page.{page_text}
use Rattle.page.specs.Entries.{written, text_served}

-- a line of a text
abbrev pub line_of_text : List ℕ → List ℕ
line_of_text text = text ++ newline

abbrev pub front : Node
front = record { key = 12; value = 51000; links = 64 ∷ 63 ∷ 62 ∷ 61 ∷ 60 ∷ 59 ∷ 58 ∷ 57 ∷ [] }

abbrev pub middle : Node
middle = record { key = 2; value = 51; links = [] }

abbrev pub back : Node
back = record { key = 1; value = 0; links = 3 ∷ 3 ∷ [] }

pub record Cases : Type 0 where
  pub three : page_text (front ∷ middle ∷ back ∷ [])
      ≡ line_of_text (ascii "nodes                               3")
      ++ line_of_text (ascii "12      51000 64,63,62,61,60,59,58,57")
      ++ line_of_text (ascii " 2         51                        ")
      ++ line_of_text (ascii " 1          0 3,3                    ")
  pub three_back : texts node_text (front ∷ middle ∷ back ∷ [])
      ≡ line_of_text (ascii "key=12 value=51000 links=64,63,62,61,60,59,58,57")
      ++ line_of_text (ascii "key=2 value=51 links=")
      ++ line_of_text (ascii "key=1 value=0 links=3,3")
  -- the page of no nodes is its head, and reads back as nothing
  pub none : page_text [] ≡ line_of_text (ascii "nodes                               0")
  -- "34 an output shorter than what is to be written": 37 bytes are too few for a head, and of 39 the last stays
  pub no_room : text_served written (replicate 37 35) (page_text []) ≡ written (refused 34) (replicate 37 35)
  pub room : text_served written (replicate 39 35) (page_text []) ≡ written (done 38) (page_text [] ++ ascii "#")
