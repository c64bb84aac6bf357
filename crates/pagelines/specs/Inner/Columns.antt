-- What the readers of a page's columns and lines answer.
-- Assumes nothing.
use Rattle.std.specs.Prelude.{ℕ, ◌+◌, ◌≤◌, ◌≡◌, true, cond, List, [], ◌∷◌, ◌++◌, eqb, length, drop, Option, Some, None}
use Rattle.graph.specs.KeyLists.{are_keys}
use Rattle.graph.specs.Packed.{listed}
use Rattle.text.specs.Text.{decimal, commas}
use Rattle.print.specs.Inner.Values.{node_by_value}
use Rattle.pagelines.specs.Page.{set_right, set_left, page_head, page_line, PageNode}
use Rattle.graph.specs.declared.keys.Keys.{Keys}
use Rattle.pagelines.specs.declared.read.NodeLine.{NodeLine}

-- the bytes from the first that is no blank on
unfoldable pub past_blanks : List ℕ → List ℕ
past_blanks [] = []
past_blanks (c ∷ cs) = cond (eqb c 32) (past_blanks cs) (c ∷ cs)

-- ---- what stands at a place of s

-- the text of v, which fits, so many bytes long
pub record Stands {A : Type 0} (Fits : A → Type 0) (text : A → List ℕ) (s : List ℕ) (at width : ℕ) (v : A) : Type 0 where
  pub fits : Fits v
  pub same : drop at s ≡ text v ++ drop (at + width) s

-- the text of nothing that fits
abbrev pub Missing : {A : Type 0} (Fits : A → Type 0) (text : A → List ℕ) (s : List ℕ) (at : ℕ) → Type 0
Missing {A} Fits text s at = (v : A) → Fits v → (x : List ℕ) → drop at s ≡ text v ++ x → ⊥

-- one or the other, of what was read
module _ {A B : Type 0} where
  abbrev pub ReadAt : (value : A → B) (Fits : B → Type 0) (text : B → List ℕ) (s : List ℕ) (at width : ℕ) → Option A → Type 0
  ReadAt value Fits text s at width (Some r) = Stands Fits text s at width (value r)
  ReadAt value Fits text s at width None = Missing Fits text s at

-- the same of a number
abbrev pub NumberAt : (Fits : ℕ → Type 0) (text : ℕ → List ℕ) (s : List ℕ) (at width : ℕ) → Option ℕ → Type 0
NumberAt = ReadAt (λ n. n)

-- ---- columns

-- a number of this range for which there are columns enough
pub record InColumns (columns least most v : ℕ) : Type 0 where
  pub low : least ≤ v
  pub high : v ≤ most
  pub short : length (decimal v) ≤ columns

abbrev pub number_text : (columns : ℕ) → ℕ → List ℕ
number_text columns v = set_right columns (decimal v)

abbrev pub NumberRight : (s : List ℕ) (at columns least most : ℕ) → Option ℕ → Type 0
NumberRight s at columns least most r = NumberAt (InColumns columns least most) (number_text columns) s at columns r

-- "A link list holds at most 8 keys, repeats allowed"
pub record LinkList (ks : List ℕ) : Type 0 where
  pub few : length ks ≤ 8
  pub keys : are_keys ks ≡ true

abbrev pub links_text : List ℕ → List ℕ
links_text ks = set_left 23 (commas ks)

abbrev pub LinksLeft : (s : List ℕ) (at : ℕ) → Option Keys → Type 0
LinksLeft s at r = ReadAt listed LinkList links_text s at 23 r

-- ---- lines

abbrev pub Few : ℕ → Type 0
Few n = n ≤ 64

abbrev pub HeadRead : List ℕ → Option ℕ → Type 0
HeadRead s r = NumberAt Few page_head s 0 38 r

abbrev pub LineRead : List ℕ → ℕ → Option NodeLine → Type 0
LineRead s at r = ReadAt (λ (l : NodeLine). node_by_value l.key l.value l.links) PageNode page_line s at 38 r
