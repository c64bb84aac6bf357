-- The text of a page's lines determines the nodes.
-- Assumes nothing.
use Prim.Native.Nat.{ℕ, ◌-◌, ◌≤◌}
use mathlib.Core.Path.{◌≡◌, refl, sym, ap, ◌∙◌}
use mathlib.Core.List.{List, [], ◌∷◌, ◌++◌}
use native.Mathlib.Omega.{arith}
use lib.ListN.{length, take, replicate}
use lib.Seq.{take_at}
use Rattle.graph.specs.Nodes.{Node}
use Rattle.graph.specs.Valid.{Each}
use Rattle.text.specs.Text.{up_to, decimal, commas, texts}
use Rattle.text.proofs.Decimals.{decimal_inj}
use Rattle.text.proofs.Splits.{cancel, part_is}
use Rattle.text.proofs.CommaLists.{commas_inj, commas_clean}
use Rattle.pagelines.specs.Page.{set_left, page_head, page_line, PageNode}
use Rattle.pagelines.specs.Inner.Columns.{past_blanks, Few, number_text, links_text}
use Rattle.pagelines.proofs.Widths.{length_right, length_left, key_columns, value_columns, link_columns, count_columns, lines_length}
use Rattle.pagelines.proofs.BlanksRead.{past_right}
use Rattle.pagelines.proofs.FieldsRead.{blanks_gap}
use Rattle.pagelines.proofs.LinesRead.{line, head}

front_same : (a b x y : List ℕ) (n : ℕ) → length a ≡ n → length b ≡ n → a ++ x ≡ b ++ y → a ≡ b
front_same a b x y n la lb e = sym (take_at a x n la) ∙ ap (take n) e ∙ take_at b y n lb

number_once : (columns v w : ℕ) (x y : List ℕ) → length (decimal v) ≤ columns → length (decimal w) ≤ columns → number_text columns v ++ x ≡ number_text columns w ++ y → v ≡ w
number_once columns v w x y hv hw e =
    let same = front_same (number_text columns v) (number_text columns w) x y columns (length_right columns (decimal v) hv) (length_right columns (decimal w) hw) e in
    decimal_inj v w (sym (past_right columns v) ∙ ap past_blanks same ∙ past_right columns w)

text_left : (columns : ℕ) (ks : List ℕ) → up_to 32 (set_left columns (commas ks)) ≡ commas ks
unfolding set_left
text_left columns ks =
    part_is 32 (set_left columns (commas ks)) (commas ks) (replicate (columns - length (commas ks)) 32) refl (commas_clean 32 (omega arith) ks) (blanks_gap (columns - length (commas ks)))

links_once : (ks us x y : List ℕ) → length (commas ks) ≤ 23 → length (commas us) ≤ 23 → links_text ks ++ x ≡ links_text us ++ y → ks ≡ us
links_once ks us x y hk hu e =
    let same = front_same (links_text ks) (links_text us) x y 23 (length_left 23 (commas ks) hk) (length_left 23 (commas us) hu) e in
    commas_inj ks us (sym (text_left 23 ks) ∙ ap (up_to 32) same ∙ text_left 23 us)

pub head_once : (n m : ℕ) (x y : List ℕ) → Few n → Few m → page_head n ++ x ≡ page_head m ++ y → n ≡ m
head_once n m x y hn hm e =
    let a = head (page_head n ++ x) n hn x refl in
    let b = head (page_head n ++ x) m hm y e in
    number_once 32 n m a.ends b.ends (count_columns n hn) (count_columns m hm) (sym a.count ∙ b.count)

-- one line, whatever follows
pub line_once : (n m : Node) (x y : List ℕ) → PageNode n → PageNode m → page_line n ++ x ≡ page_line m ++ y → n ≡ m
line_once n m x y pn pm e =
    let s = page_line n ++ x in
    let a = line s 0 n pn x refl in
    let b = line s 0 m pm y e in
    let key = number_once 2 n.key m.key a.keys b.keys (key_columns n pn) (key_columns m pm) (sym a.key ∙ b.key) in
    let value = number_once 10 n.value m.value a.values b.values (value_columns n pn) (value_columns m pm) (sym a.value ∙ b.value) in
    let links = links_once n.links m.links a.ends b.ends (link_columns n pn) (link_columns m pm) (sym a.links ∙ b.links) in
    λ i. record { key = key i; value = value i; links = links i }

pub lines_once : (ns ms : List Node) → Each PageNode ns → Each PageNode ms → texts page_line ns ≡ texts page_line ms → ns ≡ ms
lines_once [] [] pn pm e = refl
lines_once [] (m ∷ ms) pn pm e = absurd (omega (arith, ap length e, lines_length (m ∷ ms) pm))
lines_once (n ∷ ns) [] pn pm e = absurd (omega (arith, ap length e, lines_length (n ∷ ns) pn))
lines_once (n ∷ ns) (m ∷ ms) pn pm e =
    let first = line_once n m (texts page_line ns) (texts page_line ms) pn.0 pm.0 e in
    let others = cancel (page_line m) (texts page_line ns) (texts page_line ms) (ap (λ (k : Node). page_line k ++ texts page_line ns) (sym first) ∙ e) in
    λ i. first i ∷ lines_once ns ms pn.1 pm.1 others i
