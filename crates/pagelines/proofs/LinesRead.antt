-- A line of a page by its parts: where one of them is missing no line stands, and where all stand the line does.
-- Assumes nothing.
use Prim.Native.Nat.{ℕ, suc, ◌+◌, ◌<◌, ◌≤◌}
use mathlib.Core.Path.{◌≡◌, refl, sym, ap, ◌∙◌}
use mathlib.Core.List.{List, [], ◌∷◌, ◌++◌, append_assoc}
use native.Mathlib.Omega.{arith}
use borrow.Author.Tests.{le-leb}
use lib.ListN.{length, drop, get_or, length-append, length-drop}
use lib.Seq.{get_or-drop, drop-cons}
use Rattle.graph.specs.Nodes.{Node}
use Rattle.graph.specs.Packed.{listed}
use Rattle.graph.specs.declared.keys.Keys.{Keys}
use Rattle.graph.proofs.Answers.{and_both}
use Rattle.graph.proofs.KeyLaws.{key_low, key_high}
use Rattle.text.specs.Text.{ascii, decimal, commas}
use Rattle.text.specs.Inner.PartsRead.{LiteralAt}
use Rattle.std.specs.Prelude.{Some, None}
use Rattle.print.specs.Printed.{newline}
use Rattle.print.specs.Inner.Values.{node_by_value}
use Rattle.pagelines.specs.Page.{blank, page_head, page_line, PageNode}
use Rattle.pagelines.specs.Inner.Columns.{Stands, Missing, number_text, NumberRight, LinkList, links_text, Few, HeadRead}
use Rattle.pagelines.proofs.Widths.{length_right, length_left, key_columns, value_columns, link_columns, count_columns}
use Rattle.pagelines.proofs.FieldsRead.{rest_after}

-- the byte at a place, and what stands after it
byte_at : (s : List ℕ) (k c : ℕ) (x : List ℕ) → drop k s ≡ c ∷ x → get_or s k 0 ≡ c
byte_at s k c x e = ap (λ (j : ℕ). get_or s j 0) (let z : k ≡ k + 0 = omega arith in z) ∙ sym (get_or-drop k s 0 0) ∙ ap (λ (l : List ℕ). get_or l 0 0) e

past_byte : (s : List ℕ) (k j c : ℕ) → k < length s → get_or s k 0 ≡ c → j ≡ suc k → drop k s ≡ (c ∷ []) ++ drop j s
past_byte s k j c h e n = drop-cons s k 0 h ∙ (λ i. e i ∷ drop (sym n i) s)

-- the next part begins at k
next : (s : List ℕ) (at k : ℕ) (t x : List ℕ) → k ≡ at + length t → drop at s ≡ t ++ x → drop k s ≡ x
next s at k t x n e = ap (λ (j : ℕ). drop j s) n ∙ rest_after s at (length t) t x refl e

-- ---- a node's line

parts : (a b c d e f x : List ℕ) → a ++ b ++ c ++ d ++ e ++ f ++ x ≡ a ++ (b ++ (c ++ (d ++ (e ++ (f ++ x)))))
parts a b c d e f x = simp append_assoc

-- a line stands at a place of s, by its parts
pub record Line (s : List ℕ) (at : ℕ) (n : Node) : Type 0 where
  pub ends : List ℕ
  pub values : List ℕ
  pub keys : List ℕ
  pub key : drop at s ≡ number_text 2 n.key ++ keys
  pub third : get_or s (at + 2) 0 ≡ 32
  pub value : drop (at + 3) s ≡ number_text 10 n.value ++ values
  pub fourteenth : get_or s (at + 13) 0 ≡ 32
  pub links : drop (at + 14) s ≡ links_text n.links ++ ends
  pub newlines : get_or s (at + 37) 0 ≡ 10

pub line : (s : List ℕ) (at : ℕ) (n : Node) → PageNode n → (x : List ℕ) → drop at s ≡ page_line n ++ x → Line s at n
line s at n p x e =
    let k = number_text 2 n.key in
    let v = number_text 10 n.value in
    let l = links_text n.links in
    let lk : length k ≡ 2 = length_right 2 (decimal n.key) (key_columns n p) in
    let lv : length v ≡ 10 = length_right 10 (decimal n.value) (value_columns n p) in
    let ll : length l ≡ 23 = length_left 23 (commas n.links) (link_columns n p) in
    let e0 : drop at s ≡ k ++ (blank ++ (v ++ (blank ++ (l ++ (newline ++ x))))) = e ∙ parts k blank v blank l newline x in
    let e1 : drop (at + 2) s ≡ blank ++ (v ++ (blank ++ (l ++ (newline ++ x)))) = next s at (at + 2) k _ (omega arith) e0 in
    let e2 : drop (at + 3) s ≡ v ++ (blank ++ (l ++ (newline ++ x))) = next s (at + 2) (at + 3) blank _ (omega arith) e1 in
    let e3 : drop (at + 13) s ≡ blank ++ (l ++ (newline ++ x)) = next s (at + 3) (at + 13) v _ (omega arith) e2 in
    let e4 : drop (at + 14) s ≡ l ++ (newline ++ x) = next s (at + 13) (at + 14) blank _ (omega arith) e3 in
    let e5 : drop (at + 37) s ≡ newline ++ x = next s (at + 14) (at + 37) l _ (omega arith) e4 in
    record {
      ends = newline ++ x;
      values = blank ++ (l ++ (newline ++ x));
      keys = blank ++ (v ++ (blank ++ (l ++ (newline ++ x))));
      key = e0;
      third = byte_at s (at + 2) 32 _ e1;
      value = e2;
      fourteenth = byte_at s (at + 13) 32 _ e3;
      links = e4;
      newlines = byte_at s (at + 37) 10 x e5;
    }

module _ (s : List ℕ) (at : ℕ) where
  pub no_key : NumberRight s at 2 1 64 None → Missing PageNode page_line s at
  no_key never n p x e =
      never n.key (record { low = key_low n.key p.key; high = key_high n.key p.key; short = key_columns n p }) _ (line s at n p x e).key

  pub no_third : (get_or s (at + 2) 0 ≡ 32 → ⊥) → Missing PageNode page_line s at
  no_third ne n p x e = ne (line s at n p x e).third

  pub no_value : NumberRight s (at + 3) 10 0 4294967295 None → Missing PageNode page_line s at
  no_value never n p x e =
      never n.value (record { low = omega arith; high = omega (arith, p.node.value); short = value_columns n p }) _ (line s at n p x e).value

  pub no_fourteenth : (get_or s (at + 13) 0 ≡ 32 → ⊥) → Missing PageNode page_line s at
  no_fourteenth ne n p x e = ne (line s at n p x e).fourteenth

  pub no_links_law : Missing LinkList links_text s (at + 14) → Missing PageNode page_line s at
  no_links_law never n p x e = never n.links (record { few = p.node.few; keys = p.node.keys }) _ (line s at n p x e).links

  pub no_newline : (get_or s (at + 37) 0 ≡ 10 → ⊥) → Missing PageNode page_line s at
  no_newline ne n p x e = ne (line s at n p x e).newlines

  pub line_stands : (room : at + 38 ≤ length s) (key value : ℕ) (links : Keys)
      → NumberRight s at 2 1 64 (Some key)
      → get_or s (at + 2) 0 ≡ 32
      → NumberRight s (at + 3) 10 0 4294967295 (Some value)
      → get_or s (at + 13) 0 ≡ 32
      → Stands LinkList links_text s (at + 14) 23 (listed links)
      → get_or s (at + 37) 0 ≡ 10
      → Stands PageNode page_line s at 38 (node_by_value key value links)
  line_stands room key value links k third v fourteenth l end =
      let e5 : drop (at + 37) s ≡ newline ++ drop (at + 38) s = past_byte s (at + 37) (at + 38) 10 (omega arith) end (omega arith) in
      let j4 : at + 14 + 23 ≡ at + 37 = omega arith in
      let e4 : drop (at + 14) s ≡ links_text (listed links) ++ (newline ++ drop (at + 38) s) = l.same ∙ ap (λ (r : List ℕ). links_text (listed links) ++ r) (ap (λ (j : ℕ). drop j s) j4 ∙ e5) in
      let e3 : drop (at + 13) s ≡ blank ++ drop (at + 14) s = past_byte s (at + 13) (at + 14) 32 (omega arith) fourteenth (omega arith) in
      let j2 : at + 3 + 10 ≡ at + 13 = omega arith in
      let e2 : drop (at + 3) s ≡ number_text 10 value ++ drop (at + 13) s = v.same ∙ ap (λ (j : ℕ). number_text 10 value ++ drop j s) j2 in
      let e1 : drop (at + 2) s ≡ blank ++ drop (at + 3) s = past_byte s (at + 2) (at + 3) 32 (omega arith) third (omega arith) in
      record {
        fits = record {
          key = and_both (le-leb 1 key k.fits.low) (le-leb key 64 k.fits.high);
          node = record { value = omega (arith, v.fits.high); few = l.fits.few; keys = l.fits.keys };
        };
        same = k.same
            ∙ ap (λ (r : List ℕ). number_text 2 key ++ r) (e1 ∙ ap (λ (r : List ℕ). blank ++ r) (e2 ∙ ap (λ (r : List ℕ). number_text 10 value ++ r) (e3 ∙ ap (λ (r : List ℕ). blank ++ r) e4)))
            ∙ sym (parts (number_text 2 key) blank (number_text 10 value) blank (links_text (listed links)) newline (drop (at + 38) s));
      }

-- ---- the head

head_parts : (a b c x : List ℕ) → a ++ b ++ c ++ x ≡ a ++ (b ++ (c ++ x))
head_parts a b c x = simp append_assoc

-- a head stands at the beginning of s, by its parts
pub record Head (s : List ℕ) (n : ℕ) : Type 0 where
  pub ends : List ℕ
  pub others : List ℕ
  pub word : s ≡ ascii "nodes" ++ others
  pub count : drop 5 s ≡ number_text 32 n ++ ends
  pub newlines : get_or s 37 0 ≡ 10

pub head : (s : List ℕ) (n : ℕ) → Few n → (x : List ℕ) → s ≡ page_head n ++ x → Head s n
unfolding ascii
head s n h x e =
    let c = number_text 32 n in
    let lc : length c ≡ 32 = length_right 32 (decimal n) (count_columns n h) in
    let e0 : drop 0 s ≡ ascii "nodes" ++ (c ++ (newline ++ x)) = e ∙ head_parts (ascii "nodes") c newline x in
    let e1 : drop 5 s ≡ c ++ (newline ++ x) = next s 0 5 (ascii "nodes") _ refl e0 in
    let e2 : drop 37 s ≡ newline ++ x = next s 5 37 c _ (omega arith) e1 in
    record { ends = newline ++ x; others = c ++ (newline ++ x); word = e0; count = e1; newlines = byte_at s 37 10 x e2 }

module _ (s : List ℕ) where
  pub no_word : LiteralAt s 0 (ascii "nodes") None → HeadRead s None
  no_word never n h x e = never _ (head s n h x e).word

  module _ (from : ℕ) (word : LiteralAt s 0 (ascii "nodes") (Some from)) where
    pub from_five : from ≡ 5
    unfolding ascii
    from_five = omega (arith, word.0, ap length word.1, length-append (ascii "nodes") (drop from s), length-drop from s)

    pub no_count : NumberRight s from 32 0 64 None → HeadRead s None
    no_count never n h x e =
        never n (record { low = omega arith; high = h; short = count_columns n h }) _ (ap (λ (j : ℕ). drop j s) from_five ∙ (head s n h x e).count)

    pub head_stands : (room : 38 ≤ length s) (n : ℕ) → NumberRight s from 32 0 64 (Some n) → get_or s 37 0 ≡ 10 → HeadRead s (Some n)
    head_stands room n c end =
        let j : from + 32 ≡ 37 = omega (arith, from_five) in
        let e2 : drop 37 s ≡ newline ++ drop 38 s = past_byte s 37 38 10 (omega arith) end refl in
        record {
          fits = c.fits.high;
          same = word.1
              ∙ ap (λ (r : List ℕ). ascii "nodes" ++ r) (c.same ∙ ap (λ (r : List ℕ). number_text 32 n ++ r) (ap (λ (i : ℕ). drop i s) j ∙ e2))
              ∙ sym (head_parts (ascii "nodes") (number_text 32 n) newline (drop 38 s));
        }

  pub no_head_newline : (get_or s 37 0 ≡ 10 → ⊥) → HeadRead s None
  no_head_newline ne n h x e = ne (head s n h x e).newlines
