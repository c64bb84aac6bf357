-- What stands in so many bytes at a place: numbers set right, and links set left.
-- Assumes nothing.
use Prim.Native.Nat.{ℕ, zero, suc, ◌+◌, ◌-◌, ◌<◌, ◌≤◌}
use mathlib.Core.Bool.{true, false, false≢true, ◌&&◌}
use mathlib.Core.Path.{◌≡◌, refl, sym, ap, subst, ◌∙◌}
use mathlib.Core.List.{List, [], ◌∷◌, ◌++◌}
use Rattle.std.specs.Prelude.{Some, None}
use native.Mathlib.Omega.{arith}
use native.Mathlib.Nat.{add-sub_cancel_left}
use borrow.Author.Tests.{le-leb, leb-true}
use lib.Dec.{leb}
use lib.ListN.{length, take, drop, get_or, get_or-replicate, replicate, length-append, length-drop, length-replicate, take-append-drop}
use lib.Seq.{take_at, drop_at, drop-drop, length-take-le}
use Rattle.graph.specs.Words.{modulus}
use Rattle.graph.specs.KeyLists.{is_key, are_keys}
use Rattle.graph.specs.Packed.{listed, packed}
use Rattle.graph.proofs.Answers.{and_left, and_right, and_both}
use Rattle.graph.proofs.KeyLaws.{key_high, listed_packed}
use Rattle.text.specs.Text.{up_to, decimal, commas}
use Rattle.text.specs.Inner.PartsRead.{Gap}
use Rattle.text.proofs.Decimals.{decimal_inj}
use Rattle.text.proofs.Splits.{split, part_is, from_eq}
use Rattle.text.proofs.CommaLists.{commas_inj, commas_clean}
use Rattle.keylists.specs.Inner.ListsRead.{Below, KeysOf}
use Rattle.keylists.specs.declared.keylist.KeyList.{KeyList}
use Rattle.text.proofs.CommaLists.{commas_short}
use Rattle.pagelines.specs.Page.{set_right, set_left}
use Rattle.pagelines.specs.Inner.Columns.{past_blanks, Stands, Missing, InColumns, number_text, NumberRight, LinkList, links_text}
use Rattle.pagelines.proofs.Widths.{length_right, length_left}
use Rattle.pagelines.proofs.BlanksRead.{parted, past_right, is_right, only_blanks}

-- ---- parts

-- after a text of so many bytes the rest stands
pub rest_after : (s : List ℕ) (at width : ℕ) (t x : List ℕ) → length t ≡ width → drop at s ≡ t ++ x → drop (at + width) s ≡ x
rest_after s at width t x n e = sym (drop-drop width at s) ∙ ap (drop width) e ∙ drop_at t x width n

module _ (s : List ℕ) (at columns : ℕ) (room : at + columns ≤ length s) where
  abbrev pub field : List ℕ
  field = take (at + columns - at) (drop at s)

  front : field ≡ take columns (drop at s)
  front = rw add-sub_cancel_left

  field_length : length field ≡ columns
  field_length = ap length front ∙ length-take-le columns (drop at s) (omega (arith, length-drop at s))

  field_same : drop at s ≡ field ++ drop (at + columns) s
  field_same =
      sym (take-append-drop columns (drop at s))
      ∙ ap (λ (r : List ℕ). r ++ drop columns (drop at s)) (sym front)
      ∙ ap (λ (r : List ℕ). field ++ r) (drop-drop columns at s)

  field_text : (t x : List ℕ) → length t ≡ columns → drop at s ≡ t ++ x → field ≡ t
  field_text t x n e = front ∙ ap (take columns) e ∙ take_at t x columns n

  -- ---- a number set right

  module _ (least most : ℕ) where
    stands_right : (v : ℕ) → InColumns columns least most v → (x : List ℕ) → drop at s ≡ number_text columns v ++ x → past_blanks field ≡ decimal v
    stands_right v fits x e =
        ap past_blanks (field_text (set_right columns (decimal v)) x (length_right columns (decimal v) fits.short) e) ∙ past_right columns v

    pub number_missing : most < modulus → ((v : ℕ) → v < modulus → past_blanks field ≡ decimal v → ⊥) → NumberRight s at columns least most None
    number_missing h never v fits x e = never v (omega (arith, fits.high)) (stands_right v fits x e)

    module _ (v : ℕ) (q : past_blanks field ≡ decimal v) where
      pub number_outside : (least ≤ v → v ≤ most → ⊥) → NumberRight s at columns least most None
      number_outside ne u fits x e =
          let same : u ≡ v = decimal_inj u v (sym (stands_right u fits x e) ∙ q) in
          ne (omega (arith, fits.low)) (omega (arith, fits.high))

      pub number_stands : least ≤ v → v ≤ most → NumberRight s at columns least most (Some v)
      number_stands lo hi =
          let p = parted field in
          record {
            fits = record {
              low = lo;
              high = hi;
              short = omega (arith, ap length p.same, length-append (replicate p.blanks 32) (past_blanks field), ap length q, field_length);
            };
            same = field_same ∙ ap (λ (r : List ℕ). r ++ drop (at + columns) s) (is_right field (decimal v) columns field_length q);
          }

-- ---- links set left

keys_below : (ts : List ℕ) → are_keys ts ≡ true → Below ts
keys_below [] h = tt
keys_below (t ∷ ts) h = (omega (arith, key_high t (and_left (is_key t) (are_keys ts) h)), keys_below ts (and_right (is_key t) (are_keys ts) h))

pub blanks_gap : (k : ℕ) → Gap 32 (replicate k 32)
blanks_gap zero = tt
blanks_gap (suc k) = refl

module _ (s : List ℕ) (at : ℕ) (room : at + 23 ≤ length s) where
  abbrev pub part : List ℕ
  part = field s at 23 room

  -- its text, and the bytes after it
  abbrev pub text : List ℕ
  text = up_to 32 part

  abbrev pub after : List ℕ
  after = take (length part - length text) (drop (length text) part)

  pub text_within : length text ≤ length part
  text_within = let p = (split 32 part).0 in omega (arith, ap length p, length-append text (drop (length text) part))

  -- the text of a link list stands there: so the columns hold it, and blanks after it
  record Holds (ks : List ℕ) : Type 0 where
    keys : text ≡ commas ks
    blanks : (k : ℕ) → k < length after → get_or after k 0 ≡ 32

  holds : (ks : List ℕ) → LinkList ks → (x : List ℕ) → drop at s ≡ links_text ks ++ x → Holds ks
  unfolding set_left
  holds ks l x e =
      let short = commas_short ks l.keys l.few in
      let same : part ≡ commas ks ++ replicate (23 - length (commas ks)) 32 = field_text s at 23 room (links_text ks) x (length_left 23 (commas ks) short) e in
      let is : text ≡ commas ks = part_is 32 part (commas ks) (replicate (23 - length (commas ks)) 32) same (commas_clean 32 (omega arith) ks) (blanks_gap (23 - length (commas ks))) in
      let rest : after ≡ replicate (23 - length (commas ks)) 32 =
      from_eq part (length text) ∙ (λ i. drop (length (is i)) (same i)) ∙ drop_at (commas ks) (replicate (23 - length (commas ks)) 32) (length (commas ks)) refl in
      record { keys = is; blanks = λ k h. ap (λ (r : List ℕ). get_or r k 0) rest ∙ get_or-replicate _ k 32 0 (omega (arith, ap length rest, length-replicate {A = ℕ} (23 - length (commas ks)) 32)) }

  pub links_untidy : (((k : ℕ) → k < length after → get_or after k 0 ≡ 32) → ⊥) → Missing LinkList links_text s at
  links_untidy ne ks l x e = ne (holds ks l x e).blanks

  pub links_unread : ((ts : List ℕ) → Below ts → text ≡ commas ts → ⊥) → Missing LinkList links_text s at
  links_unread never ks l x e = never ks (keys_below ks l.keys) (holds ks l x e).keys

  module _ (ts : List ℕ) (k : KeyList) (q : text ≡ commas ts) (known : KeysOf ts k) where
    same_list : (ks : List ℕ) → LinkList ks → (x : List ℕ) → drop at s ≡ links_text ks ++ x → ks ≡ ts
    same_list ks l x e = commas_inj ks ts (sym (holds ks l x e).keys ∙ q)

    -- what `are_links` tells of the list
    pub links_other : (k.keys && leb k.count 8) ≡ false → Missing LinkList links_text s at
    links_other other ks l x e =
        let all : k.keys ≡ true = known.keys ∙ ap are_keys (sym (same_list ks l x e)) ∙ l.keys in
        let few : leb k.count 8 ≡ true = le-leb k.count 8 (omega (arith, known.count, l.few, ap length (same_list ks l x e))) in
        false≢true (sym other ∙ and_both all few)

    pub links_stand : (k.keys && leb k.count 8) ≡ true → ((k : ℕ) → k < length after → get_or after k 0 ≡ 32) → Stands LinkList links_text s at 23 (listed (record { count = k.count; key = k.key }))
    unfolding set_left packed
    links_stand links blanks =
        let all : k.keys ≡ true = and_left k.keys (leb k.count 8) links in
        let few : k.count ≤ 8 = leb-true k.count 8 (and_right k.keys (leb k.count 8) links) in
        let some : are_keys ts ≡ true = sym known.keys ∙ all in
        let n : k.count ≡ length ts = omega (arith, known.count) in
        let l : LinkList ts = record { few = omega arith; keys = some } in
        let short = commas_short ts some (omega arith) in
        let rest : drop (length text) part ≡ replicate (length (drop (length text) part)) 32 = sym (from_eq part (length text)) ∙ only_blanks after blanks ∙ ap (λ (r : List ℕ). replicate (length r) 32) (from_eq part (length text)) in
        let width : length (drop (length text) part) ≡ 23 - length (commas ts) = omega (arith, length-drop (length text) part, field_length s at 23 room, ap length q) in
        let columns : part ≡ links_text ts = (split 32 part).0 ∙ (λ i. q i ++ rest i) ∙ ap (λ (j : ℕ). commas ts ++ replicate j 32) width in
        let keys : ts ≡ listed (record { count = k.count; key = k.key }) = sym (listed_packed ts) ∙ (λ i. take (sym n i) (sym (known.stored some (omega arith)) i)) in
        subst (Stands LinkList links_text s at 23) keys
        (record { fits = l; same = field_same s at 23 room ∙ ap (λ (r : List ℕ). r ++ drop (at + 23) s) columns })
