-- A list of keys, entry by entry: its text and its length.
-- Assumes nothing.
use Prim.Native.Nat.{ℕ, zero, suc, ◌+◌, ◌<◌, ◌≤◌}
use mathlib.Core.Path.{◌≡◌, refl, sym, ap, ◌∙◌}
use mathlib.Core.List.{List, [], ◌∷◌, ◌++◌, append-nil, append_assoc}
use native.Mathlib.Omega.{arith}
use native.Mathlib.Numerals.{add-one}
use lib.ListN.{length, take, drop, get_or, length-append, take-append-drop}
use lib.Seq.{take-suc, length-take-le}
use Rattle.text.specs.Text.{decimal, further, commas}
use Rattle.text.specs.Inner.Put.{TextPut}
use Rattle.text.proofs.CommaLists.{further_append}
use Rattle.text.proofs.Pasting.{written_none, written_room, written_then}
use Rattle.print.specs.Inner.Values.{entry}

pub entry_later : (place key k : ℕ) → (place ≡ 0 → ⊥) → k ≡ key → entry place key ≡ 44 ∷ decimal k
entry_later zero key k h e = absurd (h refl)
entry_later (suc place) key k h e = ap (λ (v : ℕ). 44 ∷ decimal v) (sym e)

commas_snoc : (ts : List ℕ) (v : ℕ) → commas (ts ++ v ∷ []) ≡ commas ts ++ entry (length ts) v
unfolding commas further
commas_snoc [] v = append-nil (decimal v)
commas_snoc (t ∷ ts) v =
    ap (λ (r : List ℕ). decimal t ++ r) (further_append ts (v ∷ []) ∙ ap (λ (r : List ℕ). further ts ++ (44 ∷ r)) (append-nil (decimal v)))
    ∙ sym (append_assoc (decimal t) (further ts) (44 ∷ decimal v))

-- one entry more
pub commas_next : (l : List ℕ) (i : ℕ) → i < length l → commas (take (i + 1) l) ≡ commas (take i l) ++ entry i (get_or l i 0)
commas_next l i h =
    ap commas (rw add-one (take-suc l i 0 h)) ∙ commas_snoc (take i l) (get_or l i 0)
    ∙ ap (λ (k : ℕ). commas (take i l) ++ entry k (get_or l i 0)) (length-take-le i l (omega arith))

-- the entries up to a place are no longer than all
commas_front : (i : ℕ) (l : List ℕ) → length (commas (take i l)) ≤ length (commas l)
unfolding commas
commas_front zero l = omega arith
commas_front (suc i) [] = omega arith
commas_front (suc i) (t ∷ ts) =
    omega (
      arith,
      length-append (decimal t) (further (take i ts)),
      length-append (decimal t) (further ts),
      ap length (ap further (sym (take-append-drop i ts)) ∙ further_append (take i ts) (drop i ts)),
      length-append (further (take i ts)) (further (drop i ts)),
    )

-- ---- written entry by entry

module _ (s : List ℕ) (at : ℕ) (l out : List ℕ) (p i : ℕ) (fits : at + length (commas l) ≤ length s) (w : TextPut s at (commas (take i l)) out p) where
  module _ (h : i < length l) where
    abbrev next : List ℕ
    next = entry i (get_or l i 0)

    room : at + length (commas (take i l) ++ next) ≤ length s
    room = omega (arith, commas_front (i + 1) l, ap length (commas_next l i h))

    pub entry_room : p + length next ≤ length out
    entry_room = written_room w next room

    pub entry_more : (out' : List ℕ) (p' : ℕ) → TextPut out p next out' p' → TextPut s at (commas (take (i + 1) l)) out' p'
    entry_more out' p' v = rw (commas_next l i h) (written_then w v room)

pub entries_none : (s : List ℕ) (at : ℕ) (l : List ℕ) → TextPut s at (commas (take 0 l)) s at
unfolding commas
entries_none s at l = written_none s at

-- ---- measured entry by entry

pub length_next : (l : List ℕ) (i : ℕ) → i < length l → length (commas (take (i + 1) l)) ≡ length (commas (take i l)) + length (entry i (get_or l i 0))
length_next l i h = ap length (commas_next l i h) ∙ length-append (commas (take i l)) (entry i (get_or l i 0))
