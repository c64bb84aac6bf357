-- Bounds of what is drawn: at most eight targets, at most 56 bytes for a line.
-- Assumes nothing.
use Prim.Native.Nat.{ℕ, zero, suc, ◌+◌, ◌*◌, ◌-◌, ◌<◌, ◌≤◌}
use mathlib.Core.Path.{◌≡◌, refl, ap, ◌∙◌}
use mathlib.Core.List.{[], ◌++◌}
use native.Mathlib.Omega.{arith}
use lib.ListN.{length, length-append}
use Rattle.text.specs.Text.{ascii, decimal, commas}
use Rattle.text.proofs.Decimals.{len_two, len_five}
use Rattle.text.proofs.CommaLists.{commas_short}
use Rattle.load.specs.declared.kind.Kind.{Kind}
use Rattle.load.specs.declared.kind.Kind.TheVariants.{Add, Map, Link, Unlink, Sum, Top, Pick, Near}
use Rattle.load.specs.Load.{next, after, drawn, key_drawn, keys_drawn, list_length, targets_drawn, call_of, call_drawn, kind_of, line_text, load_text}
use Rattle.load.proofs.Drawing.{drawn_small, keys_length}
use Rattle.load.proofs.Sorting.{sorted_few, sorted_keys}

pub targets_few : (s : ℕ) → length (targets_drawn s) ≤ 8
targets_few s = omega (arith, sorted_few (keys_drawn (list_length s) (next s)), keys_length (list_length s) (next s))

targets_short : (s : ℕ) → length (commas (targets_drawn s)) ≤ 23
targets_short s = commas_short (targets_drawn s) (sorted_keys _) (targets_few s)

number_short : (n s : ℕ) → length (decimal (drawn (suc n) s)) ≤ 5
number_short n s = len_five (drawn (suc n) s) (drawn_small n s)

key_short : (n s : ℕ) → length (decimal (key_drawn n s)) ≤ 2
key_short n s = len_two (key_drawn n s) (omega arith)

-- the longest is a near with a key of two digits, a number of five and eight keys of two
line_short_of : (k : Kind) (s : ℕ) → length (line_text (call_of k s).call) ≤ 56
unfolding ascii
line_short_of Add s = simp length-append (omega (arith, number_short 1 s))
line_short_of Map s = simp length-append (omega (arith, number_short 1 s, number_short 2 s, targets_short (after 3 s)))
line_short_of Link s = simp length-append (omega (arith, key_short 2 s, targets_short (after 2 s)))
line_short_of Unlink s = simp length-append (omega (arith, key_short 2 s, targets_short (after 2 s)))
line_short_of Sum s = simp length-append (omega (arith, number_short 1 s, targets_short (after 2 s)))
line_short_of Top s = simp length-append (omega (arith, number_short 1 s, targets_short (after 2 s)))
line_short_of Pick s = simp length-append (omega (arith, number_short 1 s, targets_short (after 2 s)))
line_short_of Near s = simp length-append (omega (arith, key_short 2 s, number_short 2 s, targets_short (after 3 s)))

pub line_short : (s : ℕ) → length (line_text (call_drawn s).call) ≤ 56
line_short s = line_short_of (kind_of (drawn 1 s)) s

-- the first line, and the others
load_next : (s n : ℕ) → load_text s (suc n) ≡ line_text (call_drawn s).call ++ load_text (call_drawn s).state n
unfolding load_text
load_next s n = refl

load_none : (s : ℕ) → load_text s 0 ≡ []
unfolding load_text
load_none s = refl

pub load_short : (seed count : ℕ) → length (load_text seed count) ≤ 56 * count
load_short s zero = omega (arith, ap length (load_none s))
load_short s (suc n) =
    omega (
      arith,
      ap length (load_next s n),
      length-append (line_text (call_drawn s).call) (load_text (call_drawn s).state n),
      line_short s,
      load_short (call_drawn s).state n,
    )

-- the same after i of n lines
pub load_first : (s n i : ℕ) → i < n → load_text s (n - i) ≡ line_text (call_drawn s).call ++ load_text (call_drawn s).state (n - (i + 1))
load_first s n i h = let m : n - i ≡ suc (n - (i + 1)) = omega arith in ap (load_text s) m ∙ load_next s (n - (i + 1))

pub first_length : (s n i : ℕ) → i < n → length (load_text s (n - i)) ≡ length (line_text (call_drawn s).call) + length (load_text (call_drawn s).state (n - (i + 1)))
first_length s n i h = ap length (load_first s n i h) ∙ length-append (line_text (call_drawn s).call) (load_text (call_drawn s).state (n - (i + 1)))

-- after all of them
pub load_over : (s n i : ℕ) → n ≤ i → load_text s (n - i) ≡ []
load_over s n i h = let m : n - i ≡ 0 = omega arith in ap (load_text s) m ∙ load_none s
