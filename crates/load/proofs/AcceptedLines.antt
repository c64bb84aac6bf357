-- Every line made has an accepted form and ends in a newline.
-- Assumes nothing.
use Prim.Native.Nat.{ℕ, zero, suc, ◌≤◌}
use Prim.Native.String.{String}
use mathlib.Core.Path.{◌≡◌, refl, ap, ◌∙◌}
use mathlib.Core.Bool.{true, false}
use mathlib.Core.List.{List, [], ◌∷◌, ◌++◌, append_assoc}
use native.Mathlib.Omega.{arith}
use lib.Dec.{ltb}
use lib.ListN.{length}
use lib.Seq.{drop-append_seam}
use borrow.Author.Tests.{lt-ltb, le-leb}
use Rattle.graph.specs.Words.{modulus, are_words}
use Rattle.graph.specs.KeyLists.{is_key, are_keys, rising}
use Rattle.graph.specs.Targets.{To}
use Rattle.graph.specs.Calls.{Call, add, map, link, unlink, sum, top, pick, near, unmap, form_tests, numbers_of, operands_of, listed_of, lacks_inverse}
use Rattle.graph.specs.Refusals.{done, unless}
use Rattle.graph.specs.Valid.{Each}
use Rattle.graph.proofs.Answers.{and_left, and_right, and_both}
use Rattle.graph.proofs.KeyLaws.{key_high}
use Rattle.graph.proofs.Validity.{FormFits}
use Rattle.text.specs.Text.{ascii, decimal, up_to}
use Rattle.text.proofs.Splits.{Clean, clean_test, clean_by, decimal_clean, part_is}
use Rattle.text.proofs.CommaLists.{clean_append}
use Rattle.lines.specs.Forms.{field, to_text, targets, call_text, line_at}
use Rattle.lines.proofs.Lengths.{call_short}
use Rattle.lines.proofs.ToTexts.{to_clean}
use Rattle.print.specs.Printed.{newline}
use Rattle.load.specs.declared.kind.Kind.{Kind}
use Rattle.load.specs.declared.kind.Kind.TheVariants.{Add, Map, Link, Unlink, Sum, Top, Pick, Near}
use Rattle.load.specs.Load.{after, drawn, key_drawn, targets_drawn, call_of, call_drawn, kind_of, load, line_text}
use Rattle.load.specs.AcceptedLines.{AcceptedLine, LoadAccepted}
use Rattle.load.proofs.Drawing.{drawn_small}
use Rattle.load.proofs.Sorting.{sorted_keys, sorted_rising}
use Rattle.load.proofs.Lengths.{targets_few, line_short, load_short}

-- ---- the forms pass their tests

number_word : (n s : ℕ) → ltb (drawn (suc n) s) modulus ≡ true
number_word n s = lt-ltb (drawn (suc n) s) modulus (omega (arith, drawn_small n s))

key_word : (k : ℕ) → is_key k ≡ true → ltb k modulus ≡ true
key_word k h = lt-ltb k modulus (omega (arith, key_high k h))

keys_words : (ts : List ℕ) → are_keys ts ≡ true → are_words ts ≡ true
keys_words [] h = refl
keys_words (t ∷ ts) h = and_both (key_word t (and_left _ _ h)) (keys_words ts (and_right (is_key t) _ h))

is_key_law : (n s : ℕ) → is_key (key_drawn n s) ≡ true
is_key_law n s = and_both (le-leb 1 (key_drawn n s) (omega arith)) (le-leb (key_drawn n s) 64 (omega arith))

-- the targets drawn are keys, and so 32-bit numbers
targets_keys : (s : ℕ) → are_keys (targets_drawn s) ≡ true
targets_keys s = sorted_keys _

targets_words : (s : ℕ) → are_words (targets_drawn s) ≡ true
targets_words s = keys_words (targets_drawn s) (targets_keys s)

made_fits : (c : Call) (t : ℕ) → listed_of c ≡ targets_drawn t → lacks_inverse c ≡ false → are_words (numbers_of c ++ (operands_of c ++ listed_of c)) ≡ true → are_keys (operands_of c ++ listed_of c) ≡ true → FormFits c
made_fits c t e i w k =
    record { words = w; keys = k; few = omega (arith, ap length e, targets_few t); rise = ap rising e ∙ sorted_rising _; invertible = i }

key_words : (n s t : ℕ) → are_words (key_drawn n s ∷ targets_drawn t) ≡ true
key_words n s t = and_both (key_word (key_drawn n s) (is_key_law n s)) (targets_words t)

formed : (k : Kind) (s : ℕ) → FormFits (call_of k s).call
formed Add s = record { words = and_both (number_word 1 s) refl; keys = refl; few = omega arith; rise = refl; invertible = refl }
formed Map s = made_fits _ (after 3 s) refl refl (and_both (number_word 1 s) (and_both (number_word 2 s) (targets_words (after 3 s)))) (targets_keys (after 3 s))
formed Link s = made_fits _ (after 2 s) refl refl (key_words 2 s (after 2 s)) (and_both (is_key_law 2 s) (targets_keys (after 2 s)))
formed Unlink s = made_fits _ (after 2 s) refl refl (key_words 2 s (after 2 s)) (and_both (is_key_law 2 s) (targets_keys (after 2 s)))
formed Sum s = made_fits _ (after 2 s) refl refl (and_both (number_word 1 s) (targets_words (after 2 s))) (targets_keys (after 2 s))
formed Top s = made_fits _ (after 2 s) refl refl (and_both (number_word 1 s) (targets_words (after 2 s))) (targets_keys (after 2 s))
formed Pick s = made_fits _ (after 2 s) refl refl (and_both (number_word 1 s) (targets_words (after 2 s))) (targets_keys (after 2 s))
formed Near s = made_fits _ (after 3 s) refl refl (and_both (number_word 2 s) (key_words 2 s (after 3 s))) (and_both (is_key_law 2 s) (targets_keys (after 3 s)))

passes : (c : Call) → FormFits c → unless (form_tests c) c ≡ done c
passes c f = rw (f.words, f.keys, le-leb (length (listed_of c)) 8 f.few, f.rise, f.invertible) refl

-- ---- no call's text holds a newline

field_clean : (literal : String) (v : ℕ) (rest : List ℕ) → clean_test 10 (ascii literal) ≡ true → Clean 10 rest → Clean 10 (field literal v rest)
field_clean literal v rest e h =
    clean_append 10 (ascii literal) (decimal v ++ rest) (clean_by 10 (ascii literal) e) (clean_append 10 (decimal v) rest (decimal_clean 10 (omega arith) v) h)

targets_clean : (to : To) → Clean 10 (targets to)
unfolding ascii clean_test
targets_clean to = clean_append 10 (ascii " to=") (to_text to) (clean_by 10 (ascii " to=") refl) (to_clean 10 (omega arith) to)

call_clean : (c : Call) → Clean 10 (call_text c)
unfolding ascii clean_test
call_clean (add v) = field_clean "call=add value=" v [] refl tt
call_clean (map a b to) = field_clean "call=map a=" a _ refl (field_clean " b=" b _ refl (targets_clean to))
call_clean (link k to) = field_clean "call=link key=" k _ refl (targets_clean to)
call_clean (unlink k to) = field_clean "call=unlink key=" k _ refl (targets_clean to)
call_clean (sum x to) = field_clean "call=sum start=" x _ refl (targets_clean to)
call_clean (top x to) = field_clean "call=top start=" x _ refl (targets_clean to)
call_clean (pick x to) = field_clean "call=pick start=" x _ refl (targets_clean to)
call_clean (near k x to) = field_clean "call=near key=" k _ refl (field_clean " start=" x _ refl (targets_clean to))
call_clean (unmap a b to) = field_clean "call=unmap a=" a _ refl (field_clean " b=" b _ refl (targets_clean to))

-- so the line in a buffer is the text
line_read : (c : Call) (before rest : List ℕ) → line_at (before ++ (line_text c ++ rest)) (length before) ≡ call_text c
line_read c before rest =
    ap (up_to 10) (drop-append_seam before (line_text c ++ rest))
    ∙ part_is 10 (line_text c ++ rest) (call_text c) (newline ++ rest) (append_assoc (call_text c) newline rest) (call_clean c) refl

accepted : (c : Call) → FormFits c → length (line_text c) ≤ 56 → AcceptedLine c
accepted c f l =
    record {
      read = λ before rest.
          let e = line_read c before rest in
          record { short = omega (arith, ap length e, call_short c f); fits = f.words; same = e };
      passes = passes c f;
      short = l;
    }

each_line : (seed count : ℕ) → Each AcceptedLine (load seed count)
each_line s zero = tt
each_line s (suc n) = (accepted (call_drawn s).call (formed (kind_of (drawn 1 s)) s) (line_short s), each_line (call_drawn s).state n)

pub every_line : (seed count : ℕ) → LoadAccepted seed count
every_line seed count = record { lines = each_line seed count; room = load_short seed count }
