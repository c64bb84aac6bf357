-- The length of the text of a call whose form passes its tests: at most 63 bytes.
-- Assumes nothing.
use mathlib.Core.Path.{◌≡◌}
use Prim.Native.Nat.{ℕ, ◌≤◌}
use native.Mathlib.Omega.{arith}
use mathlib.Core.Bool.{true}
use mathlib.Core.List.{List, [], ◌∷◌}
use lib.Dec.{ltb}
use lib.ListN.{length, length-append}
use borrow.Author.Tests.{ltb-true}
use Rattle.graph.specs.Words.{modulus, are_words}
use Rattle.graph.specs.KeyLists.{is_key, are_keys}
use Rattle.graph.specs.Targets.{To, named, whole, keys_listed}
use Rattle.graph.specs.Calls.{Call, add, map, link, unlink, sum, top, pick, near, unmap}
use Rattle.graph.proofs.Answers.{and_left, and_right}
use Rattle.graph.proofs.Validity.{FormFits}
use Rattle.text.specs.Text.{ascii, decimal}
use Rattle.text.proofs.Decimals.{len_ten}
use Rattle.text.proofs.CommaLists.{key_short, commas_short}
use Rattle.lines.specs.Forms.{to_text, call_text}

word_short : (v : ℕ) (vs : List ℕ) → are_words (v ∷ vs) ≡ true → length (decimal v) ≤ 10
word_short v vs h = len_ten v (ltb-true v modulus (and_left _ _ h))

to_short : (to : To) → are_keys (keys_listed to) ≡ true → length (keys_listed to) ≤ 8 → length (to_text to) ≤ 23
unfolding ascii
to_short (named ts) h n = commas_short ts h n
to_short whole h n = omega arith

-- the longest is an unmap with two numbers of ten digits and eight keys of two
pub call_short : (c : Call) → FormFits c → length (call_text c) ≤ 63
unfolding ascii
call_short (add v) f = simp length-append (omega (arith, word_short v [] f.words))
call_short (map a b to) f = simp length-append (omega (arith, word_short a (b ∷ keys_listed to) f.words, word_short b (keys_listed to) (and_right (ltb a modulus) _ f.words), to_short to f.keys f.few))
call_short (link k to) f = simp length-append (omega (arith, word_short k (keys_listed to) f.words, to_short to (and_right (is_key k) _ f.keys) f.few))
call_short (unlink k to) f = simp length-append (omega (arith, word_short k (keys_listed to) f.words, to_short to (and_right (is_key k) _ f.keys) f.few))
call_short (sum x to) f = simp length-append (omega (arith, word_short x (keys_listed to) f.words, to_short to f.keys f.few))
call_short (top x to) f = simp length-append (omega (arith, word_short x (keys_listed to) f.words, to_short to f.keys f.few))
call_short (pick x to) f = simp length-append (omega (arith, word_short x (keys_listed to) f.words, to_short to f.keys f.few))
call_short (near k x to) f =
    simp length-append
    (omega (arith, key_short k (and_left _ _ f.keys), word_short x (k ∷ keys_listed to) f.words, to_short to (and_right (is_key k) _ f.keys) f.few))
call_short (unmap a b to) f = simp length-append (omega (arith, word_short a (b ∷ keys_listed to) f.words, word_short b (keys_listed to) (and_right (ltb a modulus) _ f.words), to_short to f.keys f.few))
