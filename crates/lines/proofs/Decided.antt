-- Every line is decided: it is the text of a form, or of none. A form is guessed from the line, and its text is compared with it.
-- Assumes nothing.
use Prim.Native.Nat.{ℕ, ◌+◌, ◌*◌, ◌-◌, ◌<◌}
use mathlib.Core.Path.{◌≡◌, refl, sym, ap, ◌∙◌}
use mathlib.Core.Bool.{Bool, true, false, cond, false≢true}
use mathlib.Core.List.{List, [], ◌∷◌, ◌++◌}
use native.Mathlib.Omega.{arith}
use borrow.Author.Tests.{eqb-true, eqb-false, ne_eqb, ltb-true, lt-ltb}
use lib.Dec.{eqb, ltb}
use lib.ListN.{length, drop, get_or, length-append}
use lib.Seq.{drop-append_seam}
use Rattle.text.specs.Text.{up_to, decimal, ascii, further, commas}
use Rattle.text.specs.Inner.PartsRead.{Gap}
use Rattle.text.proofs.Decimals.{Figures, value_from, decimal_is}
use Rattle.text.proofs.Splits.{part_is, decimal_clean}
use Rattle.graph.specs.Targets.{To, named, whole}
use Rattle.graph.specs.Words.{are_words}
use Rattle.lines.specs.Forms.{to_text, claim_text, claim_numbers, TextOf, IsCall, IsStep, IsClaim}
use Rattle.lines.specs.Inner.LineParts.{tail_text, Tailed, fields_text, Spare}
use Rattle.lines.proofs.ToTexts.{first_below}
use Rattle.lines.proofs.Chains.{Literals, fields_gap, literals_after}
use Rattle.lines.proofs.Words.{Grammar, Parts, Unused, fields_in, text_in, word_in, Forms, text_of}
use Rattle.lines.proofs.Calls.{call_forms}
use Rattle.lines.proofs.Steps.{step_forms}

-- the fact, or its refutation
pub data Decision (P : Type 0) : Type 0 where
  is : P → Decision P
  is_not : (P → ⊥) → Decision P

-- something that is so, or the proof that nothing is
pub data Decided {F : Type 0} (Is : F → Type 0) : Type 0 where
  one : (f : F) → Is f → Decided Is
  none : ((f : F) → Is f → ⊥) → Decided Is

pub same_bytes : (a b : List ℕ) → Decision (a ≡ b)
same_bytes [] [] = is refl
same_bytes [] (y ∷ ys) = is_not (λ e. omega (arith, ap length e))
same_bytes (x ∷ xs) [] = is_not (λ e. omega (arith, ap length e))
same_bytes (x ∷ xs) (y ∷ ys) = go (eqb x y) refl (same_bytes xs ys)
  where
    go : (b : Bool) → eqb x y ≡ b → Decision (xs ≡ ys) → Decision (x ∷ xs ≡ y ∷ ys)
    go true e (is q) = is (λ i. eqb-true x y e i ∷ q i)
    go true e (is_not n) = is_not (λ q. n (ap (drop 1) q))
    go false e d = is_not (λ q. eqb-false x y e (ap (λ (l : List ℕ). get_or l 0 0) q))

-- where every form is guessed right from its text, comparing the line with the guess's text decides
module _ {F : Type 0} (text numbers : F → List ℕ) (guess : List ℕ → F) (right : (f : F) → guess (text f) ≡ f) (line : List ℕ) where
  guessed : (f : F) → TextOf text numbers line f → guess line ≡ f
  guessed f t = ap guess t.same ∙ right f

  by_tests : (a b : Bool) → ltb (length line) 256 ≡ a → are_words (numbers (guess line)) ≡ b → Decision (line ≡ text (guess line)) → Decided (TextOf text numbers line)
  by_tests a b s w (is_not n) = none (λ f t. n (t.same ∙ ap text (sym (guessed f t))))
  by_tests true true s w (is e) = one (guess line) (record { short = ltb-true (length line) 256 s; fits = w; same = e })
  by_tests true false s w (is e) = none (λ f t. false≢true (sym w ∙ ap (λ (g : F). are_words (numbers g)) (guessed f t) ∙ t.fits))
  by_tests false b s w (is e) = none (λ f t. false≢true (sym s ∙ lt-ltb (length line) 256 t.short))

  decided : Decided (TextOf text numbers line)
  decided = by_tests (ltb (length line) 256) (are_words (numbers (guess line))) refl refl (same_bytes line (text (guess line)))

-- ---- a number, and what stands after it

module _ (v : ℕ) (x : List ℕ) (g : Gap 32 x) where
  before : up_to 32 (decimal v ++ x) ≡ decimal v
  before = part_is 32 (decimal v ++ x) (decimal v) x refl (decimal_clean 32 (omega arith) v) g

  number_back : value_from 0 (up_to 32 (decimal v ++ x)) ≡ v
  number_back = ap (value_from 0) before ∙ (decimal_is v).worth

  rest_back : drop (length (up_to 32 (decimal v ++ x))) (decimal v ++ x) ≡ x
  rest_back = ap (λ (l : List ℕ). drop (length l) (decimal v ++ x)) before ∙ drop-append_seam (decimal v) x

-- ---- numbers after literals

abbrev past : List ℕ → List ℕ
past l = drop (length (up_to 32 l)) l

abbrev numbers_in : List (List ℕ) → List ℕ → List ℕ
numbers_in [] l = []
numbers_in (a ∷ others) l = value_from 0 (up_to 32 (drop (length a) l)) ∷ numbers_in others (past (drop (length a) l))

abbrev tail_in : List (List ℕ) → List ℕ → List ℕ
tail_in [] l = l
tail_in (a ∷ others) l = tail_in others (past (drop (length a) l))

record Back (literals : List (List ℕ)) (l : List ℕ) (x y z : ℕ) (tail : List ℕ) : Type 0 where
  first : get_or (numbers_in literals l) 0 0 ≡ x
  second : get_or (numbers_in literals l) 1 0 ≡ y
  third : get_or (numbers_in literals l) 2 0 ≡ z
  rest : tail_in literals l ≡ tail

fields_back : (literals : List (List ℕ)) → Literals literals → (listed : Bool) (x y z : ℕ) (to : To) → Spare literals x y z
    → Back literals (fields_text literals listed x y z to) x y z (tail_text listed to)
fields_back [] g listed x y z to s = record { first = sym s.0; second = sym s.1; third = sym s.2; rest = refl }
fields_back (a ∷ others) g listed x y z to s =
    let more : List ℕ = fields_text others listed y z 0 to in
    let gaps : Literals others = literals_after a others g in
    let gap : Gap 32 more = fields_gap others gaps listed y z 0 to in
    let e : drop (length a) (a ++ (decimal x ++ more)) ≡ decimal x ++ more = drop-append_seam a (decimal x ++ more) in
    let p : past (drop (length a) (a ++ (decimal x ++ more))) ≡ more = ap past e ∙ rest_back x more gap in
    let b = fields_back others gaps listed y z 0 to s in
    record {
      first = ap (λ (l : List ℕ). value_from 0 (up_to 32 l)) e ∙ number_back x more gap;
      second = ap (λ (l : List ℕ). get_or (numbers_in others l) 0 0) p ∙ b.first;
      third = ap (λ (l : List ℕ). get_or (numbers_in others l) 1 0) p ∙ b.second;
      rest = ap (tail_in others) p ∙ b.rest;
    }

-- ---- numbers parted by commas

-- v is what the digits before make
unfoldable list_from : ℕ → List ℕ → List ℕ
list_from v [] = v ∷ []
list_from v (c ∷ cs) = cond (eqb c 44) (v ∷ list_from 0 cs) (list_from (v * 10 + (c - 48)) cs)

unfoldable list_in : List ℕ → List ℕ
list_in [] = []
list_in (c ∷ cs) = list_from 0 (c ∷ cs)

list_digits : (v : ℕ) (l x : List ℕ) → Figures l → list_from v (l ++ x) ≡ list_from (value_from v l) x
unfolding list_from
list_digits v [] x d = refl
list_digits v (c ∷ cs) x d =
    ap (λ (b : Bool). cond b (v ∷ list_from 0 (cs ++ x)) (list_from (v * 10 + (c - 48)) (cs ++ x))) (ne_eqb c 44 (λ e. omega (arith, d.0)))
    ∙ list_digits (v * 10 + (c - 48)) cs x d.2

further_back : (v : ℕ) (ts : List ℕ) → list_from v (further ts) ≡ v ∷ ts
unfolding list_from further
further_back v [] = refl
further_back v (t ∷ ts) =
    ap (λ (l : List ℕ). v ∷ l)
    (list_digits 0 (decimal t) (further ts) (decimal_is t).figures ∙ ap (λ (k : ℕ). list_from k (further ts)) (decimal_is t).worth ∙ further_back t ts)

list_some : (l : List ℕ) → 0 < length l → list_in l ≡ list_from 0 l
unfolding list_in
list_some [] h = absurd (omega arith)
list_some (c ∷ cs) h = refl

list_back : (ts : List ℕ) → list_in (commas ts) ≡ ts
unfolding list_in commas
list_back [] = refl
list_back (t ∷ ts) =
    list_some (decimal t ++ further ts) (omega (arith, length-append (decimal t) (further ts), (decimal_is t).some))
    ∙ list_digits 0 (decimal t) (further ts) (decimal_is t).figures
    ∙ ap (λ (k : ℕ). list_from k (further ts)) (decimal_is t).worth
    ∙ further_back t ts

-- ---- the targets

-- a list begins with no letter
abbrev to_in : List ℕ → To
to_in l = cond (eqb (get_or l 0 0) 97) whole (named (list_in l))

to_back : (to : To) → to_in (to_text to) ≡ to
unfolding ascii
to_back (named ts) = rw (ne_eqb (get_or (commas ts) 0 0) 97 (λ e. omega (arith, first_below ts))) (ap named (list_back ts))
to_back whole = refl

abbrev targets_in : Bool → List ℕ → To
targets_in true l = to_in (drop (length (ascii " to=")) l)
targets_in false l = named []

targets_back : (listed : Bool) (to : To) → Tailed listed to → targets_in listed (tail_text listed to) ≡ to
targets_back true to t = ap to_in (drop-append_seam (ascii " to=") (to_text to)) ∙ to_back to
targets_back false to t = sym t

-- ---- the lines of a grammar

module _ {K : Type 0} (G : Grammar K) where
  abbrev parts_from : K → List ℕ → Parts K
  parts_from k l =
      record {
        kind = k;
        x = get_or (numbers_in (G.literals k) l) 0 0;
        y = get_or (numbers_in (G.literals k) l) 1 0;
        z = get_or (numbers_in (G.literals k) l) 2 0;
        to = targets_in (G.listed k) (tail_in (G.literals k) l);
      }

  abbrev parts_on : List ℕ → Parts K
  parts_on rest = parts_from (G.named (up_to 32 rest)) (past rest)

  abbrev parts_in : List ℕ → Parts K
  parts_in line = parts_on (drop (length G.head) line)

  parts_back : (p : Parts K) → Unused G p → parts_in (text_in G p) ≡ p
  parts_back p u =
      let w : List ℕ = G.word p.kind in
      let l : List ℕ = fields_in G p in
      let e : up_to 32 (w ++ l) ≡ w = word_in G p (w ++ l) refl in
      let k : G.named (up_to 32 (w ++ l)) ≡ p.kind = ap G.named e ∙ sym (G.kinds p.kind).names in
      let r : past (w ++ l) ≡ l = ap (λ (h : List ℕ). drop (length h) (w ++ l)) e ∙ drop-append_seam w l in
      let b = fields_back (G.literals p.kind) (G.kinds p.kind).gaps (G.listed p.kind) p.x p.y p.z p.to u.0 in
      let t = ap (targets_in (G.listed p.kind)) b.rest ∙ targets_back (G.listed p.kind) p.to u.1 in
      ap parts_on (drop-append_seam G.head (w ++ l)) ∙ (λ i. parts_from (k i) (r i))
      ∙ (λ i. record { kind = p.kind; x = b.first i; y = b.second i; z = b.third i; to = t i })

module _ {K F : Type 0} {G : Grammar K} {text numbers : F → List ℕ} {form_of : Parts K → F} {parts_of : F → Parts K} (L : Forms G text numbers form_of parts_of) where
  form_decided : (line : List ℕ) → Decided (TextOf text numbers line)
  form_decided =
      decided text numbers (λ line. form_of (parts_in G line))
      (λ f. ap (λ (line : List ℕ). form_of (parts_in G line)) (text_of L f) ∙ ap form_of (parts_back G (parts_of f) (L.parts f).unused) ∙ (L.parts f).back)

-- EVERY LINE
pub call_decided : (line : List ℕ) → Decided (IsCall line)
call_decided = form_decided call_forms

pub step_decided : (line : List ℕ) → Decided (IsStep line)
step_decided = form_decided step_forms

pub claim_decided : (line : List ℕ) → Decided (IsClaim line)
claim_decided =
    decided claim_text claim_numbers (λ line. value_from 0 (up_to 32 (drop (length (ascii "claim=")) line)))
    (λ l. ap (λ (r : List ℕ). value_from 0 (up_to 32 r)) (drop-append_seam (ascii "claim=") (decimal l ++ [])) ∙ number_back l [] tt)
