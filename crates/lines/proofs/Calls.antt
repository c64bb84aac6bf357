-- Call lines: their grammar, their forms, and the answer to each form.
-- Assumes nothing.
use Prim.Native.Nat.{ℕ, ◌<◌, ◌≤◌}
use mathlib.Core.Path.{◌≡◌, refl, sym, ap, subst, ◌∙◌}
use mathlib.Core.Bool.{Bool, true, false, cond, not, ◌&&◌}
use mathlib.Core.List.{List, [], ◌++◌}
use native.Mathlib.Omega.{arith}
use lib.Dec.{eqb, leb}
use lib.ListN.{length, get_or}
use Rattle.graph.specs.Calls.{Call, add, map, link, unlink, sum, top, pick, near, unmap, operands_of, listed_of, lacks_inverse}
use Rattle.graph.specs.Words.{modulus}
use Rattle.graph.specs.Refusals.{refused, done}
use Rattle.graph.specs.declared.keys.Keys.{Keys}
use Rattle.graph.specs.declared.remaining.Remaining.{Remaining}
use Rattle.graph.specs.KeyLists.{are_keys, rising}
use Rattle.graph.specs.Packed.{packed, packed_targets}
use Rattle.graph.specs.Targets.{To, named, whole, keys_listed, untouched}
use Rattle.text.specs.Text.{ascii}
use Rattle.text.proofs.Splits.{clean_test, clean_by}
use Rattle.lines.specs.Forms.{call_text, call_numbers}
use Rattle.keylists.specs.Inner.ListsRead.{Below}
use Rattle.keylists.proofs.KeyLists.{below_words}
use Rattle.graph.specs.Refusals.{Answer, and_then, map_done}
use Rattle.lines.specs.Inner.Answers.{call_parts, call_read, call_answer, call_form}
use Rattle.lines.specs.Inner.LineParts.{Tailed, call_word, call_literals, first_literals, second_literals, call_listed, key_fits, lacks_inverse_of, call_made}
use Rattle.lines.specs.Inner.Answers.{ReadAs}
use Rattle.lines.specs.Inner.LineParts.{FieldIf, TailOf, ToRead, Values, ValuesOf, targets_named}
use Rattle.lines.specs.declared.fields.TargetsRead.{TargetsRead}
use Rattle.lines.specs.declared.fields.TargetsRead.TheVariants.{Listed as Read}
use Rattle.graph.specs.declared.remaining.Remaining.TheVariants.{Listed}
use Rattle.graph.specs.Refused.{answered}
use Rattle.graph.specs.declared.refusal.Refusal.{Refusal}
use Rattle.keylists.specs.Inner.ListsRead.{KeysOf, keys_named}
use Rattle.keylists.specs.declared.keylist.KeyList.{KeyList}
use Rattle.std.proofs.Common.{Some, None, Result, Ok, Err, drop}
use Rattle.lines.proofs.Chains.{Literals, One, before_if, only, zero_if, if_not, if_then, tail_not, tail_is}
use Rattle.lines.specs.declared.call.Call.{Call as Asked}
use Rattle.lines.specs.declared.call.CallKind.{CallKind}
use Rattle.lines.specs.declared.call.CallKind.TheVariants.{Add, Map, Link, Unlink, Sum, Top, Pick, Near, Unmap}
use Rattle.lines.proofs.Words.{KindOf, Grammar, Parts, PartsOf, Made, Forms, unique}

-- ---- the grammar

-- the first letter tells the words apart, and the third unlink from unmap
kind_at : ℕ → ℕ → CallKind
kind_at b d =
    cond (eqb b 97) Add
    (cond (eqb b 109) Map
    (cond (eqb b 108) Link
    (cond (eqb b 117) (cond (eqb d 108) Unlink Unmap)
    (cond (eqb b 115) Sum
    (cond (eqb b 116) Top
    (cond (eqb b 112) Pick Near))))))

pub kind_named : List ℕ → CallKind
kind_named w = kind_at (get_or w 0 0) (get_or w 2 0)

pub call_kinds : (k : CallKind) → KindOf kind_named k (call_word k) (call_literals k)
unfolding kind_named kind_at ascii clean_test
call_kinds Add = record { clean = clean_by 32 (call_word Add) refl; some = omega arith; names = refl; gaps = (refl, tt) }
call_kinds Map = record { clean = clean_by 32 (call_word Map) refl; some = omega arith; names = refl; gaps = (refl, (refl, tt)) }
call_kinds Link = record { clean = clean_by 32 (call_word Link) refl; some = omega arith; names = refl; gaps = (refl, tt) }
call_kinds Unlink = record { clean = clean_by 32 (call_word Unlink) refl; some = omega arith; names = refl; gaps = (refl, tt) }
call_kinds Sum = record { clean = clean_by 32 (call_word Sum) refl; some = omega arith; names = refl; gaps = (refl, tt) }
call_kinds Top = record { clean = clean_by 32 (call_word Top) refl; some = omega arith; names = refl; gaps = (refl, tt) }
call_kinds Pick = record { clean = clean_by 32 (call_word Pick) refl; some = omega arith; names = refl; gaps = (refl, tt) }
call_kinds Near = record { clean = clean_by 32 (call_word Near) refl; some = omega arith; names = refl; gaps = (refl, (refl, tt)) }
call_kinds Unmap = record { clean = clean_by 32 (call_word Unmap) refl; some = omega arith; names = refl; gaps = (refl, (refl, tt)) }

unfoldable pub calls : Grammar CallKind
calls =
    record {
      head = ascii "call=";
      word = call_word;
      literals = call_literals;
      listed = call_listed;
      named = kind_named;
      kinds = call_kinds;
    }

-- ---- the forms

call_made_law : (k : CallKind) (x y z : ℕ) (to : To) → Made calls call_text call_numbers (record { kind = k; x = x; y = y; z = z; to = to }) (call_form k x y to)
unfolding calls ascii
call_made_law Add x y z to = record { same = refl; fits = λ s. (s.0, tt) }
call_made_law Map x y z to = record { same = refl; fits = λ s. (s.0, (s.1, s.3)) }
call_made_law Link x y z to = record { same = refl; fits = λ s. (s.0, s.3) }
call_made_law Unlink x y z to = record { same = refl; fits = λ s. (s.0, s.3) }
call_made_law Sum x y z to = record { same = refl; fits = λ s. (s.0, s.3) }
call_made_law Top x y z to = record { same = refl; fits = λ s. (s.0, s.3) }
call_made_law Pick x y z to = record { same = refl; fits = λ s. (s.0, s.3) }
call_made_law Near x y z to = record { same = refl; fits = λ s. (s.1, (s.0, s.3)) }
call_made_law Unmap x y z to = record { same = refl; fits = λ s. (s.0, (s.1, s.3)) }

abbrev pub form_of : Parts CallKind → Call
form_of p = call_form p.kind p.x p.y p.to

abbrev pub parts_of : Call → Parts CallKind
parts_of f = record { kind = (call_parts f).kind; x = (call_parts f).x; y = (call_parts f).y; z = 0; to = (call_parts f).to }

parts : (f : Call) → PartsOf calls call_numbers form_of f (parts_of f)
unfolding calls
parts (add value) = record { back = refl; unused = ((refl, refl, refl), refl); small = λ b. (b.0, omega arith, omega arith, tt) }
parts (map a b to) = record { back = refl; unused = ((refl, refl, refl), tt); small = λ b. (b.0, b.1.0, omega arith, b.1.1) }
parts (link key to) = record { back = refl; unused = ((refl, refl, refl), tt); small = λ b. (b.0, omega arith, omega arith, b.1) }
parts (unlink key to) = record { back = refl; unused = ((refl, refl, refl), tt); small = λ b. (b.0, omega arith, omega arith, b.1) }
parts (sum start to) = record { back = refl; unused = ((refl, refl, refl), tt); small = λ b. (b.0, omega arith, omega arith, b.1) }
parts (top start to) = record { back = refl; unused = ((refl, refl, refl), tt); small = λ b. (b.0, omega arith, omega arith, b.1) }
parts (pick start to) = record { back = refl; unused = ((refl, refl, refl), tt); small = λ b. (b.0, omega arith, omega arith, b.1) }
parts (near key start to) = record { back = refl; unused = ((refl, refl, refl), tt); small = λ b. (b.1.0, b.0, omega arith, b.1.1) }
parts (unmap a b to) = record { back = refl; unused = ((refl, refl, refl), tt); small = λ b. (b.0, b.1.0, omega arith, b.1.1) }

pub call_forms : Forms calls call_text call_numbers form_of parts_of
call_forms =
    record {
      parts = parts;
      made = λ p. call_made_law p.kind p.x p.y p.z p.to;
    }

-- a call line's text determines the call
pub call_unique : (f g : Call) → call_text f ≡ call_text g → f ≡ g
call_unique = unique call_forms

-- ---- the answer

-- the literals after a word
pub literals_parted : (k : CallKind) → call_literals k ≡ first_literals k ++ (second_literals k ++ [])
literals_parted Add = refl
literals_parted Map = refl
literals_parted Link = refl
literals_parted Unlink = refl
literals_parted Sum = refl
literals_parted Top = refl
literals_parted Pick = refl
literals_parted Near = refl
literals_parted Unmap = refl

pub first_one : (k : CallKind) → One (first_literals k)
first_one Add = tt
first_one Map = tt
first_one Link = tt
first_one Unlink = tt
first_one Sum = tt
first_one Top = tt
first_one Pick = tt
first_one Near = tt
first_one Unmap = tt

-- what holds of the literal of a second number, if there is one
pub record Second (literals : List (List ℕ)) : Type 0 where
  pub one : One literals
  pub gaps : Literals (literals ++ [])
  pub few : length (literals ++ []) ≤ 2

pub second : (k : CallKind) → Second (second_literals k)
unfolding ascii
second Add = record { one = tt; gaps = tt; few = omega arith }
second Map = record { one = tt; gaps = (refl, tt); few = omega arith }
second Link = record { one = tt; gaps = tt; few = omega arith }
second Unlink = record { one = tt; gaps = tt; few = omega arith }
second Sum = record { one = tt; gaps = tt; few = omega arith }
second Top = record { one = tt; gaps = tt; few = omega arith }
second Pick = record { one = tt; gaps = tt; few = omega arith }
second Near = record { one = tt; gaps = (refl, tt); few = omega arith }
second Unmap = record { one = tt; gaps = (refl, tt); few = omega arith }

-- the tests, in their order
by_tests : (k a b l : Bool) (p : Remaining) (c : Remaining → Asked) (f : Call) → call_read f ≡ c p
    → cond k (and_then (cond a (cond b (done p) (refused 12)) (refused 11)) (λ r. cond l (refused 40) (done (c r)))) (refused 11)
    ≡ map_done call_read (cond (not (k && a)) (refused 11) (cond (not b) (refused 12) (cond l (refused 40) (done f))))
by_tests false a b l p c f e = refl
by_tests true false b l p c f e = refl
by_tests true true false l p c f e = refl
by_tests true true true true p c f e = refl
by_tests true true true false p c f e = ap done (sym e)

module _ (x y : ℕ) (to : To) (hx : x < modulus) (hy : y < modulus) (h : Below (keys_listed to)) where
  abbrev made_of : CallKind → Remaining → Asked
  made_of k r = record { kind = k; x = x; y = y; to = r }

  abbrev law : (k : CallKind) (f : Call) → Type 0
  law k f = call_made k x y to ≡ call_answer f

  by_words : (k : CallKind) (f : Call) → Below (call_numbers f) → call_read f ≡ made_of k (packed_targets (untouched to))
      → are_keys (operands_of f ++ listed_of f) ≡ key_fits k x && are_keys (keys_listed to) → listed_of f ≡ keys_listed to → lacks_inverse f ≡ lacks_inverse_of k x
      → law k f
  by_words k f w e a l i =
      rw (below_words (call_numbers f) w, a, l, i)
      (by_tests (key_fits k x) (are_keys (keys_listed to)) (leb (length (keys_listed to)) 8 && rising (keys_listed to)) (lacks_inverse_of k x) (packed_targets (untouched to)) (made_of k) f e)

pub made_answer : (k : CallKind) (x y : ℕ) (to : To) → x < modulus → y < modulus → Below (keys_listed to) → (second_literals k ≡ [] → y ≡ 0) → Tailed (call_listed k) to
    → call_made k x y to ≡ call_answer (call_form k x y to)
made_answer Add x y to hx hy h z t = rw (z refl, t) (by_words x 0 (named []) hx (omega arith) tt Add (add x) (hx, tt) refl refl refl refl)
made_answer Map x y to hx hy h z t = by_words x y to hx hy h Map (map x y to) (hx, (hy, h)) refl refl refl refl
made_answer Link x y to hx hy h z t = rw (z refl) (by_words x 0 to hx (omega arith) h Link (link x to) (hx, h) refl refl refl refl)
made_answer Unlink x y to hx hy h z t = rw (z refl) (by_words x 0 to hx (omega arith) h Unlink (unlink x to) (hx, h) refl refl refl refl)
made_answer Sum x y to hx hy h z t = rw (z refl) (by_words x 0 to hx (omega arith) h Sum (sum x to) (hx, h) refl refl refl refl)
made_answer Top x y to hx hy h z t = rw (z refl) (by_words x 0 to hx (omega arith) h Top (top x to) (hx, h) refl refl refl refl)
made_answer Pick x y to hx hy h z t = rw (z refl) (by_words x 0 to hx (omega arith) h Pick (pick x to) (hx, h) refl refl refl refl)
made_answer Near x y to hx hy h z t = by_words x y to hx hy h Near (near x y to) (hy, (hx, h)) refl refl refl refl
made_answer Unmap x y to hx hy h z t = by_words x y to hx hy h Unmap (unmap x y to) (hx, (hy, h)) refl refl refl refl

-- ---- what follows a word

values_are : (k : CallKind) (x y : ℕ) (to : To) → (second_literals k ≡ [] → y ≡ 0) → record { x = x; y = y; z = 0; to = to } ≡ before_if (first_literals k) x (before_if (second_literals k) y (only to))
values_are Add x y to z = rw (z refl) refl
values_are Map x y to z = refl
values_are Link x y to z = rw (z refl) refl
values_are Unlink x y to z = rw (z refl) refl
values_are Sum x y to z = rw (z refl) refl
values_are Top x y to z = rw (z refl) refl
values_are Pick x y to z = rw (z refl) refl
values_are Near x y to z = refl
values_are Unmap x y to z = refl

module _ (k : CallKind) (line : List ℕ) (at : ℕ) (r : Answer Asked) where
  abbrev answer : Values → Answer Asked
  answer v = call_answer (call_form k v.x v.y v.to)

  abbrev After : Type 0
  After = ReadAs (ValuesOf (call_literals k) (call_listed k) (drop at line)) answer (refused 10) r

  abbrev second_literal : List (List ℕ)
  second_literal = second_literals k ++ []

  parted : ReadAs (ValuesOf (first_literals k ++ second_literal) (call_listed k) (drop at line)) answer (refused 10) r → After
  parted = subst (λ (l : List (List ℕ)). ReadAs (ValuesOf l (call_listed k) (drop at line)) answer (refused 10) r) (sym (literals_parted k))

  pub no_first : FieldIf line at (first_literals k) None → r ≡ refused 10 → After
  no_first f e = parted (if_not line at second_literal (second k).gaps (first_literals k) (first_one k) f e)

  module _ (x n : ℕ) (f : FieldIf line at (first_literals k) (Some (x, n))) (hx : x < modulus) where
    first_then : ReadAs (ValuesOf second_literal (call_listed k) (drop n line)) (λ v. answer (before_if (first_literals k) x v)) (refused 10) r → After
    first_then t = parted (if_then line at second_literal (second k).gaps (first_literals k) (first_one k) x n f hx (second k).few t)

    pub no_second : FieldIf line n (second_literals k) None → r ≡ refused 10 → After
    no_second g e = first_then (if_not line n [] tt (second_literals k) (second k).one g e)

    module _ (y m : ℕ) (g : FieldIf line n (second_literals k) (Some (y, m))) (hy : y < modulus) where
      second_then : ReadAs (ValuesOf [] (call_listed k) (drop m line)) (λ v. answer (before_if (first_literals k) x (before_if (second_literals k) y v))) (refused 10) r → After
      second_then t = first_then (if_then line n [] tt (second_literals k) (second k).one y m g hy (omega arith) t)

      pub no_targets : TailOf (call_listed k) (drop m line) None → r ≡ refused 10 → After
      no_targets t e = second_then (tail_not (drop m line) t e)

      pub with_targets : {read : TargetsRead} → TailOf (call_listed k) (drop m line) (Some read) → ((to : To) → ToRead to read → r ≡ call_made k x y to) → After
      with_targets t e =
          let z : second_literals k ≡ [] → y ≡ 0 = zero_if line n y m (second_literals k) g in
          second_then (tail_is (drop m line) t (λ to p d b. e to p ∙ made_answer k x y to hx hy b z d ∙ ap answer (values_are k x y to z)))

-- ---- the targets by what is known of them

pub targets_law : (to : To) (k : KeyList) (r : Result Keys Refusal) → ToRead to (Read k) → ((ts : List ℕ) → KeysOf ts k → answered (λ q. q) r ≡ keys_named ts) → answered Listed r ≡ targets_named to
targets_law whole k r p e = absurd p
targets_law (named ts) k r p e = answered_then Listed r ∙ ap (map_done Listed) (e ts p.1) ∙ go (are_keys ts) (leb (length ts) 8 && rising ts)
  where
    answered_then : (f : Keys → Remaining) (r : Result Keys Refusal) → answered f r ≡ map_done f (answered (λ q. q) r)
    answered_then f (Ok q) = refl
    answered_then f (Err n) = refl

    go : (a b : Bool) → map_done Listed (cond a (cond b (done (packed ts)) (refused 12)) (refused 11)) ≡ cond a (cond b (done (Listed (packed ts))) (refused 12)) (refused 11)
    go true true = refl
    go true false = refl
    go false b = refl
