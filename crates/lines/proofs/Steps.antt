-- Step lines: their grammar, their forms, and the answer to each form.
-- Assumes nothing.
use Prim.Native.Nat.{ℕ, ◌+◌, ◌≤◌, ◌<◌}
use mathlib.Core.Path.{◌≡◌, refl, sym, ap, subst}
use mathlib.Core.Bool.{Bool, true, false, cond}
use mathlib.Core.List.{List, []}
use native.Mathlib.Omega.{arith}
use lib.Dec.{eqb}
use lib.ListN.{length, get_or}
use Rattle.graph.specs.Refusals.{Answer, refused}
use Rattle.graph.specs.Targets.{To, named}
use Rattle.graph.specs.Steps.{admit, realise, move, finish, join, split, swap, fuse}
use Rattle.text.specs.Text.{ascii}
use Rattle.text.proofs.Splits.{clean_test, clean_by}
use Rattle.lines.specs.Forms.{StepForm, work, drain_form, step_text, step_numbers}
use Rattle.lines.specs.Inner.Answers.{ReadAs, step_answer}
use Rattle.lines.specs.Inner.LineParts.{FieldIf, ValuesOf, step_word, step_literals, step_form}
use Rattle.lines.proofs.Chains.{Literals, One, before_if, only, if_not, if_then, end_not, end_is}
use Rattle.graph.specs.Words.{modulus}
use Rattle.std.proofs.Common.{Some, None, ltb, drop, ◌∷◌, ◌++◌, ◌∙◌}
use Rattle.lines.specs.declared.step.StepKind.{StepKind}
use Rattle.lines.specs.declared.step.StepKind.TheVariants.{Admit, Realise, Move, Finish, Join, Split, Swap, Fuse, Drain}
use Rattle.lines.proofs.Words.{KindOf, Grammar, Parts, PartsOf, Made, Forms, unique}

-- ---- the grammar

-- the first two letters tell the words apart, and so does their sum
kind_at : ℕ → StepKind
kind_at b =
    cond (eqb b 197) Admit
    (cond (eqb b 215) Realise
    (cond (eqb b 220) Move
    (cond (eqb b 207) Finish
    (cond (eqb b 217) Join
    (cond (eqb b 227) Split
    (cond (eqb b 234) Swap
    (cond (eqb b 219) Fuse Drain)))))))

letters : List ℕ → ℕ
letters w = get_or w 0 0 + get_or w 1 0

pub kind_named : List ℕ → StepKind
kind_named w = kind_at (letters w)

pub step_kinds : (k : StepKind) → KindOf kind_named k (step_word k) (step_literals k)
unfolding kind_named kind_at letters ascii clean_test
step_kinds Admit = record { clean = clean_by 32 (step_word Admit) refl; some = omega arith; names = refl; gaps = tt }
step_kinds Realise = record { clean = clean_by 32 (step_word Realise) refl; some = omega arith; names = refl; gaps = (refl, tt) }
step_kinds Move = record { clean = clean_by 32 (step_word Move) refl; some = omega arith; names = refl; gaps = (refl, tt) }
step_kinds Finish = record { clean = clean_by 32 (step_word Finish) refl; some = omega arith; names = refl; gaps = (refl, tt) }
step_kinds Join = record { clean = clean_by 32 (step_word Join) refl; some = omega arith; names = refl; gaps = (refl, (refl, tt)) }
step_kinds Split = record { clean = clean_by 32 (step_word Split) refl; some = omega arith; names = refl; gaps = (refl, (refl, (refl, tt))) }
step_kinds Swap = record { clean = clean_by 32 (step_word Swap) refl; some = omega arith; names = refl; gaps = (refl, (refl, tt)) }
step_kinds Fuse = record { clean = clean_by 32 (step_word Fuse) refl; some = omega arith; names = refl; gaps = (refl, (refl, tt)) }
step_kinds Drain = record { clean = clean_by 32 (step_word Drain) refl; some = omega arith; names = refl; gaps = tt }

unfoldable pub steps : Grammar StepKind
steps =
    record {
      head = ascii "step=";
      word = step_word;
      literals = step_literals;
      listed = λ k. false;
      named = kind_named;
      kinds = step_kinds;
    }

-- ---- the forms

step_made_law : (k : StepKind) (x y z : ℕ) (to : To) → Made steps step_text step_numbers (record { kind = k; x = x; y = y; z = z; to = to }) (step_form k x y z)
unfolding steps ascii
step_made_law Admit x y z to = record { same = refl; fits = λ s. tt }
step_made_law Realise x y z to = record { same = refl; fits = λ s. (s.0, tt) }
step_made_law Move x y z to = record { same = refl; fits = λ s. (s.0, tt) }
step_made_law Finish x y z to = record { same = refl; fits = λ s. (s.0, tt) }
step_made_law Join x y z to = record { same = refl; fits = λ s. (s.0, (s.1, tt)) }
step_made_law Split x y z to = record { same = refl; fits = λ s. (s.0, (s.1, (s.2, tt))) }
step_made_law Swap x y z to = record { same = refl; fits = λ s. (s.0, (s.1, tt)) }
step_made_law Fuse x y z to = record { same = refl; fits = λ s. (s.0, (s.1, tt)) }
step_made_law Drain x y z to = record { same = refl; fits = λ s. tt }

abbrev pub form_of : Parts StepKind → StepForm
form_of p = step_form p.kind p.x p.y p.z

abbrev parts_as : StepKind → ℕ → ℕ → ℕ → Parts StepKind
parts_as k x y z = record { kind = k; x = x; y = y; z = z; to = named [] }

abbrev pub parts_of : StepForm → Parts StepKind
parts_of (work admit) = parts_as Admit 0 0 0
parts_of (work (realise at)) = parts_as Realise at 0 0
parts_of (work (move at)) = parts_as Move at 0 0
parts_of (work (finish at)) = parts_as Finish at 0 0
parts_of (work (join at unit)) = parts_as Join at unit 0
parts_of (work (split at unit after)) = parts_as Split at unit after
parts_of (work (swap at unit)) = parts_as Swap at unit 0
parts_of (work (fuse at unit)) = parts_as Fuse at unit 0
parts_of drain_form = parts_as Drain 0 0 0

parts : (f : StepForm) → PartsOf steps step_numbers form_of f (parts_of f)
unfolding steps
parts (work admit) = record { back = refl; unused = ((refl, refl, refl), refl); small = λ b. (omega arith, omega arith, omega arith, tt) }
parts (work (realise at)) = record { back = refl; unused = ((refl, refl, refl), refl); small = λ b. (b.0, omega arith, omega arith, tt) }
parts (work (move at)) = record { back = refl; unused = ((refl, refl, refl), refl); small = λ b. (b.0, omega arith, omega arith, tt) }
parts (work (finish at)) = record { back = refl; unused = ((refl, refl, refl), refl); small = λ b. (b.0, omega arith, omega arith, tt) }
parts (work (join at unit)) = record { back = refl; unused = ((refl, refl, refl), refl); small = λ b. (b.0, b.1.0, omega arith, tt) }
parts (work (split at unit after)) = record { back = refl; unused = ((refl, refl, refl), refl); small = λ b. (b.0, b.1.0, b.1.1.0, tt) }
parts (work (swap at unit)) = record { back = refl; unused = ((refl, refl, refl), refl); small = λ b. (b.0, b.1.0, omega arith, tt) }
parts (work (fuse at unit)) = record { back = refl; unused = ((refl, refl, refl), refl); small = λ b. (b.0, b.1.0, omega arith, tt) }
parts drain_form = record { back = refl; unused = ((refl, refl, refl), refl); small = λ b. (omega arith, omega arith, omega arith, tt) }

pub step_forms : Forms steps step_text step_numbers form_of parts_of
step_forms =
    record {
      parts = parts;
      made = λ p. step_made_law p.kind p.x p.y p.z p.to;
    }

-- a step line's text determines the step
pub step_unique : (f g : StepForm) → step_text f ≡ step_text g → f ≡ g
step_unique = unique step_forms

-- ---- what follows a word

-- the literals of n numbers
abbrev pub place_literals : ℕ → List (List ℕ)
place_literals n = cond (ltb 0 n) (ascii " at=" ∷ []) []

abbrev pub unit_literals : ℕ → List (List ℕ)
unit_literals n = cond (ltb 1 n) (ascii " unit=" ∷ []) []

abbrev pub after_literals : ℕ → List (List ℕ)
after_literals n = cond (ltb 2 n) (ascii " after=" ∷ []) []

literals_parted : (k : StepKind) → let n = length (step_literals k) in step_literals k ≡ place_literals n ++ (unit_literals n ++ (after_literals n ++ []))
literals_parted Admit = refl
literals_parted Realise = refl
literals_parted Move = refl
literals_parted Finish = refl
literals_parted Join = refl
literals_parted Split = refl
literals_parted Swap = refl
literals_parted Fuse = refl
literals_parted Drain = refl

module _ (a : List ℕ) where
  abbrev may : Bool → List (List ℕ)
  may b = cond b (a ∷ []) []

  one : (b : Bool) → One (may b)
  one true = tt
  one false = tt

  gaps : ((more : List (List ℕ)) → Literals more → Literals (a ∷ more)) → (more : List (List ℕ)) → Literals more → (b : Bool) → Literals (may b ++ more)
  gaps g more h true = g more h
  gaps g more h false = h

  few : (more : List (List ℕ)) (b : Bool) → length (may b ++ more) ≤ 1 + length more
  few more true = omega arith
  few more false = omega arith

values_are : (k : StepKind) (x y z : ℕ) → let n = length (step_literals k) in
    let v = before_if (place_literals n) x (before_if (unit_literals n) y (before_if (after_literals n) z (only (named [])))) in
    step_form k x y z ≡ step_form k v.x v.y v.z
values_are Admit x y z = refl
values_are Realise x y z = refl
values_are Move x y z = refl
values_are Finish x y z = refl
values_are Join x y z = refl
values_are Split x y z = refl
values_are Swap x y z = refl
values_are Fuse x y z = refl
values_are Drain x y z = refl

module _ (k : StepKind) (line : List ℕ) (at : ℕ) (r : Answer StepForm) where
  abbrev number : ℕ
  number = length (step_literals k)

  abbrev after_literal : List (List ℕ)
  after_literal = after_literals number ++ []

  abbrev unit_literal : List (List ℕ)
  unit_literal = unit_literals number ++ after_literal

  abbrev After : Type 0
  After = ReadAs (ValuesOf (step_literals k) false (drop at line)) (λ v. step_answer (step_form k v.x v.y v.z)) (refused 10) r

  after_gaps : Literals after_literal
  unfolding ascii
  after_gaps = gaps (ascii " after=") (λ more h. (refl, h)) [] tt (ltb 2 number)

  unit_gaps : Literals unit_literal
  unfolding ascii
  unit_gaps = gaps (ascii " unit=") (λ more h. (refl, h)) after_literal after_gaps (ltb 1 number)

  after_few : length after_literal ≤ 1
  after_few = few (ascii " after=") [] (ltb 2 number)

  unit_few : length unit_literal ≤ 2
  unit_few = omega (arith, few (ascii " unit=") after_literal (ltb 1 number), after_few)

  parted : ReadAs (ValuesOf (place_literals number ++ unit_literal) false (drop at line)) (λ v. step_answer (step_form k v.x v.y v.z)) (refused 10) r → After
  parted = subst (λ (l : List (List ℕ)). ReadAs (ValuesOf l false (drop at line)) (λ v. step_answer (step_form k v.x v.y v.z)) (refused 10) r) (sym (literals_parted k))

  pub no_place : FieldIf line at (place_literals number) None → r ≡ refused 10 → After
  no_place f e = parted (if_not line at unit_literal unit_gaps (place_literals number) (one (ascii " at=") (ltb 0 number)) f e)

  module _ (x n : ℕ) (f : FieldIf line at (place_literals number) (Some (x, n))) (hx : x < modulus) where
    pub place_then : ReadAs (ValuesOf unit_literal false (drop n line)) (λ v. let u = before_if (place_literals number) x v in step_answer (step_form k u.x u.y u.z)) (refused 10) r → After
    place_then t = parted (if_then line at unit_literal unit_gaps (place_literals number) (one (ascii " at=") (ltb 0 number)) x n f hx unit_few t)

    pub no_unit : FieldIf line n (unit_literals number) None → r ≡ refused 10 → After
    no_unit g e = place_then (if_not line n after_literal after_gaps (unit_literals number) (one (ascii " unit=") (ltb 1 number)) g e)

    module _ (y m : ℕ) (g : FieldIf line n (unit_literals number) (Some (y, m))) (hy : y < modulus) where
      pub unit_then : ReadAs (ValuesOf after_literal false (drop m line)) (λ v. let u = before_if (place_literals number) x (before_if (unit_literals number) y v) in step_answer (step_form k u.x u.y u.z)) (refused 10) r → After
      unit_then t = place_then (if_then line n after_literal after_gaps (unit_literals number) (one (ascii " unit=") (ltb 1 number)) y m g hy (omega (arith, after_few)) t)

      pub no_after : FieldIf line m (after_literals number) None → r ≡ refused 10 → After
      no_after h e = unit_then (if_not line m [] tt (after_literals number) (one (ascii " after=") (ltb 2 number)) h e)

      module _ (z l : ℕ) (h : FieldIf line m (after_literals number) (Some (z, l))) (hz : z < modulus) where
        after_then : ReadAs (ValuesOf [] false (drop l line)) (λ v. let u = before_if (place_literals number) x (before_if (unit_literals number) y (before_if (after_literals number) z v)) in step_answer (step_form k u.x u.y u.z)) (refused 10) r → After
        after_then t = unit_then (if_then line m [] tt (after_literals number) (one (ascii " after=") (ltb 2 number)) z l h hz (omega arith) t)

        pub no_end : l < length line → r ≡ refused 10 → After
        no_end more e = after_then (end_not line l more e)

        pub at_end : length line ≤ l → r ≡ step_answer (step_form k x y z) → After
        at_end end e = after_then (end_is line l end (e ∙ ap step_answer (values_are k x y z)))
