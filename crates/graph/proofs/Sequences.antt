-- Refusals as sequences of tests: calls, steps and claims are answered with the number of the first test that applies. Here each
-- sequence rises, but for 40 (S-6), which stands after 12 and before 13; so that no test that applies precedes the answer.
-- Assumes nothing.
use mathlib.Core.Path.{◌≡◌, refl, sym, ◌∙◌, ap}
use Prim.Native.Nat.{ℕ, ◌+◌, ◌≤◌, ◌<◌}
use native.Mathlib.Omega.{arith}
use mathlib.Core.Bool.{Bool, true, false, cond, not, ◌&&◌, ◌||◌, true≢false}
use mathlib.Core.List.{List, [], ◌∷◌, ◌++◌}
use mathlib.Core.Option.{some}
use lib.Dec.{eqb, ltb, leb}
use borrow.Author.Tests.{eq-eqb, eqb-true, eqb-false, leb-true, lt-leb, ltb-true, ltb-false, le-ltb, ne_eqb}
use Rattle.graph.specs.Refusals.{Answer, refused, done, map_done, and_then, Test, unless}
use Rattle.graph.specs.RefusalOrder.{number_of, first_of, precedes, rises_from, Foremost, Lowest, claim_tests}
use Rattle.graph.specs.KeyLists.{contains}
use Rattle.graph.specs.Calls.{Call, form_tests}
use Rattle.graph.specs.Nodes.{Result}
use Rattle.graph.specs.Sessions.{Session, labels_of_results, pending}
use Rattle.graph.specs.Steps.{Step, admit, realise, move, finish, join, split, swap, fuse}
use Rattle.graph.specs.Allowed.{step_tests}
use Rattle.graph.specs.Acceptance.{call_tests, accepted, accept, Claimed, take_result, claim}
use Rattle.graph.specs.Valid.{Each}
use Rattle.graph.specs.Counts.{result_of_label}
use Rattle.graph.proofs.Answers.{Holds, refuses, holds, holds_map, and_left, and_right}
use Rattle.graph.proofs.Verdicts.{Says, says_map}
use Rattle.graph.proofs.Validity.{FormFits, form_passes}

-- THE FOREMOST NUMBER
-- a number's rank in the order of the tests: twice the number, which leaves room for 40 between 12 and 13
abbrev rank : ℕ → ℕ
rank n = cond (eqb n 40) 25 (n + n)

precedes_rank : (n m : ℕ) → precedes n m ≡ true → rank n < rank m
precedes_rank n m = go (eqb m 40) (eqb n 40) refl refl
  where
    go : (a b : Bool) → eqb m 40 ≡ a → eqb n 40 ≡ b → cond a (leb n 12) (cond b (ltb 12 m) (ltb n m)) ≡ true → cond b 25 (n + n) < cond a 25 (m + m)
    go true true f g e = absurd (omega (arith, eqb-true n 40 g, leb-true n 12 e))
    go true false f g e = omega (arith, leb-true n 12 e)
    go false true f g e = omega (arith, ltb-true 12 m e)
    go false false f g e = omega (arith, ltb-true n m e)

rank_precedes : (n m : ℕ) → rank m ≤ rank n → precedes n m ≡ false
rank_precedes n m = go (eqb m 40) (eqb n 40) refl refl
  where
    go : (a b : Bool) → eqb m 40 ≡ a → eqb n 40 ≡ b → cond a 25 (m + m) ≤ cond b 25 (n + n) → cond a (leb n 12) (cond b (ltb 12 m) (ltb n m)) ≡ false
    go true true f g h = lt-leb n 12 (omega (arith, eqb-true n 40 g))
    go true false f g h = lt-leb n 12 (omega arith)
    go false true f g h = le-ltb 12 m (omega arith)
    go false false f g h = le-ltb n m (omega arith)

rises_above : (n : ℕ) (ts : List Test) → rises_from n ts ≡ true → Each (λ (t : Test). rank n < rank t.number) ts
rises_above n [] e = tt
rises_above n (t ∷ ts) e =
    let h : rank n < rank t.number = precedes_rank n t.number (and_left _ _ e) in
    (h, weaker (rank n) (rank t.number) h ts (rises_above t.number ts (and_right (precedes n t.number) _ e)))
  where
    weaker : (a b : ℕ) → a < b → (us : List Test) → Each (λ (u : Test). b < rank u.number) us → Each (λ (u : Test). a < rank u.number) us
    weaker a b l [] g = tt
    weaker a b l (u ∷ us) g = (omega (arith, l, g.0), weaker a b l us g.1)

pub first_foremost : (n : ℕ) (ts : List Test) → rises_from n ts ≡ true → Foremost (first_of ts) ts
first_foremost n [] e = tt
first_foremost n (t ∷ ts) e = go t.applies refl (first_foremost t.number ts (and_right (precedes n t.number) _ e))
  where
    behind : (us : List Test) → Each (λ (u : Test). rank t.number < rank u.number) us → Foremost t.number us
    behind [] g = tt
    behind (u ∷ us) g = (λ a. rank_precedes u.number t.number (omega (arith, g.0)), behind us g.1)

    go : (b : Bool) → t.applies ≡ b → Foremost (first_of ts) ts → Foremost (cond b t.number (first_of ts)) (t ∷ ts)
    go true f g = (λ a. rank_precedes t.number t.number (omega arith), behind ts (rises_above t.number ts (and_right (precedes n t.number) _ e)))
    go false f g = (λ a. absurd (true≢false (sym a ∙ f)), g)

-- 40 is the one exception
pub foremost_lowest : (n : ℕ) (ts : List Test) → (n ≡ 40 → ⊥) → Foremost n ts → Lowest n ts
foremost_lowest n [] d h = tt
foremost_lowest n (t ∷ ts) d h = (λ a. go (eqb t.number 40) refl (ap (λ (b : Bool). cond b (leb t.number 12) (cond (eqb t.number 40) (ltb 12 n) (ltb t.number n))) (sym (ne_eqb n 40 d)) ∙ h.0 a), foremost_lowest n ts d h.1)
  where
    go : (b : Bool) → eqb t.number 40 ≡ b → cond b (ltb 12 n) (ltb t.number n) ≡ false → n ≤ t.number
    go true e f = omega (arith, eqb-true t.number 40 e, ltb-false 12 n f)
    go false e f = ltb-false t.number n f

-- EACH SEQUENCE RISES (of claims and the listing: host's Sequences, with 33)
pub calls_rise : (c : Call) (s : Session) → rises_from 2 (call_tests c s) ≡ true
calls_rise c s = refl

-- none of the numbers of a call's form is 0
pub forms_positive : (c : Call) → Each (λ (t : Test). 1 ≤ t.number) (form_tests c)
forms_positive c = (omega arith, (omega arith, (omega arith, (omega arith, tt))))

-- nor of a call's, where 0 says that it is accepted
pub calls_positive : (c : Call) (s : Session) → Each (λ (t : Test). 1 ≤ t.number) (call_tests c s)
calls_positive c s = (omega arith, (omega arith, (omega arith, (omega arith, (omega arith, (omega arith, (omega arith, tt)))))))

pub steps_rise : (t : Step) (s : Session) → rises_from 11 (step_tests t s) ≡ true
steps_rise admit s = refl
steps_rise (realise k) s = refl
steps_rise (move k) s = refl
steps_rise (finish k) s = refl
steps_rise (join k i) s = refl
steps_rise (split k i j) s = refl
steps_rise (swap k i) s = refl
steps_rise (fuse k i) s = refl

-- THE FIRST ANSWERS
pub unless_number : {A : Type 0} (ts : List Test) (a : A) → number_of (unless ts a) ≡ first_of ts
unless_number [] a = refl
unless_number (t ∷ ts) a = go t.applies (unless_number ts a)
  where
    go : (b : Bool) → number_of (unless ts a) ≡ first_of ts → number_of (cond b (refused t.number) (unless ts a)) ≡ cond b t.number (first_of ts)
    go true h = refl
    go false h = h

-- where the first number is 0, no test applies
pub none_applies : (ts : List Test) → Each (λ (t : Test). 1 ≤ t.number) ts → first_of ts ≡ 0 → Each (λ (t : Test). t.applies ≡ false) ts
none_applies [] h e = tt
none_applies (t ∷ ts) h e = go t.applies refl e (none_applies ts h.1)
  where
    go : (b : Bool) → t.applies ≡ b → cond b t.number (first_of ts) ≡ 0 → (first_of ts ≡ 0 → Each (λ (u : Test). u.applies ≡ false) ts) →
        (t.applies ≡ false) × Each (λ (u : Test). u.applies ≡ false) ts
    go true f q ih = absurd (omega (arith, q, h.0))
    go false f q ih = (f, ih q)

-- and those after them decide
pub unless_passed : {A : Type 0} (ts us : List Test) (a : A) → Each (λ (t : Test). t.applies ≡ false) ts → unless (ts ++ us) a ≡ unless us a
unless_passed [] us a h = refl
unless_passed (t ∷ ts) us a h = ap (λ (b : Bool). cond b (refused t.number) (unless (ts ++ us) a)) h.0 ∙ unless_passed ts us a h.1

pub form_fits : (c : Call) → first_of (form_tests c) ≡ 0 → FormFits c
form_fits c e = form_passes c (none_applies (form_tests c) (forms_positive c) e)

pub accept_number : (c : Call) (s : Session) → number_of (accept c s) ≡ first_of (call_tests c s)
accept_number c s = unless_number (call_tests c s) (accepted c s)

-- a result is taken where there is one of the label, else 32
same_label : (l : ℕ) (r : Result) (rs : List Result) → contains l (labels_of_results (r ∷ rs)) ≡ cond (eqb r.label l) true (contains l (labels_of_results rs))
same_label l r rs = go (eqb r.label l) refl
  where
    go : (b : Bool) → eqb r.label l ≡ b → (eqb l r.label || contains l (labels_of_results rs)) ≡ cond b true (contains l (labels_of_results rs))
    go true e = rw (eq-eqb l r.label (sym (eqb-true r.label l e)))
    go false e = rw (ne_eqb l r.label (λ (q : l ≡ r.label). eqb-false r.label l e (sym q)))

pub take_says : (l : ℕ) (rs : List Result) → Says (take_result l rs) (cond (contains l (labels_of_results rs)) 0 32) (contains l (labels_of_results rs))
take_says l [] = record { number = refl; done = refl }
take_says l (r ∷ rs) = rw (same_label l r rs) (go (eqb r.label l) (contains l (labels_of_results rs)) _ (says_map _ (take_says l rs)))
  where
    go : (b c : Bool) (a : Claimed) {x : Answer Claimed} → Says x (cond c 0 32) c → Says (cond b (done a) x) (cond (cond b true c) 0 32) (cond b true c)
    go true c a h = record { number = refl; done = refl }
    go false c a h = h

-- a claim is refused by the first of its tests that applies, else the result is taken
pub claim_tests_law : (l : ℕ) (s : Session) → claim l s ≡ and_then (unless (claim_tests l s) s.results) (take_result l)
claim_tests_law l s = go (leb 1 l && leb l s.last) (contains l (pending s)) (contains l (labels_of_results s.results)) (take_result l s.results) refl (take_says l s.results)
  where
    go : (a b c : Bool) (x : Answer Claimed) → take_result l s.results ≡ x → Says x (cond c 0 32) c →
        cond a (cond b (refused 31) x) (refused 30) ≡ and_then (cond (not a) (refused 30) (cond b (refused 31) (cond (not c) (refused 32) (done s.results)))) (take_result l)
    go false b c x e h = refl
    go true true c x e h = refl
    go true false true x e h = sym e
    go true false false (refused n) e h = ap refused h.number
    go true false false (done r) e h = absurd (true≢false h.done)

pub claim_number : (l : ℕ) (s : Session) → number_of (claim l s) ≡ first_of (claim_tests l s)
claim_number l s = go (leb 1 l && leb l s.last) (contains l (pending s)) (contains l (labels_of_results s.results)) (take_result l s.results) (take_says l s.results).number
  where
    go : (a b c : Bool) (x : Answer Claimed) → number_of x ≡ cond c 0 32 →
        number_of (cond a (cond b (refused 31) x) (refused 30)) ≡ cond (not a) 30 (cond b 31 (cond (not c) 32 0))
    go false b c x h = refl
    go true true c x h = refl
    go true false true x h = h
    go true false false x h = h

-- what is taken is the result that the label finds
pub take_found : (l : ℕ) (rs : List Result) → Holds (λ (c : Claimed). result_of_label l rs ≡ some c.result) (take_result l rs)
take_found l [] = refuses
take_found l (r ∷ rs) = go (eqb r.label l) (take_found l rs)
  where
    go : (b : Bool) {x : Answer Claimed} → Holds (λ (c : Claimed). result_of_label l rs ≡ some c.result) x →
        Holds (λ (c : Claimed). cond b (some r) (result_of_label l rs) ≡ some c.result) (cond b (done (record { result = r; others = rs })) (map_done (λ c. record { result = c.result; others = r ∷ c.others }) x))
    go true h = holds refl
    go false h = holds_map _ (λ c e. e) h
