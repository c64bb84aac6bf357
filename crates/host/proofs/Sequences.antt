-- Each entry's answer is the first of its tests that applies. Here each sequence of tests rises, but for 40 (S-6), so that no test that
-- applies precedes the answer: it has the lowest number of those that do, or is 40.
-- Assumes nothing.
use mathlib.Core.Path.{◌≡◌, refl, sym, ap, subst, ◌∙◌}
use Prim.Native.Nat.{ℕ, zero, suc}
use mathlib.Core.Bool.{Bool, true, false, cond, not, ◌&&◌, true≢false}
use mathlib.Core.List.{List, [], ◌∷◌}
use mathlib.Core.Option.{Option, some}
use lib.Dec.{leb}
use lib.ListN.{length}
use Rattle.graph.specs.Refusals.{Answer, refused, done, and_then, unless}
use Rattle.graph.specs.RefusalOrder.{number_of, first_of, rises_from, Foremost, Lowest}
use Rattle.graph.specs.KeyLists.{contains, are_keys}
use Rattle.graph.specs.Nodes.{Result}
use Rattle.graph.specs.Sessions.{Session, labels_of_results, pending}
use Rattle.graph.specs.Steps.{Step, step}
use Rattle.graph.specs.Allowed.{step_tests}
use Rattle.graph.specs.Acceptance.{accept, Claimed, take_result}
use Rattle.graph.specs.Counts.{result_of_label}
use Rattle.graph.proofs.Answers.{Holds, holds}
use Rattle.graph.proofs.Verdicts.{Says, step_number}
use Rattle.graph.proofs.Sequences.{first_foremost, foremost_lowest, calls_rise, steps_rise, accept_number, take_says, take_found}
use Rattle.lines.specs.Forms.{work, drain_form, step_keys, step_form_tests}
use Rattle.text.specs.Text.{pasted}
use Rattle.print.specs.Printed.{result_text}
use Rattle.panel.specs.declared.tally.Tally.{Tally}
use Rattle.panel.specs.Returned.{refusal_in}
use Rattle.panel.specs.Returned as panel
use Rattle.listing.specs.Listed.{listing_of}
use Rattle.host.specs.Entries.{call_served, step_served, claim_refused, claim_written, claim_served, list_refused}
use Rattle.host.specs.Sequences.{Asked, calling, stepping, claiming, listing, is_short, tests_of, number_before, answer_to}

refusal_back : (n : ℕ) → refusal_in (panel.answer_number (refused n)) ≡ n
refusal_back zero = refl
refusal_back (suc n) = refl

-- CALLS
call_refusal : (image : List ℕ) (x : Answer Session) → refusal_in (call_served image x).answer ≡ number_of x
call_refusal image (refused n) = refusal_back n
call_refusal image (done s) = refl

-- STEPS
step_refusal : (image : List ℕ) (t : Tally) (took : List Step) (x : Answer Session) → refusal_in (step_served image t took x).answer ≡ number_of x
step_refusal image t took (refused n) = refusal_back n
step_refusal image t took (done s) = refl

work_first : (w : Step) (t : Tally) (s : Session) → number_of (and_then (unless (step_form_tests (work w)) s) (step w)) ≡ first_of (tests_of (stepping (work w) t) s)
work_first w t s = go (not (are_keys (step_keys (work w))))
  where
    go : (b : Bool) → number_of (and_then (cond b (refused 11) (done s)) (step w)) ≡ cond b 11 (first_of (step_tests w s))
    go true = refl
    go false = step_number w s

-- CLAIMS: 33 where the result is there and its line does not fit
room_refusal : (image out : List ℕ) (s : Session) (c : Claimed) → refusal_in (claim_served image out s (done c)).answer ≡ cond (is_short out (some c.result)) 33 0
room_refusal image out s c = go (leb (length (result_text c.result)) (length out))
  where
    go : (b : Bool) → refusal_in (cond b (claim_written out s c) (claim_refused image out 33)).answer ≡ cond (not b) 33 0
    go true = refl
    go false = refl

claim_first : (image out : List ℕ) (s : Session) (l : ℕ) → refusal_in (answer_to (claiming l out) image s) ≡ first_of (tests_of (claiming l out) s)
claim_first image out s l =
    go (leb 1 l && leb l s.last) (contains l (pending s)) (contains l (labels_of_results s.results)) (take_result l s.results) (take_says l s.results) (take_found l s.results)
  where
    go : (a b c : Bool) (x : Answer Claimed) → Says x (cond c 0 32) c → Holds (λ (k : Claimed). result_of_label l s.results ≡ some k.result) x →
        refusal_in (claim_served image out s (cond a (cond b (refused 31) x) (refused 30))).answer ≡ cond (not a) 30 (cond b 31 (cond (not c) 32 (cond (is_short out (result_of_label l s.results)) 33 0)))
    go false b c x h f = refl
    go true true c x h f = refl
    go true false true (refused n) h f = absurd (true≢false (sym h.done))
    go true false true (done k) h (holds f) = room_refusal image out s k ∙ ap (λ (r : Option Result). cond (is_short out r) 33 0) (sym f)
    go true false false (refused n) h f = refusal_back n ∙ h.number
    go true false false (done k) h f = absurd (true≢false h.done)

-- THE LISTING
list_first : (image out : List ℕ) (s : Session) → refusal_in (answer_to (listing out) image s) ≡ first_of (tests_of (listing out) s)
list_first image out s = go (leb (length (listing_of s)) (length out))
  where
    go : (b : Bool) → refusal_in (cond b (record { answer = panel.answer_number (done (length (listing_of s))); output = pasted out 0 (listing_of s) }) (list_refused out 33)).answer ≡ cond (not b) 33 0
    go true = refl
    go false = refl

-- THE FIRST TEST THAT APPLIES ANSWERS
pub first_answers : (a : Asked) (image : List ℕ) (s : Session) → refusal_in (answer_to a image s) ≡ first_of (tests_of a s)
first_answers (calling f) image s = call_refusal image (accept f s) ∙ accept_number f s
first_answers (stepping (work w) t) image s = step_refusal image t (w ∷ []) (and_then (unless (step_form_tests (work w)) s) (step w)) ∙ work_first w t s
first_answers (stepping drain_form t) image s = refl
first_answers (claiming l out) image s = claim_first image out s l
first_answers (listing out) image s = list_first image out s

-- EACH SEQUENCE RISES
pub sequence_rises : (a : Asked) (s : Session) → rises_from (number_before a) (tests_of a s) ≡ true
sequence_rises (calling f) s = calls_rise f s
sequence_rises (stepping (work w) t) s = steps_rise w s
sequence_rises (stepping drain_form t) s = refl
sequence_rises (claiming l out) s = refl
sequence_rises (listing out) s = refl

-- so that no test that applies precedes the answer
pub foremost_answers : (a : Asked) (image : List ℕ) (s : Session) → Foremost (refusal_in (answer_to a image s)) (tests_of a s)
foremost_answers a image s = subst (λ (n : ℕ). Foremost n (tests_of a s)) (sym (first_answers a image s)) (first_foremost (number_before a) (tests_of a s) (sequence_rises a s))

-- which, but for 40, is the lowest number of those that apply
pub lowest_answers : (a : Asked) (image : List ℕ) (s : Session) → (refusal_in (answer_to a image s) ≡ 40 → ⊥) → Lowest (refusal_in (answer_to a image s)) (tests_of a s)
lowest_answers a image s d = foremost_lowest (refusal_in (answer_to a image s)) (tests_of a s) d (foremost_answers a image s)
