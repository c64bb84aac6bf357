-- A step line: refused in reading, or the step that the session is asked to take; and what the tally counts.
-- Assumes nothing.
use mathlib.Core.Path.{◌≡◌, refl, sym, ap, ◌∙◌}
use Prim.Native.Nat.{ℕ, ◌≤◌}
use native.Mathlib.Omega.{arith}
use mathlib.Core.Bool.{Bool, true, false, not, cond, true≢false}
use mathlib.Core.List.{List, [], ◌∷◌}
use lib.Dec.{leb}
use lib.IntN.{ℤ}
use lib.ListN.{length}
use Rattle.graph.specs.KeyLists.{is_nil, are_keys}
use Rattle.graph.specs.Refusals.{Answer, refused, done, and_then, unless}
use Rattle.graph.specs.RefusalOrder.{number_of, first_of}
use Rattle.graph.specs.Sessions.{Session}
use Rattle.graph.specs.Steps.{Step, admit, realise, move, finish, join, split, swap, fuse, from_unit, step}
use Rattle.graph.specs.Drain.{drain}
use Rattle.graph.specs.Counts.{tally_place}
use Rattle.graph.proofs.Answers.{is_done}
use Rattle.graph.specs.Allowed.{from_key, units_of, allowed, tests, step_tests}
use Rattle.graph.proofs.Verdicts.{step_number, step_done}
use Rattle.graph.proofs.Drains.{drain_works}
use Rattle.lines.specs.Forms.{StepForm, work, drain_form, step_keys, step_form_tests, IsStep}
use Rattle.lines.specs.declared.step.StepRequest.TheVariants.{Work, Drain as LineDrain}
use Rattle.std.specs.Prelude.{Result, Ok, Err}
use Rattle.graph.specs.Refused.{refusal_number}
use Rattle.graph.specs.declared.refusal.Refusal.{Refusal}
use Rattle.calls.proofs.Refusing.{refusal_some}
use Rattle.lines.specs.declared.step.WorkStep.{WorkStep}
use Rattle.lines.specs.Inner.Answers.{step_named, StepRead}
use Rattle.panel.specs.declared.tally.Tally.{Tally}
use Rattle.panel.specs.Returned.{answer_number, returned_number}
use Rattle.panel.specs.Tally.{raised, counted}
use Rattle.valid.specs.Inner.Decoded.{session_of}
use Rattle.state.specs.Inner.ValidImage.{image_after, Serves}
use Rattle.session.specs.declared.drain.Counts.{Counts}
use Rattle.session.specs.Inner.Drained.{Drains}
use Rattle.host.specs.declared.step.LineTaken.{LineTaken}
use Rattle.host.specs.declared.step.LineTaken.TheVariants.{One, Drain}
use Rattle.host.specs.Entries.{ImageOf, served, step_refused, step_served, step_made, Steps}
use Rattle.host.specs.Inner.Taking.{taken_answer, Takes}
use Rattle.host.proofs.Entering.{unless_refused}
use Rattle.host.proofs.Reading.{refused_by_tests, passed}

-- what the form's own test refuses is not taken
form_refused : (image : List ℕ) (t : Tally) (s : Session) (f : StepForm) (n : ℕ) → unless (step_form_tests f) f ≡ refused n → step_made image t s f ≡ step_refused image t n
form_refused image t s (work w) n q = ap (λ (x : Answer Session). step_served image t (w ∷ []) (and_then x (step w))) (unless_refused (step_form_tests (work w)) [] (work w) s q)
form_refused image t s drain_form n q = absurd (true≢false (ap is_done q))

three : (a b c : Bool) → c ≡ false → 1 ≤ cond a 20 (cond b 21 (cond (not c) 22 0))
three true b c e = omega arith
three false true c e = omega arith
three false false true e = absurd (true≢false e)
three false false false e = omega arith

-- a refused step has the number of a test that applies, so never 0
some_of : (k i needed : ℕ) (t : Step) (s : Session) → allowed t s ≡ false → 1 ≤ first_of (tests k i needed t s)
some_of k i needed t s e = three (is_nil (from_key k s.stations)) (not (leb needed (length (from_unit i (units_of (from_key k s.stations)))))) (allowed t s) e

some_test : (w : Step) (s : Session) → allowed w s ≡ false → 1 ≤ first_of (step_tests w s)
some_test admit s e = one (is_nil s.top_stream) e
  where
    one : (b : Bool) → not b ≡ false → 1 ≤ cond b 21 0
    one true e = omega arith
    one false e = absurd (true≢false e)
some_test (realise k) s e = some_of k 1 1 (realise k) s e
some_test (move k) s e = some_of k 1 1 (move k) s e
some_test (finish k) s e = some_of k 1 1 (finish k) s e
some_test (join k i) s e = some_of k i 2 (join k i) s e
some_test (split k i j) s e = some_of k i 1 (split k i j) s e
some_test (swap k i) s e = some_of k i 2 (swap k i) s e
some_test (fuse k i) s e = some_of k i 2 (fuse k i) s e

pub step_refused_law : (w : Step) (s : Session) {n : ℕ} → step w s ≡ refused n → 1 ≤ n
step_refused_law w s {n} e =
    let same : n ≡ first_of (step_tests w s) = sym (ap number_of e) ∙ step_number w s in
    omega (arith, some_test w s (sym (step_done w s) ∙ ap is_done e))

-- what a line took, by what it was read as
module _ (image line : List ℕ) (h : ImageOf image (session_of image)) where
  pub line_refused : (r : Refusal) → StepRead line (Err r) → Takes image line (Err r) image
  line_refused r k t = refused_by_tests step_form_tests (IsStep line) h (form_refused image t (session_of image)) (refusal_number r) k

  pub line_drained : (after : List ℕ) (n : Counts) → StepRead line (Ok LineDrain) → Drains image after n → Takes image line (Ok (Drain n)) after
  line_drained after n k d =
      let s : Session = session_of image in (
        (drain s).took,
        record { counts = d.counts; works = drain_works s },
        λ t. served s h drain_form (passed step_form_tests (IsStep line) drain_form k).text (λ i. record { answer = answer_number (done 0); image = d.image i; tally = counted t (drain s).took }),
      )

  module _ (after : List ℕ) (v : WorkStep) (n : ℕ) (k : StepRead line (Ok (Work v))) (s : Serves (step (step_named v) (session_of image)) image after n) where
    abbrev w : Step
    w = step_named v

    formed : unless (step_form_tests (work w)) (session_of image) ≡ done (session_of image)
    formed = go (are_keys (step_keys (work w))) (passed step_form_tests (IsStep line) (work w) k).fine
      where
        go : (b : Bool) → ◌≡◌ {A = ℕ} (cond (not b) 11 0) 0 → cond (not b) (refused 11) (done (session_of image)) ≡ done (session_of image)
        go true e = refl
        go false e = absurd (omega arith)

    serve : (t u : Tally) (z : ℤ) → record { answer = z; image = after; tally = u } ≡ step_served image t (w ∷ []) (step w (session_of image)) → Steps image line t (record { answer = z; image = after; tally = u })
    serve t u z e = served (session_of image) h (work w) (passed step_form_tests (IsStep line) (work w) k).text (e ∙ sym (ap (λ (x : Answer Session). step_served image t (w ∷ []) (and_then x (step w))) formed))

    pub line_not_taken : (r : Refusal) → refusal_number r ≡ n → Takes image line (Err r) after
    line_not_taken r q t = serve t t (answer_number (refused (refusal_number r))) (go (step w (session_of image)) s.number s.image)
      where
        go : (x : Answer Session) → n ≡ number_of x → after ≡ image_after x image → record { answer = answer_number (refused (refusal_number r)); image = after; tally = t } ≡ step_served image t (w ∷ []) x
        go (refused m) e y = λ i. record { answer = answer_number (refused ((q ∙ e) i)); image = y i; tally = t }
        go (done u) e y = absurd (refusal_some r (q ∙ e))

    pub line_taken : (place : ℕ) → n ≡ 0 → place ≡ tally_place w → Takes image line (Ok (One place)) after
    line_taken place o p t = serve t (raised t place 1) (answer_number (done 0)) (go (step w (session_of image)) refl s.number s.image)
      where
        go : (x : Answer Session) → step w (session_of image) ≡ x → n ≡ number_of x → after ≡ image_after x image → record { answer = answer_number (done 0); image = after; tally = raised t place 1 } ≡ step_served image t (w ∷ []) x
        go (refused m) d e y = absurd (omega (arith, step_refused_law w (session_of image) d))
        go (done u) d e y = λ i. record { answer = answer_number (done 0); image = y i; tally = raised t (p i) 1 }

-- whatever tally is lent, some tally is left
pub takes_steps : {image line after : List ℕ} (r : Result LineTaken Refusal) → Takes image line r after → (t : Tally) → (u : Tally) × Steps image line t (record { answer = returned_number (taken_answer r); image = after; tally = u })
takes_steps (Err r) k t = (t, k t)
takes_steps (Ok (One place)) k t = (raised t place 1, k t)
takes_steps (Ok (Drain c)) k t = (counted t k.0, k.2 t)
