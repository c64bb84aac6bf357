-- Demand 3 of lines and images: one theorem, from the session's own.
-- Assumes nothing.
use mathlib.Core.Path.{◌≡◌, refl, sym, ap, subst, ◌∙◌}
use Prim.Native.Nat.{ℕ, suc, ◌≤◌}
use native.Mathlib.Omega.{arith}
use mathlib.Core.Bool.{Bool, true, false, ◌||◌, true≢false}
use mathlib.Core.List.{List, [], ◌∷◌, ◌++◌, append_assoc}
use mathlib.Core.Option.{Option, none, some}
use lib.IntN.{pos}
use lib.ListN.{length}
use borrow.Author.Tests.{eq-eqb}
use Rattle.graph.specs.Refusals.{Answer, refused, done}
use Rattle.graph.specs.KeyLists.{contains}
use Rattle.graph.specs.Calls.{Call}
use Rattle.graph.specs.Nodes.{Result}
use Rattle.graph.specs.OneAtATime.{one_at_a_time}
use Rattle.graph.specs.Sessions.{Session, pending, labels_of_results}
use Rattle.graph.specs.Steps as graph
use Rattle.graph.specs.Drain.{Drained, drain}
use Rattle.graph.specs.EventRuns.{EventRun, start}
use Rattle.graph.specs.Counts.{result_of_label, of_kind, quoted_steps, quoted}
use Rattle.graph.specs.EventRuns as GraphRuns
use Rattle.graph.specs.Valid.{Each, Given, Valid}
use Rattle.graph.proofs.Answers.{is_done, by_bool}
use Rattle.graph.proofs.Effects.{costs}
use Rattle.graph.proofs.Verdicts.{step_done}
use Rattle.graph.proofs.Validity.{valid_fresh}
use Rattle.graph.proofs.Drains.{work_cons, drain_drains, drain_idle, drain_works}
use Rattle.graph.proofs.Demand3 as sessions
use Rattle.text.specs.Text.{ascii}
use Rattle.lines.specs.Forms.{work, drain_form, step_text, IsStep, IsClaim}
use Rattle.panel.specs.declared.tally.Tally.{Tally}
use Rattle.panel.specs.Tally.{up_by, each, counted, zeros}
use Rattle.panel.proofs.TallyLaws.{counted_kinds, up_from_zero}
use Rattle.valid.specs.Values.{encode}
use Rattle.host.specs.Entries.{ImageOf, served, Stepped, step_served, step_made, Steps}
use Rattle.runs.specs.Runs.{Sent, claim_sent, Runs, opening, after, accepted_lines, TextsOf, no_line, a_line, Pending, Wrote, ClaimedIn, here, there, WouldWrite, OneTally, last_tally}
use Rattle.runs.specs.Demand.{ResultOf, claimed, unclaimed, HasResult, ClaimsMeant, Progress, StepLines, NonePending, Cleared, Demand3, PendingOrResult, is_pending, has_result}
use Rattle.host.proofs.Determined.{step_once}
use Rattle.runs.proofs.Entered.{own}
use Rattle.graph.proofs.Found.{none_some, Where, first_of, later, where_found, or_that, find_append}
use Rattle.runs.proofs.OneLine.{Gave, no_claim, past_call, past_step, past_refusal, past_claim, adding}
use Rattle.runs.proofs.Reached.{Reached, reached}
use Rattle.runs.proofs.Seen.{line_taken, all_lines, pending_seen, pending_only, would_write}

texts_length : {lines : List (List ℕ)} {cs : List Call} → TextsOf lines cs → length lines ≡ length cs
texts_length no_line = refl
texts_length (a_line i h) = ap suc (texts_length h)

-- RESULTS
pub data InEither (l : ℕ) (q : Result) (xs ys : List Result) : Type 0 where
  first : result_of_label l xs ≡ some q → InEither l q xs ys
  second : result_of_label l ys ≡ some q → InEither l q xs ys

pub find_either : (l : ℕ) (q : Result) (xs ys : List Result) → result_of_label l (xs ++ ys) ≡ some q → InEither l q xs ys
find_either l q xs ys e = go (result_of_label l xs) refl (sym (find_append l xs ys) ∙ e)
  where
    go : (p : Option Result) → result_of_label l xs ≡ p → or_that p (result_of_label l ys) ≡ some q → InEither l q xs ys
    go none f e = second e
    go (some r) f e = first (f ∙ e)

-- what was claimed was written
pub gave_claimed : (l : ℕ) (q : Result) {es : List Sent} {qs : List Result} → Gave es qs → result_of_label l qs ≡ some q → ClaimedIn l q es
gave_claimed l q no_claim e = absurd (none_some e)
gave_claimed l q (past_call h) e = there (gave_claimed l q h e)
gave_claimed l q (past_step h) e = there (gave_claimed l q h e)
gave_claimed l q (past_refusal n h) e = there (gave_claimed l q h e)
gave_claimed l q (past_claim {line} {out} {r} {es} {q = p} {qs} i w h) e = go (where_found l q p qs e) (gave_claimed l q h)
  where
    go : Where l q p qs → (result_of_label l qs ≡ some q → ClaimedIn l q es) → ClaimedIn l q (claim_sent line out r ∷ es)
    go (first_of d s) g = here (subst (IsClaim line) d i) (subst (λ (x : Result). Wrote out x r) s w)
    go (later n s) g = there (g s)

module _ (meant : List Result) (all : List Result) (right : (pre post : List Result) (r : Result) → all ≡ pre ++ (r ∷ post) → result_of_label r.label meant ≡ some r) where
  gave_meant : (pre : List Result) {es : List Sent} {qs : List Result} → Gave es qs → all ≡ pre ++ qs → ClaimsMeant meant es
  gave_meant pre no_claim e = tt
  gave_meant pre (past_call h) e = gave_meant pre h e
  gave_meant pre (past_step h) e = gave_meant pre h e
  gave_meant pre (past_refusal n h) e = (λ y. absurd (true≢false (sym y ∙ n)), gave_meant pre h e)
  gave_meant pre (past_claim {line} {out} {r} {es} {q} {qs} i w h) e =
      (λ y. record { label = q.label; text = i; result = q; same = right pre qs q e; wrote = w }, gave_meant (pre ++ (q ∷ [])) h (e ∙ sym (append_assoc pre (q ∷ []) qs)))

-- ONE STEP THAT IS ALLOWED
done_of : (x : Answer Session) → is_done x ≡ true → (B : Type 0) → ((u : Session) → x ≡ done u → B) → B
done_of (refused n) e B f = absurd (true≢false (sym e))
done_of (done u) e B f = f u refl

-- where a call is not pending it has its result
pub result_of : {es : List Sent} {meant : List Result} {l : ℕ} → PendingOrResult es meant l → (Pending (after opening es) l → ⊥) → HasResult es meant l
result_of (is_pending p) n = absurd (n p)
result_of (has_result n r) m = r

-- ONE THEOREM
module _ (es : List Sent) (h : Runs opening es) where
  abbrev pub to : Reached start es
  to = reached start valid_fresh es h

  abbrev pub x : EventRun
  x = adding start to.now to.calls to.steps to.gave

  abbrev pub s : Session
  s = x.now

  pub d : GraphRuns.SessionDemand3 x
  d = subst GraphRuns.SessionDemand3 to.moved (sessions.demand3 to.made)

  pub v : Valid s
  v = d.valid

  pub size : s.last ≡ length (accepted_lines es)
  size = d.labels ∙ sym (texts_length to.texts)

  pub image : after opening es ≡ encode s
  image = to.image

  waits : (l : ℕ) → 1 ≤ l → l ≤ length (accepted_lines es) → contains l (pending s) ≡ true → Pending (after opening es) l
  waits l a b c = subst (λ (i : List ℕ). Pending i l) (sym image) (pending_seen s v l a (omega (arith, size)) c)

  waiting : (l : ℕ) → Pending (after opening es) l → contains l (pending s) ≡ true
  waiting l p = pending_only s v l (subst (λ (i : List ℕ). Pending i l) image p)

  result : (l : ℕ) → 1 ≤ l → l ≤ length (accepted_lines es) → contains l (pending s) ≡ false → HasResult es (one_at_a_time to.calls).results l
  result l a b c =
      let b' : l ≤ length x.accepted = omega (arith, d.labels, size) in
      let r = d.results l a b' c in
      record {
        result = r.result;
        given = go r.result (find_either l r.result x.claimed s.results r.here);
        same = r.there;
      }
    where
      go : (q : Result) → InEither l q x.claimed s.results → ResultOf es l q
      go q (first e) = claimed (gave_claimed l q to.wrote e)
      go q (second e) = unclaimed (λ out room. subst (λ (i : List ℕ). WouldWrite i out l q) (sym image) (would_write s v l a (omega (arith, size)) c q e out room))

  pub no_more : NonePending es → pending s ≡ []
  no_more np = go (pending s) refl
    where
      go : (ps : List ℕ) → pending s ≡ ps → pending s ≡ []
      go [] e = e
      go (p ∷ ps) e =
          let g : Given s.last p = (subst (λ (ls : List ℕ). Each (Given s.last) (ls ++ labels_of_results s.results)) e v.given).0 in
          let c : contains p (pending s) ≡ true = ap (contains p) e ∙ ap (λ (b : Bool). b || contains p ps) (eq-eqb p p refl) in
          absurd (np p g.0 (omega (arith, g.1, size)) (waits p g.0 (omega (arith, g.1, size)) c))

  onward : (l : ℕ) → Pending (after opening es) l → Progress (after opening es)
  onward l p =
      let g = d.progress l (waiting l p) in
      let cost : costs g.what ≡ 1 = omega (arith, g.work, work_cons g.what []) in
      done_of (graph.step g.what s) (step_done g.what s ∙ g.fine) (Progress (after opening es)) (λ u e.
      record {
        what = g.what;
        kind = g.work;
        allowed = λ t.
            record {
              gives = record { answer = pos 0; image = encode u; tally = counted t (g.what ∷ []) };
              stepped = subst (λ (i : List ℕ). Steps i (step_text (work g.what)) t (record { answer = pos 0; image = encode u; tally = counted t (g.what ∷ []) })) (sym image) (line_taken s v g.what cost u e t);
              zero = refl;
            };
      })

  bounded : quoted_steps to.steps ≤ quoted to.calls
  bounded = d.bound

  tallied : OneTally zeros es → last_tally zeros es ≡ each (λ k c. up_by c (of_kind k to.steps)) zeros
  tallied o = to.tally zeros o ∙ counted_kinds zeros to.steps refl

  small : quoted_steps to.steps ≤ 8454015
  small = omega (arith, bounded, sessions.quoted_most to.calls, d.labels, v.labels)

  one_by_one_law : StepLines (encode (drain s).end) (after opening es) (drain s).took
  one_by_one_law =
      subst (λ (b : List ℕ). StepLines (encode (drain s).end) b (drain s).took) (sym image)
      (all_lines (drain s).took s (drain s).end v (drain_works s) (drain_drains s v).steps)

  drain_line : IsStep (step_text drain_form) drain_form
  unfolding ascii
  drain_line = record { short = omega arith; fits = refl; same = refl }

  drain_made : (t : Tally) (r : Stepped) → Steps (after opening es) (step_text drain_form) t r → r ≡ step_made (encode s) t s drain_form
  drain_made t r k = step_once (subst (λ (i : List ℕ). Steps i (step_text drain_form) t r) image k) (served s (own s v) drain_form drain_line refl)

  clears : (t : Tally) (r : Stepped) → Steps (after opening es) (step_text drain_form) t r → Cleared r
  clears t r k =
      subst Cleared (sym (drain_made t r k))
      (record {
        answer = refl;
        none = λ l p. true≢false (sym (pending_only (drain s).end (drain_drains s v).valid l p) ∙ ap (contains l) d.cleared);
      })

  idles : NonePending es → (t : Tally) (r : Stepped) → Steps (after opening es) (step_text drain_form) t r → r ≡ record { answer = pos 0; image = after opening es; tally = t }
  idles np t r k =
      drain_made t r k
      ∙ ap (λ (q : Drained). step_served (encode s) t q.took (done q.end)) (drain_idle s v (no_more np))
      ∙ (λ i. record { answer = pos 0; image = sym image i; tally = t })

  pub holding : ImageOf (after opening es) s
  holding = subst (λ (i : List ℕ). ImageOf i s) (sym image) (own s v)

  pub demand3 : Demand3 es
  demand3 =
      record {
        session = s;
        holds = holding;
        calls = to.calls;
        texts = to.texts;
        labels = to.labels;
        few = omega (arith, size, v.labels);
        results = λ l a b. by_bool (contains l (pending s)) (λ c. is_pending (waits l a b c)) (λ c. has_result (λ p. true≢false (sym (waiting l p) ∙ c)) (result l a b c));
        claims = gave_meant (one_at_a_time to.calls).results to.gave d.claims [] to.wrote refl;
        graph = λ np. record { session = s; holds = holding; graph = d.graph (no_more np) };
        progress = onward;
        steps = to.steps;
        taken = to.took;
        bound = bounded;
        below = small;
        tally = λ o. (
          ap (λ (t : Tally). t.admit) (tallied o) ∙ up_from_zero (of_kind 0 to.steps) (omega (arith, small)),
          ap (λ (t : Tally). t.realise) (tallied o) ∙ up_from_zero (of_kind 1 to.steps) (omega (arith, small)),
          ap (λ (t : Tally). t.move_on) (tallied o) ∙ up_from_zero (of_kind 2 to.steps) (omega (arith, small)),
          ap (λ (t : Tally). t.finish) (tallied o) ∙ up_from_zero (of_kind 3 to.steps) (omega (arith, small)),
        );
        one_by_one = one_by_one_law;
        cleared = clears;
        idle = idles;
      }
