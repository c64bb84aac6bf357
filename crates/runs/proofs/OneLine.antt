-- What one line adds to a run, and which of the session's own events it is: none where it is refused, else one.
-- Assumes nothing.
use mathlib.Core.Path.{◌≡◌, refl, sym, ap, ◌∙◌, subst}
use Prim.Native.Nat.{ℕ, suc, ◌≤◌}
use native.Mathlib.Omega.{arith}
use mathlib.Core.Bool.{Bool, true, false, not, cond}
use mathlib.Core.List.{List, [], ◌∷◌, ◌++◌, append-nil}
use lib.Dec.{leb}
use lib.IntN.{pos}
use lib.ListN.{length}
use Rattle.graph.specs.Refusals.{Answer, refused, done, and_then}
use Rattle.graph.specs.KeyLists.{are_keys}
use Rattle.graph.specs.Calls.{Call}
use Rattle.graph.specs.Nodes.{Result}
use Rattle.graph.specs.Sessions.{Session}
use Rattle.graph.specs.Steps.{Step}
use Rattle.graph.specs.Steps as graph
use Rattle.graph.specs.Acceptance.{accept, call_tests, accepted, Claimed, keeping}
use Rattle.graph.specs.Acceptance as acceptance
use Rattle.graph.specs.Drain.{drain}
use Rattle.graph.specs.EventRuns.{Event, calls, steps, drains, claims, EventRun, on_call, on_step, on_claim, event, events}
use Rattle.graph.specs.Valid.{Valid}
use Rattle.graph.proofs.Answers.{Holds, holds_at}
use Rattle.graph.proofs.Validity.{ValidClaim, step_valid, accept_valid, claim_valid, Fine, claim_fine}
use Rattle.graph.proofs.Drains.{done_holds, drain_drains}
use Rattle.lines.specs.Forms.{StepForm, work, drain_form, step_keys, IsCall, IsStep, IsClaim}
use Rattle.print.specs.Printed.{result_text}
use Rattle.panel.specs.declared.tally.Tally.{Tally}
use Rattle.panel.specs.Tally.{counted}
use Rattle.panel.proofs.TallyLaws.{counted_append}
use Rattle.valid.specs.Values.{encode}
use Rattle.host.specs.Entries.{Called, call_refused, call_served, Calls, Stepped, step_refused, step_served, step_made, Steps, ClaimMade, claim_refused, claim_written, claim_served, Claims}
use Rattle.graph.proofs.Sequences.{calls_positive}
use Rattle.host.proofs.Entering.{unless_done, unless_number}
use Rattle.host.proofs.Stepping.{step_refused_law as refusal-number}
use Rattle.runs.specs.Runs.{Sent, call_sent, step_sent, claim_sent, is_served, accepted_lines, labels_given, labels_from, TextsOf, a_line, Wrote, Took, one, several, TakenBy, after_call, after_claim, after_refusal, after_step, OneTally, last_tally}
use Rattle.runs.proofs.Entered.{own, entered, refused_served}

-- the results that the served claims of a list wrote, in order
pub data Gave : List Sent → List Result → Type 0 where
  no_claim : Gave [] []
  past_call : {line : List ℕ} {r : Called} {es : List Sent} {qs : List Result} → Gave es qs → Gave (call_sent line r ∷ es) qs
  past_step : {line : List ℕ} {t : Tally} {r : Stepped} {es : List Sent} {qs : List Result} → Gave es qs → Gave (step_sent line t r ∷ es) qs
  past_refusal : {line out : List ℕ} {r : ClaimMade} {es : List Sent} {qs : List Result} → is_served r.answer ≡ false → Gave es qs → Gave (claim_sent line out r ∷ es) qs
  past_claim : {line out : List ℕ} {r : ClaimMade} {es : List Sent} {q : Result} {qs : List Result} → IsClaim line q.label → Wrote out q r → Gave es qs → Gave (claim_sent line out r ∷ es) (q ∷ qs)

-- the calls accepted in a list were given the labels after l
abbrev pub Labelled : ℕ → List Sent → Type 0
Labelled l es = labels_given es ≡ labels_from (suc l) (length (accepted_lines es))

-- one tally lent to every step of a list has counted these steps
abbrev pub Tallied : List Sent → List Step → Type 0
Tallied es ts = (t : Tally) → OneTally t es → last_tally t es ≡ counted t ts

-- the image that a line left
abbrev pub left : Sent → List ℕ
left (call_sent line r) = r.image
left (step_sent line t r) = r.image
left (claim_sent line out r) = r.image

-- the last label given, after these calls
abbrev last_after : ℕ → List Call → ℕ
last_after l [] = l
last_after l (c ∷ cs) = last_after (suc l) cs

-- what a line sent to session s adds to what the lines es after it show: the calls cs, the steps us and the results qs
pub record Adds (s : Session) (e : Sent) (cs : List Call) (us : List Step) (qs : List Result) : Type 0 where
  pub texts : (es : List Sent) {ds : List Call} → TextsOf (accepted_lines es) ds → TextsOf (accepted_lines (e ∷ es)) (cs ++ ds)
  pub labels : (es : List Sent) → Labelled (last_after s.last cs) es → Labelled s.last (e ∷ es)
  pub took : {es : List Sent} {ts : List Step} → TakenBy (left e) es ts → TakenBy (encode s) (e ∷ es) (us ++ ts)
  pub tally : (es : List Sent) (ts : List Step) → Tallied es ts → Tallied (e ∷ es) (us ++ ts)
  pub wrote : {es : List Sent} {rs : List Result} → Gave es rs → Gave (e ∷ es) (qs ++ rs)

module _ {s : Session} {line : List ℕ} where
  call_refused_law : (n : ℕ) → 1 ≤ n → Adds s (call_sent line (call_refused (encode s) n)) [] [] []
  call_refused_law n m = record { texts = λ es h. rw (refused_served n m) h; labels = λ es h. rw (refused_served n m) h; took = after_call; tally = λ es ts h. h; wrote = past_call }

  call_accepted : {c : Call} (u : Session) → IsCall line c → u.last ≡ suc s.last → Adds s (call_sent line (call_served (encode s) (done u))) (c ∷ []) [] []
  call_accepted u i next = record { texts = λ es h. a_line i h; labels = λ es h j. pos (next j) ∷ h j; took = after_call; tally = λ es ts h. h; wrote = past_call }

  step_refused_law : {t : Tally} (n : ℕ) → 1 ≤ n → Adds s (step_sent line t (step_refused (encode s) t n)) [] [] []
  step_refused_law {t} n m = record { texts = λ es h. h; labels = λ es h. h; took = after_refusal (refused_served n m); tally = λ es ts h z o. h t o.1 ∙ ap (λ (y : Tally). counted y ts) o.0; wrote = past_step }

  step_served_law : {t : Tally} {us : List Step} (u : Session) → Took (encode s) line us → Adds s (step_sent line t (step_served (encode s) t us (done u))) [] us []
  step_served_law {t} {us} u took =
      record {
        texts = λ es h. h;
        labels = λ es h. h;
        took = after_step refl took;
        tally = λ es ts h z o. h (counted t us) o.1 ∙ sym (counted_append t us ts) ∙ ap (λ (y : Tally). counted y (us ++ ts)) o.0;
        wrote = past_step;
      }

  claim_refused_law : {out : List ℕ} (n : ℕ) → 1 ≤ n → Adds s (claim_sent line out (claim_refused (encode s) out n)) [] [] []
  claim_refused_law n m = record { texts = λ es h. h; labels = λ es h. h; took = after_claim; tally = λ es ts h. h; wrote = past_refusal (refused_served n m) }

  claim_served_law : {out : List ℕ} (c : Claimed) → IsClaim line c.result.label → Adds s (claim_sent line out (claim_written out s c)) [] [] (c.result ∷ [])
  claim_served_law c i = record { texts = λ es h. h; labels = λ es h. h; took = after_claim; tally = λ es ts h. h; wrote = past_claim i (record { answer = refl; output = refl }) }

-- the run x, led on to session u by what was added
abbrev pub adding : EventRun → Session → List Call → List Step → List Result → EventRun
adding x u cs us qs = record { now = u; accepted = x.accepted ++ cs; claimed = x.claimed ++ qs; taken = x.taken ++ us }

-- the session's own events that a line makes of the run x: none where it is refused, else one
pub record OneLine (x : EventRun) (e : Sent) : Type 0 where
  pub made : List Event
  pub now : Session
  pub calls : List Call
  pub steps : List Step
  pub gave : List Result
  pub moved : events made x ≡ adding x now calls steps gave
  pub adds : Adds x.now e calls steps gave
  pub last : now.last ≡ last_after x.now.last calls
  pub image : left e ≡ encode now
  pub valid : Valid now

no_more : {A : Type 0} (xs : List A) → xs ≡ xs ++ []
no_more xs = sym (append-nil xs)

pub unmoved : (x : EventRun) → x ≡ adding x x.now [] [] []
unmoved x = λ i. record { now = x.now; accepted = no_more x.accepted i; claimed = no_more x.claimed i; taken = no_more x.taken i }

module _ (x : EventRun) (v : Valid x.now) where
  abbrev s : Session
  s = x.now

  refuses : {e : Sent} → Adds s e [] [] [] → left e ≡ encode s → OneLine x e
  refuses a same = record { made = []; now = s; calls = []; steps = []; gave = []; moved = unmoved x; adds = a; last = refl; image = same; valid = v }

  -- CALLS
  pub call_line_law : {line : List ℕ} {r : Called} → Calls (encode s) line r → OneLine x (call_sent line r)
  call_line_law {line} h = entered s v (λ (r : Called). OneLine x (call_sent line r)) (refuses (call_refused_law 10 (omega arith)) refl) (λ c i. form c i (accept c s) refl) h
    where
      form : (c : Call) → IsCall line c → (a : Answer Session) → accept c s ≡ a → OneLine x (call_sent line (call_served (encode s) a))
      form c i (refused n) e = refuses (call_refused_law n (unless_number (call_tests c s) (accepted c s) (calls_positive c s) e)) refl
      form c i (done u) e =
          let next : u.last ≡ suc s.last = sym (ap (λ (y : Session). y.last) (unless_done (call_tests c s) (accepted c s) e).0) in
          record {
            made = calls c ∷ [];
            now = u;
            calls = c ∷ [];
            steps = [];
            gave = [];
            moved = ap (on_call c x) e ∙ (λ j. record { now = u; accepted = x.accepted ++ (c ∷ []); claimed = no_more x.claimed j; taken = no_more x.taken j });
            adds = call_accepted u i next;
            last = next;
            image = refl;
            valid = (done_holds e (accept_valid c s v)).valid;
          }

  -- STEPS
  pub step_line : {line : List ℕ} {t : Tally} {r : Stepped} → Steps (encode s) line t r → OneLine x (step_sent line t r)
  step_line {line} {t} h = entered s v (λ (r : Stepped). OneLine x (step_sent line t r)) (refuses (step_refused_law 10 (omega arith)) refl) form h
    where
      some : (g : Event) (us : List Step) (u : Session) → event g x ≡ record { now = u; accepted = x.accepted; claimed = x.claimed; taken = x.taken ++ us } → Took (encode s) line us → u.last ≡ s.last → Valid u → OneLine x (step_sent line t (step_served (encode s) t us (done u)))
      some g us u moved took last w =
          record {
            made = g ∷ [];
            now = u;
            calls = [];
            steps = us;
            gave = [];
            moved = moved ∙ (λ j. record { now = u; accepted = no_more x.accepted j; claimed = no_more x.claimed j; taken = x.taken ++ us });
            adds = step_served_law u took;
            last = last;
            image = refl;
            valid = w;
          }

      taken : (w : Step) → IsStep line (work w) → (a : Answer Session) → graph.step w s ≡ a → OneLine x (step_sent line t (step_served (encode s) t (w ∷ []) a))
      taken w i (refused n) e = refuses (step_refused_law n (refusal-number w s e)) refl
      taken w i (done u) e = let d = done_holds e (step_valid w s v) in some (steps w) (w ∷ []) u (ap (on_step w x) e) (one w i) d.last d.valid

      tested : (w : Step) → IsStep line (work w) → (b : Bool) → OneLine x (step_sent line t (step_served (encode s) t (w ∷ []) (and_then (cond b (refused 11) (done s)) (graph.step w))))
      tested w i true = refuses (step_refused_law 11 (omega arith)) refl
      tested w i false = taken w i (graph.step w s) refl

      form : (f : StepForm) → IsStep line f → OneLine x (step_sent line t (step_made (encode s) t s f))
      form (work w) i = tested w i (not (are_keys (step_keys (work w))))
      form drain_form i = let d = drain_drains s v in some drains (drain s).took (drain s).end refl (several s (own s v) i) d.last d.valid

  -- CLAIMS
  pub claim_line_law : {line out : List ℕ} {r : ClaimMade} → Claims (encode s) line out r → OneLine x (claim_sent line out r)
  claim_line_law {line} {out} h = entered s v (λ (r : ClaimMade). OneLine x (claim_sent line out r)) (refuses (claim_refused_law 10 (omega arith)) refl) (λ l i. form l i (acceptance.claim l s) refl) h
    where
      room : (l : ℕ) (c : Claimed) → IsClaim line l → acceptance.claim l s ≡ done c → (b : Bool) → OneLine x (claim_sent line out (cond b (claim_written out s c) (claim_refused (encode s) out 33)))
      room l c i e true =
          record {
            made = claims l ∷ [];
            now = keeping s c.others;
            calls = [];
            steps = [];
            gave = c.result ∷ [];
            moved = ap (on_claim x) e ∙ (λ j. record { now = keeping s c.others; accepted = no_more x.accepted j; claimed = x.claimed ++ (c.result ∷ []); taken = no_more x.taken j });
            adds = claim_served_law c (subst (IsClaim line) (sym (subst (Fine l s) e (claim_fine l s v)).0) i);
            last = refl;
            image = refl;
            valid = (holds_at (subst (λ (a : Answer Claimed). Holds (ValidClaim s) a) e (claim_valid l s v))).valid;
          }
      room l c i e false = refuses (claim_refused_law 33 (omega arith)) refl

      form : (l : ℕ) → IsClaim line l → (a : Answer Claimed) → acceptance.claim l s ≡ a → OneLine x (claim_sent line out (claim_served (encode s) out s a))
      form l i (refused n) e = refuses (claim_refused_law n (subst (Fine l s) e (claim_fine l s v)).0) refl
      form l i (done c) e = room l c i e (leb (length (result_text c.result)) (length out))
