-- A list of lines is a list of the session's own events: the lines that were refused leave no event.
-- Assumes nothing.
use mathlib.Core.Path.{◌≡◌, refl, sym, ap, subst, ◌∙◌}
use Prim.Native.Nat.{ℕ}
use mathlib.Core.List.{List, [], ◌∷◌, ◌++◌, append_assoc}
use Rattle.graph.specs.Calls.{Call}
use Rattle.graph.specs.Nodes.{Result}
use Rattle.graph.specs.Sessions.{Session}
use Rattle.graph.specs.Steps.{Step}
use Rattle.graph.specs.EventRuns.{Event, EventRun, event, events}
use Rattle.graph.specs.Valid.{Valid}
use Rattle.valid.specs.Values.{encode}
use Rattle.runs.specs.Runs.{Sent, call_sent, step_sent, claim_sent, Runs, after, accepted_lines, TextsOf, no_line, TakenBy, nothing_sent}
use Rattle.runs.proofs.OneLine.{Gave, no_claim, Labelled, Tallied, left, adding, OneLine, unmoved, call_line_law, step_line, claim_line_law}

pub record Reached (x : EventRun) (es : List Sent) : Type 0 where
  pub made : List Event
  pub now : Session
  pub calls : List Call
  pub steps : List Step
  pub gave : List Result
  pub moved : events made x ≡ adding x now calls steps gave
  pub image : after (encode x.now) es ≡ encode now
  -- the calls accepted
  pub texts : TextsOf (accepted_lines es) calls
  pub labels : Labelled x.now.last es
  -- the steps taken
  pub took : TakenBy (encode x.now) es steps
  pub tally : Tallied es steps
  -- the results claimed
  pub wrote : Gave es gave

nothing : (x : EventRun) → Reached x []
nothing x =
    record {
      made = [];
      now = x.now;
      calls = [];
      steps = [];
      gave = [];
      moved = unmoved x;
      image = refl;
      texts = no_line;
      labels = refl;
      took = nothing_sent;
      tally = λ t o. refl;
      wrote = no_claim;
    }

-- ONE LINE MORE
events_append : (gs hs : List Event) (x : EventRun) → events (gs ++ hs) x ≡ events hs (events gs x)
events_append [] hs x = refl
events_append (g ∷ gs) hs x = events_append gs hs (event g x)

after_left : (image : List ℕ) (e : Sent) (es : List Sent) → after image (e ∷ es) ≡ after (left e) es
after_left image (call_sent line r) es = refl
after_left image (step_sent line t r) es = refl
after_left image (claim_sent line out r) es = refl

after_line : (x : EventRun) (e : Sent) (es : List Sent) (o : OneLine x e) → Reached (adding x o.now o.calls o.steps o.gave) es → Reached x (e ∷ es)
after_line x e es o h =
    record {
      made = o.made ++ h.made;
      now = h.now;
      calls = o.calls ++ h.calls;
      steps = o.steps ++ h.steps;
      gave = o.gave ++ h.gave;
      moved =
          events_append o.made h.made x ∙ ap (events h.made) o.moved ∙ h.moved
          ∙ (λ i. record { now = h.now; accepted = append_assoc x.accepted o.calls h.calls i; claimed = append_assoc x.claimed o.gave h.gave i; taken = append_assoc x.taken o.steps h.steps i });
      image = after_left (encode x.now) e es ∙ ap (λ (b : List ℕ). after b es) o.image ∙ h.image;
      texts = o.adds.texts es h.texts;
      labels = o.adds.labels es (subst (λ (l : ℕ). Labelled l es) o.last h.labels);
      took = o.adds.took (subst (λ (b : List ℕ). TakenBy b es h.steps) (sym o.image) h.took);
      tally = o.adds.tally es h.steps h.tally;
      wrote = o.adds.wrote h.wrote;
    }

-- EVERY LINE
first_line_law : (x : EventRun) → Valid x.now → (e : Sent) (es : List Sent) → Runs (encode x.now) (e ∷ es) → OneLine x e × Runs (left e) es
first_line_law x v (call_sent line r) es h = (call_line_law x v h.0, h.1)
first_line_law x v (step_sent line t r) es h = (step_line x v h.0, h.1)
first_line_law x v (claim_sent line out r) es h = (claim_line_law x v h.0, h.1)

pub reached : (x : EventRun) → Valid x.now → (es : List Sent) → Runs (encode x.now) es → Reached x es
reached x v [] h = nothing x
reached x v (e ∷ es) h =
    let f = first_line_law x v e es h in
    after_line x e es f.0 (reached (adding x f.0.now f.0.calls f.0.steps f.0.gave) f.0.valid es (subst (λ (b : List ℕ). Runs b es) f.0.image f.1))
