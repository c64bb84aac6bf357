-- DEMAND 1: "a refusal changes no byte", of every function of the host.
-- Assumes nothing.
use mathlib.Core.Path.{◌≡◌, refl, sym, ◌∙◌}
use Prim.Native.Nat.{ℕ}
use mathlib.Core.Bool.{Bool, true, false, cond, true≢false}
use mathlib.Core.List.{List, [], ◌∷◌}
use lib.Dec.{leb}
use lib.ListN.{length}
use Rattle.graph.specs.Refusals.{Answer, refused, done, and_then, unless}
use Rattle.graph.specs.Sessions.{Session}
use Rattle.graph.specs.Steps.{Step, step}
use Rattle.graph.specs.Acceptance.{accept, Claimed, claim}
use Rattle.lines.specs.Forms.{StepForm, work, drain_form, step_form_tests}
use Rattle.panel.specs.declared.tally.Tally.{Tally}
use Rattle.print.specs.Printed.{result_text}
use Rattle.listing.specs.Listed.{listing_of}
use Rattle.host.specs.Entries.{Called, call_served, Calls, Stepped, step_served, step_made, Steps, ClaimMade, claim_refused, claim_served, Claims, Listed, list_refused, Lists}
use Rattle.host.proofs.Determined.{each_case}
use Rattle.runs.specs.Runs.{is_served}

pub call_leaves : {image line : List ℕ} {r : Called} → Calls image line r → is_served r.answer ≡ false → r.image ≡ image
call_leaves {image} {line} h = each_case (λ (r : Called). is_served r.answer ≡ false → r.image ≡ image) (λ n e. refl) (λ s f. made (accept f s)) h
  where
    made : (x : Answer Session) → is_served (call_served image x).answer ≡ false → (call_served image x).image ≡ image
    made (refused n) e = refl
    made (done s) e = absurd (true≢false e)

pub record StepLeaves (image : List ℕ) (t : Tally) (r : Stepped) : Type 0 where
  pub same : r.image ≡ image
  pub counts : r.tally ≡ t

pub step_leaves : {image line : List ℕ} {t : Tally} {r : Stepped} → Steps image line t r → is_served r.answer ≡ false → StepLeaves image t r
step_leaves {image} {line} {t} h = each_case (λ (r : Stepped). is_served r.answer ≡ false → StepLeaves image t r) (λ n e. record { same = refl; counts = refl }) made h
  where
    taken : (ts : List Step) (x : Answer Session) → is_served (step_served image t ts x).answer ≡ false → StepLeaves image t (step_served image t ts x)
    taken ts (refused n) e = record { same = refl; counts = refl }
    taken ts (done s) e = absurd (true≢false e)

    made : (s : Session) (f : StepForm) → is_served (step_made image t s f).answer ≡ false → StepLeaves image t (step_made image t s f)
    made s (work w) e = taken (w ∷ []) (and_then (unless (step_form_tests (work w)) s) (step w)) e
    made s drain_form e = absurd (true≢false e)

pub record ClaimLeaves (image out : List ℕ) (r : ClaimMade) : Type 0 where
  pub same : r.image ≡ image
  pub bytes : r.output ≡ out

pub claim_leaves : {image line out : List ℕ} {r : ClaimMade} → Claims image line out r → is_served r.answer ≡ false → ClaimLeaves image out r
claim_leaves {image} {line} {out} h = each_case (λ (r : ClaimMade). is_served r.answer ≡ false → ClaimLeaves image out r) (λ n e. record { same = refl; bytes = refl }) (λ s l. made s (claim l s)) h
  where
    made : (s : Session) (x : Answer Claimed) → is_served (claim_served image out s x).answer ≡ false → ClaimLeaves image out (claim_served image out s x)
    made s (refused n) e = record { same = refl; bytes = refl }
    made s (done c) e = room (leb (length (result_text c.result)) (length out)) _ refl e
      where
        room : (b : Bool) (w : ClaimMade) → is_served w.answer ≡ true → is_served (cond b w (claim_refused image out 33)).answer ≡ false → ClaimLeaves image out (cond b w (claim_refused image out 33))
        room true w t e = absurd (true≢false (sym t ∙ e))
        room false w t e = record { same = refl; bytes = refl }

pub list_leaves : {image out : List ℕ} {r : Listed} → Lists image out r → is_served r.answer ≡ false → r.output ≡ out
list_leaves {image} {out} h = each_case (λ (r : Listed). is_served r.answer ≡ false → r.output ≡ out) (λ n e. refl) (λ s f. room (leb (length (listing_of s)) (length out)) _ refl) h
  where
    room : (b : Bool) (w : Listed) → is_served w.answer ≡ true → is_served (cond b w (list_refused out 33)).answer ≡ false → (cond b w (list_refused out 33)).output ≡ out
    room true w t e = absurd (true≢false (sym t ∙ e))
    room false w t e = refl
