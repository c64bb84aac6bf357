-- Every list of inputs is answered: there is one run of it, and no other.
-- Assumes nothing.
use mathlib.Core.Path.{◌≡◌, refl, sym, ap, ◌∙◌}
use Prim.Native.Nat.{ℕ}
use mathlib.Core.List.{List, [], ◌∷◌}
use Rattle.host.specs.Entries.{Called, Stepped, ClaimMade}
use Rattle.host.proofs.Determined.{call_once, step_once, claim_once}
use Rattle.host.proofs.Answered.{call_answered, step_answered_law, claim_answered_law}
use Rattle.runs.specs.Runs.{Sent, call_sent, step_sent, claim_sent, Input, call_input, step_input, claim_input, inputs_of, Runs, opening}
use Rattle.runs.specs.Demand.{RunOf}
use Rattle.runs.proofs.Demand3.{demand3}

-- the run of the inputs on an image
unfoldable pub sent_on : List ℕ → List Input → List Sent
sent_on image [] = []
sent_on image (call_input line ∷ is) = call_sent line (call_answered image line).0 ∷ sent_on (call_answered image line).0.image is
sent_on image (step_input line t ∷ is) = step_sent line t (step_answered_law image line t).0 ∷ sent_on (step_answered_law image line t).0.image is
sent_on image (claim_input line out ∷ is) = claim_sent line out (claim_answered_law image line out).0 ∷ sent_on (claim_answered_law image line out).0.image is

sent_inputs : (image : List ℕ) (is : List Input) → inputs_of (sent_on image is) ≡ is
unfolding sent_on
sent_inputs image [] = refl
sent_inputs image (call_input line ∷ is) = λ i. call_input line ∷ sent_inputs (call_answered image line).0.image is i
sent_inputs image (step_input line t ∷ is) = λ i. step_input line t ∷ sent_inputs (step_answered_law image line t).0.image is i
sent_inputs image (claim_input line out ∷ is) = λ i. claim_input line out ∷ sent_inputs (claim_answered_law image line out).0.image is i

sent_runs : (image : List ℕ) (is : List Input) → Runs image (sent_on image is)
unfolding sent_on
sent_runs image [] = tt
sent_runs image (call_input line ∷ is) = ((call_answered image line).1, sent_runs (call_answered image line).0.image is)
sent_runs image (step_input line t ∷ is) = ((step_answered_law image line t).1, sent_runs (step_answered_law image line t).0.image is)
sent_runs image (claim_input line out ∷ is) = ((claim_answered_law image line out).1, sent_runs (claim_answered_law image line out).0.image is)

-- a run is that of its inputs
pub sent_only : (image : List ℕ) (es : List Sent) → Runs image es → es ≡ sent_on image (inputs_of es)
unfolding sent_on
sent_only image [] h = refl
sent_only image (call_sent line r ∷ es) h =
    let a : r ≡ (call_answered image line).0 = call_once h.0 (call_answered image line).1 in
    let t : es ≡ sent_on (call_answered image line).0.image (inputs_of es) = sent_only r.image es h.1 ∙ ap (λ (x : Called). sent_on x.image (inputs_of es)) a in
    λ i. call_sent line (a i) ∷ t i
sent_only image (step_sent line t r ∷ es) h =
    let a : r ≡ (step_answered_law image line t).0 = step_once h.0 (step_answered_law image line t).1 in
    let t' : es ≡ sent_on (step_answered_law image line t).0.image (inputs_of es) = sent_only r.image es h.1 ∙ ap (λ (x : Stepped). sent_on x.image (inputs_of es)) a in
    λ i. step_sent line t (a i) ∷ t' i
sent_only image (claim_sent line out r ∷ es) h =
    let a : r ≡ (claim_answered_law image line out).0 = claim_once h.0 (claim_answered_law image line out).1 in
    let t : es ≡ sent_on (claim_answered_law image line out).0.image (inputs_of es) = sent_only r.image es h.1 ∙ ap (λ (x : ClaimMade). sent_on x.image (inputs_of es)) a in
    λ i. claim_sent line out (a i) ∷ t i

-- ONE RUN OF EVERY LIST OF INPUTS
pub every_run : (is : List Input) → (es : List Sent) × (inputs_of es ≡ is) × Runs opening es
every_run is = (sent_on opening is, sent_inputs opening is, sent_runs opening is)

pub one_run : (es fs : List Sent) → Runs opening es → Runs opening fs → inputs_of es ≡ inputs_of fs → es ≡ fs
one_run es fs h k e = sent_only opening es h ∙ ap (sent_on opening) e ∙ sym (sent_only opening fs k)

pub the_run : (is : List Input) → RunOf is
the_run is =
    let r = every_run is in
    record { sent = r.0; inputs = r.1; runs = r.2; only = λ es e h. one_run es r.0 h r.2 (e ∙ sym r.1); demand = demand3 r.0 r.2 }
