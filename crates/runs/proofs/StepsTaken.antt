-- What a list of lines took is determined: one list of steps.
-- Assumes nothing.
use mathlib.Core.Path.{◌≡◌, refl, sym, ap, ◌∙◌}
use Prim.Native.Nat.{ℕ}
use mathlib.Core.Bool.{Bool, true, false, true≢false}
use mathlib.Core.List.{List, [], ◌∷◌, ◌++◌}
use Rattle.graph.specs.Sessions.{Session}
use Rattle.graph.specs.Steps.{Step, admit}
use Rattle.graph.specs.Drain.{drain}
use Rattle.lines.specs.Forms.{StepForm, work, drain_form}
use Rattle.host.proofs.Determined.{same_session, step_forms}
use Rattle.runs.specs.Runs.{Sent, Took, one, several, TakenBy, nothing_sent, after_call, after_claim, after_refusal, after_step}

abbrev is_drain : StepForm → Bool
is_drain (work w) = false
is_drain drain_form = true

-- the work step of a form
abbrev step_in : StepForm → Step
step_in (work w) = w
step_in drain_form = admit

took_same : {image line : List ℕ} {ts us : List Step} → Took image line ts → Took image line us → ts ≡ us
took_same (one w i) (one v j) = ap (λ (f : StepForm). step_in f ∷ []) (step_forms (work w) (work v) i j)
took_same (one w i) (several s h j) = absurd (true≢false (ap is_drain (step_forms drain_form (work w) j i)))
took_same (several s h i) (one v j) = absurd (true≢false (ap is_drain (step_forms drain_form (work v) i j)))
took_same (several s h i) (several u k j) = ap (λ (x : Session). (drain x).took) (same_session h k)

pub taken_same : {image : List ℕ} {es : List Sent} {ts us : List Step} → TakenBy image es ts → TakenBy image es us → ts ≡ us
taken_same nothing_sent nothing_sent = refl
taken_same (after_call h) (after_call k) = taken_same h k
taken_same (after_claim h) (after_claim k) = taken_same h k
taken_same (after_refusal n h) (after_refusal m k) = taken_same h k
taken_same (after_refusal n h) (after_step y t k) = absurd (true≢false (sym y ∙ n))
taken_same (after_step y t h) (after_refusal n k) = absurd (true≢false (sym y ∙ n))
taken_same (after_step y t h) (after_step z u k) = λ i. took_same t u i ++ taken_same h k i
