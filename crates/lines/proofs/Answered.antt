-- A line determines its answer: two answers that meet a reader's contract are the same.
-- Assumes nothing.
use Prim.Native.Nat.{ℕ}
use mathlib.Core.List.{List}
use mathlib.Core.Path.{◌≡◌, sym, ap, ◌∙◌}
use Rattle.graph.specs.Refusals.{refused, done}
use Rattle.lines.specs.Forms.{call_text, call_numbers, step_text, step_numbers, claim_text, claim_numbers, TextOf}
use Rattle.lines.specs.Inner.Answers.{ReadAs, form, other, call_answered, call_answer, CallRead, step_answered, step_answer, StepRead, claim_answered, ClaimRead}
use Rattle.graph.specs.declared.refusal.Refusal.{Refusal}
use Rattle.std.proofs.Common.{Result}
use Rattle.lines.specs.declared.call.Call.{Call as Asked}
use Rattle.lines.specs.declared.step.StepRequest.{StepRequest}
use Rattle.lines.proofs.Calls.{call_unique}
use Rattle.lines.proofs.Claims.{claim_unique}
use Rattle.lines.proofs.Steps.{step_unique}

module _ {F R : Type 0} (text numbers : F → List ℕ) (unique : (f g : F) → text f ≡ text g → f ≡ g) (answer : F → R) (ten : R) (line : List ℕ) where
  same : (r s : R) → ReadAs (TextOf text numbers line) answer ten r → ReadAs (TextOf text numbers line) answer ten s → r ≡ s
  same r s (form f i e) (form g j q) = e ∙ ap answer (unique f g (sym i.same ∙ j.same)) ∙ sym q
  same r s (form f i e) (other n q) = absurd (n f i)
  same r s (other n e) (form g j q) = absurd (n g j)
  same r s (other n e) (other m q) = e ∙ sym q

pub call_same : (line : List ℕ) (r s : Result Asked Refusal) → CallRead line r → CallRead line s → call_answered r ≡ call_answered s
call_same line r s = same call_text call_numbers call_unique call_answer (refused 10) line (call_answered r) (call_answered s)

pub step_same : (line : List ℕ) (r s : Result StepRequest Refusal) → StepRead line r → StepRead line s → step_answered r ≡ step_answered s
step_same line r s = same step_text step_numbers step_unique step_answer (refused 10) line (step_answered r) (step_answered s)

pub claim_same : (line : List ℕ) (r s : Result ℕ Refusal) → ClaimRead line r → ClaimRead line s → claim_answered r ≡ claim_answered s
claim_same line r s = same claim_text claim_numbers claim_unique done (refused 10) line (claim_answered r) (claim_answered s)
