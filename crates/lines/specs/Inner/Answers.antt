-- What reading a line answers: the form that the line is the text of, by value, or refusal 10, 11, 12 or 40.
-- Assumes nothing.
use Rattle.std.specs.Prelude.{ℕ, List, [], ◌≡◌, Result}
use Rattle.graph.specs.Calls.{Call, add, map, link, unlink, sum, top, pick, near, unmap, form_tests}
use Rattle.graph.specs.Packed.{packed_targets}
use Rattle.graph.specs.Refusals.{Answer, refused, done, map_done, unless}
use Rattle.graph.specs.Refused.{answered}
use Rattle.graph.specs.declared.refusal.Refusal.{Refusal}
use Rattle.graph.specs.Targets.{To, named, untouched}
use Rattle.graph.specs.Steps.{Step, admit, realise, move, finish, join, split, swap, fuse}
use Rattle.lines.specs.Forms.{StepForm, work, drain_form, IsCall, step_form_tests, IsStep, IsClaim}
use Rattle.lines.specs.declared.call.Call.{Call as Asked}
use Rattle.lines.specs.declared.call.CallKind.{CallKind}
use Rattle.lines.specs.declared.call.CallKind.TheVariants.{Add, Map, Link, Unlink, Sum, Top, Pick, Near, Unmap}
use Rattle.lines.specs.declared.step.StepRequest.{StepRequest}
use Rattle.lines.specs.declared.step.StepRequest.TheVariants.{Work, Drain}
use Rattle.lines.specs.declared.step.WorkStep.{WorkStep}
use Rattle.lines.specs.declared.step.WorkStep.TheVariants.{Admit, Realise, Move, Finish, Join, Split, Swap, Fuse}

-- r is the answer to the form that the line is the text of, or, where it is that of none, the answer `ten`
pub data ReadAs {F R : Type 0} (Is : F → Type 0) (answer : F → R) (ten r : R) : Type 0 where
  form : (f : F) → Is f → r ≡ answer f → ReadAs Is answer ten r
  other : ((f : F) → Is f → ⊥) → r ≡ ten → ReadAs Is answer ten r

-- ---- calls

abbrev pub call_line : CallKind → ℕ → ℕ → To → Asked
call_line kind x y to = record { kind = kind; x = x; y = y; to = packed_targets (untouched to) }

-- the parts of a call's line: its kind, its numbers in their order (0 where there is none), its targets
pub record CallParts : Type 0 where
  pub kind : CallKind
  pub x : ℕ
  pub y : ℕ
  pub to : To

abbrev pub with_parts : CallKind → ℕ → ℕ → To → CallParts
with_parts kind x y to = record { kind = kind; x = x; y = y; to = to }

abbrev pub call_parts : Call → CallParts
call_parts (add value) = with_parts Add value 0 (named [])
call_parts (map a b to) = with_parts Map a b to
call_parts (link key to) = with_parts Link key 0 to
call_parts (unlink key to) = with_parts Unlink key 0 to
call_parts (sum start to) = with_parts Sum start 0 to
call_parts (top start to) = with_parts Top start 0 to
call_parts (pick start to) = with_parts Pick start 0 to
call_parts (near key start to) = with_parts Near key start to
call_parts (unmap a b to) = with_parts Unmap a b to

-- a call by value
abbrev pub call_read : Call → Asked
call_read f = call_line (call_parts f).kind (call_parts f).x (call_parts f).y (call_parts f).to

-- what a line was read as: a refusal, or the call
abbrev pub call_answered : Result Asked Refusal → Answer Asked
call_answered = answered (λ c. c)

-- refused by the first of the form's own tests that applies (11, 12, 40), else the call
abbrev pub call_answer : Call → Answer Asked
call_answer f = map_done call_read (unless (form_tests f) f)

abbrev pub CallRead : List ℕ → Result Asked Refusal → Type 0
CallRead line r = ReadAs (IsCall line) call_answer (refused 10) (call_answered r)

-- the call that a kind, numbers in the line's order and targets make
abbrev pub call_form : CallKind → ℕ → ℕ → To → Call
call_form Add x y to = add x
call_form Map x y to = map x y to
call_form Link x y to = link x to
call_form Unlink x y to = unlink x to
call_form Sum x y to = sum x to
call_form Top x y to = top x to
call_form Pick x y to = pick x to
call_form Near x y to = near x y to
call_form Unmap x y to = unmap x y to

-- ---- steps

-- the work step that a value of the enum names
abbrev pub step_named : WorkStep → Step
step_named Admit = admit
step_named (Realise at) = realise at
step_named (Move at) = move at
step_named (Finish at) = finish at
step_named (Join at unit) = join at unit
step_named (Split at unit after) = split at unit after
step_named (Swap at unit) = swap at unit
step_named (Fuse at unit) = fuse at unit

-- the form of what a line asks for
abbrev pub step_asked : StepRequest → StepForm
step_asked (Work w) = work (step_named w)
step_asked Drain = drain_form

-- what a line was read as: a refusal, or its form
abbrev pub step_answered : Result StepRequest Refusal → Answer StepForm
step_answered = answered step_asked

abbrev pub step_answer : StepForm → Answer StepForm
step_answer f = unless (step_form_tests f) f

abbrev pub StepRead : List ℕ → Result StepRequest Refusal → Type 0
StepRead line r = ReadAs (IsStep line) step_answer (refused 10) (step_answered r)

-- ---- claims

-- what a line was read as: a refusal, or the label
abbrev pub claim_answered : Result ℕ Refusal → Answer ℕ
claim_answered = answered (λ l. l)

abbrev pub ClaimRead : List ℕ → Result ℕ Refusal → Type 0
ClaimRead line r = ReadAs (IsClaim line) done (refused 10) (claim_answered r)
