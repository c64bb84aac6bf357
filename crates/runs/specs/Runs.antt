-- Lists of lines sent to the host's functions, each on the image that the ones before left, and what can be seen of them:
-- answers and bytes. Document 01, section 'Whole runs'.
-- Assumes nothing.
use Rattle.std.specs.Prelude.{ℕ, zero, suc, ◌≡◌, Bool, true, false, cond, List, [], ◌∷◌, ◌++◌, ℤ, pos, negsuc, length}
use Rattle.graph.specs.Calls.{Call}
use Rattle.graph.specs.Nodes.{Node, Result}
use Rattle.graph.specs.Sessions.{Session, fresh, graph_of}
use Rattle.graph.specs.Steps.{Step}
use Rattle.graph.specs.Drain.{drain}
use Rattle.text.specs.Text.{pasted}
use Rattle.lines.specs.Forms.{work, drain_form, claim_text, IsCall, IsStep, IsClaim}
use Rattle.print.specs.Printed.{result_text}
use Rattle.panel.specs.declared.tally.Tally.{Tally}
use Rattle.valid.specs.Values.{encode}
use Rattle.host.specs.Entries.{ImageOf, Called, Stepped, ClaimMade, Calls, Steps, Claims, claim_refused}

-- a line that was sent, and what the host's function gave and left: "A line may have any bytes, a step may be lent any tally, and
-- a claim any output"
pub data Sent : Type 0 where
  call_sent : (line : List ℕ) → Called → Sent
  step_sent : (line : List ℕ) → Tally → Stepped → Sent
  claim_sent : (line out : List ℕ) → ClaimMade → Sent

-- what is sent, without what was given and left
pub data Input : Type 0 where
  call_input : (line : List ℕ) → Input
  step_input : (line : List ℕ) → Tally → Input
  claim_input : (line out : List ℕ) → Input

abbrev pub inputs_of : List Sent → List Input
inputs_of [] = []
inputs_of (call_sent line r ∷ es) = call_input line ∷ inputs_of es
inputs_of (step_sent line t r ∷ es) = step_input line t ∷ inputs_of es
inputs_of (claim_sent line out r ∷ es) = claim_input line out ∷ inputs_of es

-- "Each line gets the image as the lines before left it"
abbrev pub Runs : List ℕ → List Sent → Type 0
Runs image [] = Unit {0}
Runs image (call_sent line r ∷ es) = Calls image line r × Runs r.image es
Runs image (step_sent line t r ∷ es) = Steps image line t r × Runs r.image es
Runs image (claim_sent line out r ∷ es) = Claims image line out r × Runs r.image es

-- "It starts from the image that opening writes."
abbrev pub opening : List ℕ
opening = encode fresh

abbrev pub after : List ℕ → List Sent → List ℕ
after image [] = image
after image (call_sent line r ∷ es) = after r.image es
after image (step_sent line t r ∷ es) = after r.image es
after image (claim_sent line out r ∷ es) = after r.image es

-- an answer that is no refusal
abbrev pub is_served : ℤ → Bool
is_served (pos n) = true
is_served (negsuc n) = false

-- "Accepted are the call lines answered with a label"
abbrev pub accepted_lines : List Sent → List (List ℕ)
accepted_lines [] = []
accepted_lines (call_sent line r ∷ es) = cond (is_served r.answer) (line ∷ accepted_lines es) (accepted_lines es)
accepted_lines (step_sent line t r ∷ es) = accepted_lines es
accepted_lines (claim_sent line out r ∷ es) = accepted_lines es

abbrev pub labels_given : List Sent → List ℤ
labels_given [] = []
labels_given (call_sent line r ∷ es) = cond (is_served r.answer) (r.answer ∷ labels_given es) (labels_given es)
labels_given (step_sent line t r ∷ es) = labels_given es
labels_given (claim_sent line out r ∷ es) = labels_given es

-- so many labels from l on: "these answers are 1, 2, 3 and so on"
abbrev pub labels_from : ℕ → ℕ → List ℤ
labels_from l zero = []
labels_from l (suc n) = pos l ∷ labels_from (suc l) n

-- "One-at-a-time processing is fed exactly these lines, in that order": the calls that they are the texts of
pub data TextsOf : List (List ℕ) → List Call → Type 0 where
  no_line : TextsOf [] []
  a_line : {line : List ℕ} {lines : List (List ℕ)} {c : Call} {cs : List Call}
      → IsCall line c
      → TextsOf lines cs
      → TextsOf (line ∷ lines) (c ∷ cs)

-- "an accepted call is pending where a claim of its label would be refused with 31"
abbrev pub Pending : List ℕ → ℕ → Type 0
Pending image l = (out : List ℕ) → Claims image (claim_text l) out (claim_refused image out 31)

-- "a step is allowed where its line would be answered 0"
pub record Allowed (image line : List ℕ) (t : Tally) : Type 0 where
  pub gives : Stepped
  pub stepped : Steps image line t gives
  pub zero : gives.answer ≡ pos 0

-- a claim was served: it wrote the line of the result, and gave its length
pub record Wrote (out : List ℕ) (q : Result) (r : ClaimMade) : Type 0 where
  pub answer : r.answer ≡ pos (length (result_text q))
  pub output : r.output ≡ pasted out 0 (result_text q)

-- a claim of label l in the list wrote q
pub data ClaimedIn (l : ℕ) (q : Result) : List Sent → Type 0 where
  here : {line out : List ℕ} {r : ClaimMade} {es : List Sent}
      → IsClaim line l
      → Wrote out q r
      → ClaimedIn l q (claim_sent line out r ∷ es)
  there : {e : Sent} {es : List Sent} → ClaimedIn l q es → ClaimedIn l q (e ∷ es)

-- a claim of label l would write q, given room
pub record WouldWrite (image out : List ℕ) (l : ℕ) (q : Result) : Type 0 where
  pub gives : ClaimMade
  pub claims : Claims image (claim_text l) out gives
  pub wrote : Wrote out q gives

-- "the graph is every node's key, value and link list in station order": of the session that the image is of
pub record GraphOf (image : List ℕ) (nodes : List Node) : Type 0 where
  pub session : Session
  pub holds : ImageOf image session
  pub graph : graph_of session.stations ≡ nodes

-- the steps that a step line answered 0 took: its own, or "those that drains took by their rule"
pub data Took (image line : List ℕ) : List Step → Type 0 where
  one : (w : Step) → IsStep line (work w) → Took image line (w ∷ [])
  several : (s : Session) → ImageOf image s → IsStep line drain_form → Took image line (drain s).took

-- "The steps taken are the .. answered 0, and those that drains took"
pub data TakenBy : List ℕ → List Sent → List Step → Type 0 where
  nothing_sent : {image : List ℕ} → TakenBy image [] []
  after_call : {image line : List ℕ} {r : Called} {es : List Sent} {ts : List Step}
      → TakenBy r.image es ts
      → TakenBy image (call_sent line r ∷ es) ts
  after_claim : {image line out : List ℕ} {r : ClaimMade} {es : List Sent} {ts : List Step}
      → TakenBy r.image es ts
      → TakenBy image (claim_sent line out r ∷ es) ts
  after_refusal : {image line : List ℕ} {t : Tally} {r : Stepped} {es : List Sent} {ts : List Step}
      → is_served r.answer ≡ false
      → TakenBy r.image es ts
      → TakenBy image (step_sent line t r ∷ es) ts
  after_step : {image line : List ℕ} {t : Tally} {r : Stepped} {es : List Sent} {us ts : List Step}
      → is_served r.answer ≡ true
      → Took image line us
      → TakenBy r.image es ts
      → TakenBy image (step_sent line t r ∷ es) (us ++ ts)

-- "With one tally .. written by nobody else": each step is lent it as the one before left it
abbrev pub OneTally : Tally → List Sent → Type 0
OneTally t [] = Unit {0}
OneTally t (call_sent line r ∷ es) = OneTally t es
OneTally t (step_sent line u r ∷ es) = (u ≡ t) × OneTally r.tally es
OneTally t (claim_sent line out r ∷ es) = OneTally t es

abbrev pub last_tally : Tally → List Sent → Tally
last_tally t [] = t
last_tally t (call_sent line r ∷ es) = last_tally t es
last_tally t (step_sent line u r ∷ es) = last_tally r.tally es
last_tally t (claim_sent line out r ∷ es) = last_tally t es
