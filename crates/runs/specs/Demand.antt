-- Demand 3, of a list of lines sent to a fresh session: one record, a field for each clause.
-- Assumes nothing.
use Rattle.std.specs.Prelude.{ℕ, ◌≤◌, ◌≡◌, true, List, [], ◌∷◌, pos, length}
use Rattle.std.proofs.Math.Option.{some}
use Rattle.graph.specs.Calls.{Call}
use Rattle.graph.specs.Nodes.{Node, Result}
use Rattle.graph.specs.OneAtATime.{one_at_a_time}
use Rattle.graph.specs.Sessions.{Session}
use Rattle.graph.specs.Steps.{Step}
use Rattle.graph.specs.Drain.{drain}
use Rattle.graph.specs.Counts.{result_of_label, of_kind, quoted_steps, quoted}
use Rattle.lines.specs.Forms.{work, drain_form, step_text, IsClaim}
use Rattle.print.specs.Printed.{result_text}
use Rattle.panel.specs.declared.tally.Tally.{Tally}
use Rattle.panel.specs.Tally.{counted, zeros}
use Rattle.valid.specs.Values.{encode}
use Rattle.host.specs.Entries.{ImageOf, Stepped, ClaimMade, Steps}
use Rattle.runs.specs.Runs.{Sent, call_sent, step_sent, claim_sent, Input, inputs_of, Runs, opening, after, is_served, accepted_lines, labels_given, labels_from, TextsOf, Pending, Allowed, Wrote, ClaimedIn, WouldWrite, GraphOf, TakenBy, OneTally, last_tally}

-- label l has this result: "the value and the `left` in the line that its claim wrote or, while unclaimed, would write given room"
pub data ResultOf (es : List Sent) (l : ℕ) (q : Result) : Type 0 where
  claimed : ClaimedIn l q es → ResultOf es l q
  unclaimed :
      ((out : List ℕ) → length (result_text q) ≤ length out → WouldWrite (after opening es) out l q)
      → ResultOf es l q

-- label l has a result, that of one-at-a-time processing
pub record HasResult (es : List Sent) (meant : List Result) (l : ℕ) : Type 0 where
  pub result : Result
  pub given : ResultOf es l result
  pub same : result_of_label l meant ≡ some result

-- an accepted call is pending, or it is not and has its result
pub data PendingOrResult (es : List Sent) (meant : List Result) (l : ℕ) : Type 0 where
  is_pending : Pending (after opening es) l → PendingOrResult es meant l
  has_result : (Pending (after opening es) l → ⊥) → HasResult es meant l → PendingOrResult es meant l

-- a claim line wrote the line of what one-at-a-time processing gives the label
pub record GaveMeant (meant : List Result) (line out : List ℕ) (r : ClaimMade) : Type 0 where
  pub label : ℕ
  pub text : IsClaim line label
  pub result : Result
  pub same : result_of_label label meant ≡ some result
  pub wrote : Wrote out result r

abbrev pub ClaimsMeant : List Result → List Sent → Type 0
ClaimsMeant meant [] = Unit {0}
ClaimsMeant meant (call_sent line r ∷ es) = ClaimsMeant meant es
ClaimsMeant meant (step_sent line t r ∷ es) = ClaimsMeant meant es
ClaimsMeant meant (claim_sent line out r ∷ es) = (is_served r.answer ≡ true → GaveMeant meant line out r) × ClaimsMeant meant es

-- some admit, realise, move or finish line would be answered 0
pub record Progress (image : List ℕ) : Type 0 where
  pub what : Step
  pub kind : quoted_steps (what ∷ []) ≡ 1
  pub allowed : (t : Tally) → Allowed image (step_text (work what)) t

-- the steps, sent as lines one by one, are each answered 0 whatever tally they are lent, and lead to the image `end`
pub data StepLines (end : List ℕ) : List ℕ → List Step → Type 0 where
  ended : {image : List ℕ} → image ≡ end → StepLines end image []
  stepped : {image : List ℕ} {w : Step} {ts : List Step} (next : List ℕ)
      → ((t : Tally) → Steps image (step_text (work w)) t (record { answer = pos 0; image = next; tally = counted t (w ∷ []) }))
      → StepLines end next ts
      → StepLines end image (w ∷ ts)

-- no accepted call is pending
abbrev pub NonePending : List Sent → Type 0
NonePending es = (l : ℕ) → 1 ≤ l → l ≤ length (accepted_lines es) → Pending (after opening es) l → ⊥

-- a drain line was answered 0, and left no call pending
pub record Cleared (r : Stepped) : Type 0 where
  pub answer : r.answer ≡ pos 0
  pub none : (l : ℕ) → Pending r.image l → ⊥

pub record Demand3 (es : List Sent) : Type 0 where
  -- the session that the image holds, which is valid
  pub session : Session
  pub holds : ImageOf (after opening es) session
  -- one-at-a-time processing is fed the accepted lines, read by the grammar alone
  pub calls : List Call
  pub texts : TextsOf (accepted_lines es) calls
  pub labels : labels_given es ≡ labels_from 1 (length (accepted_lines es))
  -- "Labels run 1 to 65,535"
  pub few : length (accepted_lines es) ≤ 65535
  -- "For every accepted call that isn't pending it equals the result of the same label in one-at-a-time processing"
  pub results : (l : ℕ) → 1 ≤ l → l ≤ length (accepted_lines es) → PendingOrResult es (one_at_a_time calls).results l
  -- every claim that was served wrote exactly that
  pub claims : ClaimsMeant (one_at_a_time calls).results es
  -- "With none pending it equals the nodes of one-at-a-time processing, front first."
  pub graph : NonePending es → GraphOf (after opening es) (one_at_a_time calls).nodes
  -- "While a call is pending, an admit, realise, move or finish is allowed."
  pub progress : (l : ℕ) → Pending (after opening es) l → Progress (after opening es)
  -- the steps taken, and of the four kinds at most what "the licence then quotes" (S-3): "129 steps for an all-call and 73 for another, summed
  -- over the calls accepted"
  pub steps : List Step
  pub taken : TakenBy opening es steps
  pub bound : quoted_steps steps ≤ quoted calls
  -- "which stays far below resting": 129 × 65,535
  pub below : quoted_steps steps ≤ 8454015
  -- "With one tally, zeros at the start .., each of these four kinds' number equals its count there"
  pub tally :
      OneTally zeros es
      → ((last_tally zeros es).admit ≡ of_kind 0 steps)
      × ((last_tally zeros es).realise ≡ of_kind 1 steps)
      × ((last_tally zeros es).move_on ≡ of_kind 2 steps)
      × ((last_tally zeros es).finish ≡ of_kind 3 steps)
  -- a drain's steps, sent one by one as lines, are each answered 0 and lead to the image that the drain leaves
  pub one_by_one : StepLines (encode (drain session).end) (after opening es) (drain session).took
  -- a drain is served, and leaves none pending
  pub cleared : (t : Tally) (r : Stepped) → Steps (after opening es) (step_text drain_form) t r → Cleared r
  -- "With none pending it is accepted and takes no step."
  pub idle :
      NonePending es
      → (t : Tally) (r : Stepped)
      → Steps (after opening es) (step_text drain_form) t r
      → r ≡ record { answer = pos 0; image = after opening es; tally = t }

-- what is sent has one run from the image that opening writes, and demand 3 holds of it
pub record RunOf (is : List Input) : Type 0 where
  pub sent : List Sent
  pub inputs : inputs_of sent ≡ is
  pub runs : Runs opening sent
  pub only : (es : List Sent) → inputs_of es ≡ is → Runs opening es → es ≡ sent
  pub demand : Demand3 sent

-- "Two such lists that accept the same calls in the same order, and end with none pending, have the same final graph and the same
-- result for each call."
pub record SameResult (es fs : List Sent) (l : ℕ) : Type 0 where
  pub result : Result
  pub here : ResultOf es l result
  pub there : ResultOf fs l result

pub record SameEnd (es fs : List Sent) : Type 0 where
  pub nodes : List Node
  pub here : GraphOf (after opening es) nodes
  pub there : GraphOf (after opening fs) nodes
  pub results : (l : ℕ) → 1 ≤ l → l ≤ length (accepted_lines es) → SameResult es fs l

-- a label that the list claimed
pub record ClaimedLabel (l : ℕ) (es : List Sent) : Type 0 where
  pub result : Result
  pub is : ClaimedIn l result es
