-- Lists of calls, steps, drains and claims sent to a fresh session, and demand 3 of them: document 01, section 'Whole runs'.
-- Assumes nothing.
use Rattle.std.specs.Prelude.{ℕ, ◌≤◌, ◌≡◌, true, false, List, [], ◌∷◌, ◌++◌, length}
use Rattle.std.proofs.Math.Option.{some}
use Rattle.graph.specs.Refusals.{Answer, refused, done, and_then}
use Rattle.graph.specs.KeyLists.{contains}
use Rattle.graph.specs.Calls.{Call}
use Rattle.graph.specs.Nodes.{Result}
use Rattle.graph.specs.OneAtATime.{one_at_a_time}
use Rattle.graph.specs.Sessions.{Session, fresh, graph_of, pending}
use Rattle.graph.specs.Steps.{Step, step}
use Rattle.graph.specs.Allowed.{allowed}
use Rattle.graph.specs.Acceptance.{accept, Claimed, claim, keeping}
use Rattle.graph.specs.Drain.{Drained, drain}
use Rattle.graph.specs.Valid.{Valid}
use Rattle.graph.specs.Counts.{quoted_steps, quoted, result_of_label}

pub data Event : Type 0 where
  calls : Call → Event
  steps : Step → Event
  drains : Event
  claims : (label : ℕ) → Event

-- the session, the calls accepted in the order of their labels, the results claimed, and the steps taken, drains' included
pub record EventRun : Type 0 where
  pub now : Session
  pub accepted : List Call
  pub claimed : List Result
  pub taken : List Step

abbrev pub on_call : Call → EventRun → Answer Session → EventRun
on_call c x (refused r) = x
on_call c x (done s) = record { now = s; accepted = x.accepted ++ (c ∷ []); claimed = x.claimed; taken = x.taken }

abbrev pub on_step : Step → EventRun → Answer Session → EventRun
on_step t x (refused r) = x
on_step t x (done s) = record { now = s; accepted = x.accepted; claimed = x.claimed; taken = x.taken ++ (t ∷ []) }

abbrev pub on_drain : EventRun → Drained → EventRun
on_drain x d = record { now = d.end; accepted = x.accepted; claimed = x.claimed; taken = x.taken ++ d.took }

abbrev pub on_claim : EventRun → Answer Claimed → EventRun
on_claim x (refused r) = x
on_claim x (done c) = record { now = keeping x.now c.others; accepted = x.accepted; claimed = x.claimed ++ (c.result ∷ []); taken = x.taken }

abbrev pub event : Event → EventRun → EventRun
event (calls c) x = on_call c x (accept c x.now)
event (steps t) x = on_step t x (step t x.now)
event drains x = on_drain x (drain x.now)
event (claims l) x = on_claim x (claim l x.now)

abbrev pub events : List Event → EventRun → EventRun
events [] x = x
events (e ∷ es) x = events es (event e x)

abbrev pub start : EventRun
start = record { now = fresh; accepted = []; claimed = []; taken = [] }

abbrev pub run : List Event → EventRun
run es = events es start

-- steps one by one, refused where one of them is
abbrev pub step_all : List Step → Session → Answer Session
step_all [] s = done s
step_all (t ∷ ts) s = and_then (step t s) (step_all ts)

-- both have a result of the label, and it is the same
pub record SameSessionResult (l : ℕ) (rs qs : List Result) : Type 0 where
  pub result : Result
  pub here : result_of_label l rs ≡ some result
  pub there : result_of_label l qs ≡ some result

-- an admit, realise, move or finish that is allowed
pub record SessionProgress (s : Session) : Type 0 where
  pub what : Step
  pub work : quoted_steps (what ∷ []) ≡ 1
  pub fine : allowed what s ≡ true

-- DEMAND 3, of what a list of events has led to
pub record SessionDemand3 (x : EventRun) : Type 0 where
  -- labels are given 1, 2, 3, ..
  pub labels : x.now.last ≡ length x.accepted
  -- "Every accepted call that is not pending, claimed or not, has the result that one-at-a-time processing of the accepted
  -- calls gives it."
  pub results : (l : ℕ) → 1 ≤ l → l ≤ length x.accepted → contains l (pending x.now) ≡ false →
      SameSessionResult l (x.claimed ++ x.now.results) (one_at_a_time x.accepted).results
  -- what each claim gave is that result
  pub claims : (pre post : List Result) (r : Result) → x.claimed ≡ pre ++ (r ∷ post) → result_of_label r.label (one_at_a_time x.accepted).results ≡ some r
  -- "Where none is pending, the graph is that of one-at-a-time processing too"
  pub graph : pending x.now ≡ [] → graph_of x.now.stations ≡ (one_at_a_time x.accepted).nodes
  -- "While a call is pending, an admit, realise, move or finish is allowed."
  pub progress : (l : ℕ) → contains l (pending x.now) ≡ true → SessionProgress x.now
  -- "The admits, realises, moves and finishes taken come together to at most" what the licence quotes for the calls accepted
  pub bound : quoted_steps x.taken ≤ quoted x.accepted
  -- a drain's steps, sent one by one, are each answered 0 and lead to the same; it leaves none pending
  pub one_by_one : step_all (drain x.now).took x.now ≡ done (drain x.now).end
  pub cleared : pending (drain x.now).end ≡ []
  pub valid : Valid x.now

-- "two such lists that accept the same calls in the same order, and end with none pending, have the same final graph and
-- the same result for each call"
pub record SameOutcome (x y : EventRun) : Type 0 where
  pub graph : graph_of x.now.stations ≡ graph_of y.now.stations
  pub results : (l : ℕ) → 1 ≤ l → l ≤ length x.accepted → SameSessionResult l (x.claimed ++ x.now.results) (y.claimed ++ y.now.results)
