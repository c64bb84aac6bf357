-- The nested session of a flat one, and the sessions that have a flat view.
-- Assumes nothing.
use Rattle.std.specs.Prelude.{◌≡◌, ℕ, Bool, false, cond, not, List, [], ◌∷◌, eqb}
use Rattle.graph.specs.KeyLists.{is_nil}
use Rattle.graph.specs.Nodes.{Node, Op}
use Rattle.graph.specs.OneAtATime.{Labelled, add_of, op_of}
use Rattle.graph.specs.Sessions.{Station, station, Session}
use Rattle.graph.specs.Valid.{Each, KeysFall}
use Rattle.flat.specs.Flat.{Tagged, Flat}

-- what f makes of the call's operation; `none` for an add, which has no operation
module _ {A : Type 0} where
  abbrev pub of_op : (none : A) → (Op → A) → Labelled → A
  of_op none f (add_of l v) = none
  of_op none f (op_of o) = f o

-- does the queue go on with the unit before it?
abbrev pub goes_on : List Tagged → Bool
goes_on [] = false
goes_on (x ∷ xs) = not x.opens

abbrev pub in_front : Op → List (List Op) → List (List Op)
in_front o [] = (o ∷ []) ∷ []
in_front o (u ∷ us) = (o ∷ u) ∷ us

-- operations of one station, by units; an add, which stands at no station, is left out
abbrev pub group : List Tagged → List (List Op)
group [] = []
group (x ∷ xs) = of_op (group xs) (λ o. cond (goes_on xs) (in_front o (group xs)) ((o ∷ []) ∷ group xs)) x.call

abbrev pub at_place : ℕ → Tagged → Bool
at_place k x = eqb x.place k

-- the queue up to where station k's operations end, and from there on
abbrev pub station_part : ℕ → List Tagged → List Tagged
station_part k [] = []
station_part k (x ∷ xs) = cond (at_place k x) (x ∷ station_part k xs) []

abbrev pub after_station : ℕ → List Tagged → List Tagged
after_station k [] = []
after_station k (x ∷ xs) = cond (at_place k x) (after_station k xs) (x ∷ xs)

pub record Gathered : Type 0 where
  pub stations : List Station
  pub rest : List Tagged

-- the nodes, each with its operations, in front of the stations so far
abbrev pub gather : List Node → List Station → List Tagged → Gathered
gather [] ss q = record { stations = ss; rest = q }
gather (n ∷ ns) ss q = gather ns (station n (group (station_part n.key q)) ∷ ss) (after_station n.key q)

abbrev pub calls_of : List Tagged → List Labelled
calls_of [] = []
calls_of (x ∷ xs) = x.call ∷ calls_of xs

abbrev pub nested : Flat → Gathered → Session
nested f g = record { stations = g.stations; top_stream = calls_of g.rest; results = f.results; last = f.last }

abbrev pub nest : Flat → Session
nest f = nested f (gather f.nodes [] f.queue)

-- the stations that have a flat view: the keys fall to 1, and no unit is empty
abbrev pub Full : List (List Op) → Type 0
Full us = Each (λ u. is_nil u ≡ false) us

abbrev pub Keyed : List Station → Type 0
Keyed ss = KeysFall ss × Each (λ s. Full s.units) ss
