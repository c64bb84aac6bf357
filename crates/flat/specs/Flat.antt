-- Nested and flat: the two views of one session (Inner/Nested.antt has the way back). The flat session has the nodes from the last station on, and one queue of
-- operations, in the order of the work: the last station's streamlet, then the one before it, .., then the top stream.
-- Assumes nothing.
use Rattle.std.specs.Prelude.{ℕ, Bool, true, false, List, [], ◌∷◌, ◌++◌}
use Rattle.graph.specs.Nodes.{Node, Op, Result}
use Rattle.graph.specs.OneAtATime.{Labelled, op_of}
use Rattle.graph.specs.Sessions.{Station, Session}

-- an operation of the queue: its station's key (65 in the top stream), whether it opens a unit, and what it is
pub record Tagged : Type 0 where
  pub place : ℕ
  pub opens : Bool
  pub call : Labelled

pub record Flat : Type 0 where
  pub nodes : List Node
  pub queue : List Tagged
  pub results : List Result
  pub last : ℕ

-- an operation at station k
abbrev pub standing : ℕ → Bool → Op → Tagged
standing k b o = record { place = k; opens = b; call = op_of o }

-- the operations of a unit at station k: the first opens it (or, with b false, goes on with it)
abbrev pub tag_unit : ℕ → Bool → List Op → List Tagged
tag_unit k b [] = []
tag_unit k b (o ∷ os) = standing k b o ∷ tag_unit k false os

abbrev pub tag_units : ℕ → List (List Op) → List Tagged
tag_units k [] = []
tag_units k (u ∷ us) = tag_unit k true u ++ tag_units k us

abbrev pub queue_of : List Station → List Tagged
queue_of [] = []
queue_of (s ∷ ss) = queue_of ss ++ tag_units s.node.key s.units

abbrev pub nodes_of : List Station → List Node
nodes_of [] = []
nodes_of (s ∷ ss) = nodes_of ss ++ (s.node ∷ [])

abbrev pub waiting : List Labelled → List Tagged
waiting [] = []
waiting (c ∷ cs) = record { place = 65; opens = true; call = c } ∷ waiting cs

abbrev pub flat : Session → Flat
flat s = record { nodes = nodes_of s.stations; queue = queue_of s.stations ++ waiting s.top_stream; results = s.results; last = s.last }
