-- Valid sessions: the facts that refusal 2 tests, "and no history" (document 01, section 'Host, panel and program').
-- Assumes nothing.
use Rattle.std.specs.Prelude.{ℕ, suc, ◌+◌, ◌≤◌, ◌<◌, ◌≡◌, true, false, List, [], ◌∷◌, length}
use Rattle.graph.specs.declared.act.Act.{Act}
use Rattle.graph.specs.declared.act.Act.TheVariants.{Map, Link, Unlink, Sum, Top, Pick, Near}
use Rattle.graph.specs.KeyLists.{is_key, are_keys, count, rising}
use Rattle.graph.specs.Targets.{Targets, these, all, is_marked}
use Rattle.graph.specs.Words.{modulus}
use Rattle.graph.specs.Nodes.{Node, Op, Result}
use Rattle.graph.specs.OneAtATime.{Labelled, add_of, op_of}
use Rattle.graph.specs.Sessions.{Station, Session, live, adds_in, labels_of_results}

module _ {A : Type 0} (P : A → Type 0) where
  abbrev pub Each : List A → Type 0
  Each [] = Unit {0}
  Each (x ∷ xs) = P x × Each xs

-- targets and `left`: "0 to 8 keys, strictly rising"
pub record ValidKeys (ts : List ℕ) : Type 0 where
  pub few : length ts ≤ 8
  pub keys : are_keys ts ≡ true
  pub rise : rising ts ≡ true

-- an operation's: listed, or all, marked or not
abbrev pub ValidTargets : Targets → Type 0
ValidTargets (these ts) = ValidKeys ts
ValidTargets (all mark) = Unit {0}

-- "A link list holds at most 8 keys, repeats allowed"
pub record ValidNode (n : Node) : Type 0 where
  pub value : n.value < modulus
  pub few : length n.links ≤ 8
  pub keys : are_keys n.links ≡ true

abbrev pub ValidAct : Act → Type 0
ValidAct (Map m) = (m.a < modulus) × (m.b < modulus)
ValidAct (Link k) = is_key k ≡ true
ValidAct (Unlink k) = is_key k ≡ true
ValidAct Sum = Unit {0}
ValidAct Top = Unit {0}
ValidAct Pick = Unit {0}
ValidAct (Near k) = is_key k ≡ true

-- a held value is any 32-bit number, a link's and an unlink's count too; a map holds none: zero
abbrev pub ValidHeld : Act → ℕ → Type 0
ValidHeld (Map m) h = h ≡ 0
ValidHeld (Link k) h = h < modulus
ValidHeld (Unlink k) h = h < modulus
ValidHeld Sum h = h < modulus
ValidHeld Top h = h < modulus
ValidHeld Pick h = h < modulus
ValidHeld (Near k) h = h < modulus

-- "only maps have several labels, at most 4"
abbrev pub most_labels : Act → ℕ
most_labels (Map m) = 4
most_labels (Link k) = 1
most_labels (Unlink k) = 1
most_labels Sum = 1
most_labels Top = 1
most_labels Pick = 1
most_labels (Near k) = 1

pub record ValidOp (o : Op) : Type 0 where
  pub act : ValidAct o.act
  pub held : ValidHeld o.act o.held
  pub targets : ValidTargets o.targets
  pub named : 1 ≤ length o.labels
  pub few : length o.labels ≤ most_labels o.act

-- "no unit is empty"
pub record ValidUnit (u : List Op) : Type 0 where
  pub some : 1 ≤ length u
  pub ops : Each ValidOp u

-- "adds stand only in the top stream": a unit is made of operations
pub record ValidStation (s : Station) : Type 0 where
  pub node : ValidNode s.node
  pub units : Each ValidUnit s.units

-- a mark "on anything but an all-call at a station .. is refusal 2" (S-3): listed targets have none by their form, and a waiting call has none
pub record ValidWaiting (o : Op) : Type 0 where
  pub op : ValidOp o
  pub unmarked : is_marked o.targets ≡ false

abbrev pub ValidCall : Labelled → Type 0
ValidCall (add_of l v) = v < modulus
ValidCall (op_of o) = ValidWaiting o

pub record ValidResult (r : Result) : Type 0 where
  pub value : r.value < modulus
  pub left : ValidKeys r.left

-- "node keys fall from n to 1"
abbrev pub KeysFall : List Station → Type 0
KeysFall [] = Unit {0}
KeysFall (s ∷ ss) = (s.node.key ≡ suc (length ss)) × KeysFall ss

abbrev pub Given : ℕ → ℕ → Type 0
Given last l = (1 ≤ l) × (l ≤ last)

pub record Valid (s : Session) : Type 0 where
  pub falling : KeysFall s.stations
  pub stations : Each ValidStation s.stations
  pub top_stream : Each ValidCall s.top_stream
  pub results : Each ValidResult s.results
  -- "and with the nodes are at most 64"
  pub room : length s.stations + adds_in s.top_stream ≤ 64
  -- results stand by rising label
  pub order : rising (labels_of_results s.results) ≡ true
  -- "each live label is at most the last given and stands in exactly one place, an operation or a result"
  pub given : Each (Given s.last) (live s)
  pub once : (l : ℕ) → count l (live s) ≤ 1
  -- "At most 64 calls are live"
  pub places : length (live s) ≤ 64
  -- "Labels run 1 to 65,535"
  pub labels : s.last ≤ 65535
