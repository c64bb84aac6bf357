-- What the records of an image stand for, and the session of an image.
-- Assumes nothing.
use Rattle.std.specs.Prelude.{ℕ, cond, List, [], ◌∷◌, map, eqb, get_or, take}
use Rattle.graph.specs.declared.act.Act.{Act}
use Rattle.graph.specs.declared.act.Act.TheVariants.{Map, Link, Unlink, Sum, Top, Pick, Near}
use Rattle.graph.specs.declared.keys.Keys.{Keys}
use Rattle.graph.specs.declared.remaining.Remaining.{Remaining}
use Rattle.graph.specs.Packed.{listed, from_fields, targets_in}
use Rattle.graph.specs.Nodes.{Node, Result}
use Rattle.graph.specs.OneAtATime.{Labelled, add_of, op_of}
use Rattle.graph.specs.Sessions.{Session}
use Rattle.flat.specs.Flat.{Tagged, Flat}
use Rattle.flat.specs.Inner.Nested.{nest}
use Rattle.records.specs.declared.labels.Labels.{Labels}
use Rattle.records.specs.declared.node.NodeRecord.{NodeRecord}
use Rattle.records.specs.declared.op.OpRecord.{OpRecord}
use Rattle.records.specs.declared.result.ResultRecord.{ResultRecord}
use Rattle.image.specs.Layout.{View}
use Rattle.image.specs.Inner.Regions.{view}

abbrev pub decoded_node : NodeRecord → Node
decoded_node r = record { key = r.key; value = r.value; links = listed r.links }

abbrev pub decoded_result : ResultRecord → Result
decoded_result r = record { label = r.label; value = r.value; left = listed r.left }

-- the labels that are listed
abbrev pub labels_of : Labels → List ℕ
labels_of l = take l.count l.label

-- the act of each kind, 0, 1, 2, ..; an add, kind 0, has none
abbrev pub act_of : ℕ → ℕ → ℕ → ℕ → Act
act_of kind key a b = get_or (Sum ∷ Map (record { a = a; b = b }) ∷ Link key ∷ Unlink key ∷ Sum ∷ Top ∷ Pick ∷ Near key ∷ []) kind Sum

-- a map's `b` is a number of its own; any other act holds it
abbrev pub held_of : ℕ → ℕ → ℕ
held_of kind b = cond (eqb kind 1) 0 b

-- the targets that remain, as the enum of graph/src/remaining.rt holds them
abbrev pub read_targets : Keys → ℕ → ℕ → Remaining
read_targets keys all mark = from_fields (eqb all 1) (eqb mark 1) keys

abbrev pub remaining_of : OpRecord → Remaining
remaining_of o = read_targets o.targets o.all o.mark

abbrev pub decoded_call : OpRecord → Labelled
decoded_call o =
    cond (eqb o.kind 0)
    (add_of (get_or o.labels.label 0 0) o.b)
    (op_of
    (record {
      act = act_of o.kind o.key o.a o.b;
      held = held_of o.kind o.b;
      targets = targets_in (remaining_of o);
      labels = labels_of o.labels;
    }))

abbrev pub tagged_of : OpRecord → Tagged
tagged_of o = record { place = o.station; opens = eqb o.opens 1; call = decoded_call o }

abbrev pub flat_of : View → Flat
flat_of v = record { nodes = map decoded_node v.nodes; queue = map tagged_of v.ops; results = map decoded_result v.results; last = v.last }

-- the session of an image
unfoldable pub session_of : List ℕ → Session
session_of bytes = nest (flat_of (view bytes))
