-- The image of a session: the record of each node, operation and result (docs/IMAGE.md), and their bytes.
-- Assumes nothing.
use Rattle.std.specs.Prelude.{ℕ, ◌-◌, Bool, cond, List, [], ◌∷◌, ◌++◌, map, length, replicate}
use Rattle.graph.specs.declared.act.Act.{Act}
use Rattle.graph.specs.declared.act.Act.TheVariants.{Map, Link, Unlink, Sum, Top, Pick, Near}
use Rattle.graph.specs.declared.keys.Keys.{Keys}
use Rattle.graph.specs.declared.remaining.Remaining.{Remaining}
use Rattle.graph.specs.declared.remaining.Remaining.TheVariants.{All, Listed}
use Rattle.graph.specs.Packed.{packed, packed_targets}
use Rattle.graph.specs.Targets.{Targets, these}
use Rattle.graph.specs.Nodes.{Node, Result}
use Rattle.graph.specs.OneAtATime.{Labelled, add_of, op_of}
use Rattle.graph.specs.Sessions.{Session}
use Rattle.flat.specs.Flat.{Tagged, Flat, flat}
use Rattle.records.specs.declared.labels.Labels.{Labels}
use Rattle.records.specs.declared.node.NodeRecord.{NodeRecord}
use Rattle.records.specs.declared.op.OpRecord.{OpRecord}
use Rattle.records.specs.declared.result.ResultRecord.{ResultRecord}
use Rattle.image.specs.Layout.{View, image_of}

abbrev pub node_record : Node → NodeRecord
node_record n = record { value = n.value; key = n.key; links = packed n.links; spare = 0 }

abbrev pub result_record : Result → ResultRecord
result_record r = record { label = r.label; value = r.value; left = packed r.left; spare = 0 }

-- the struct of a list of at most four labels, zeros after them
unfoldable pub packed_labels : List ℕ → Labels
packed_labels ls = record { count = length ls; label = ls ++ replicate (4 - length ls) 0 }

-- the fields of an act's record: its kind, its operand key, `a` and `b`
pub record Fields : Type 0 where
  pub kind : ℕ
  pub key : ℕ
  pub a : ℕ
  pub b : ℕ

abbrev pub fields : ℕ → ℕ → ℕ → ℕ → Fields
fields kind key a b = record { kind = kind; key = key; a = a; b = b }

abbrev pub fields_of : Act → ℕ → Fields
fields_of (Map m) h = fields 1 0 m.a m.b
fields_of (Link k) h = fields 2 k 0 h
fields_of (Unlink k) h = fields 3 k 0 h
fields_of Sum h = fields 4 0 0 h
fields_of Top h = fields 5 0 0 h
fields_of Pick h = fields 6 0 0 h
fields_of (Near k) h = fields 7 k 0 h

-- what is written of the targets that remain: the keys listed, and a byte each for all and for its mark (S-3)
abbrev pub written_keys : Remaining → Keys
written_keys (All done) = packed []
written_keys (Listed keys) = keys

abbrev pub all_byte : Remaining → ℕ
all_byte (All done) = 1
all_byte (Listed keys) = 0

abbrev pub mark_byte : Remaining → ℕ
mark_byte (All done) = cond done 1 0
mark_byte (Listed keys) = 0

abbrev pub op_record : ℕ → Bool → Fields → Targets → List ℕ → OpRecord
op_record p opens f t ls =
    record {
      station = p;
      opens = cond opens 1 0;
      kind = f.kind;
      key = f.key;
      a = f.a;
      b = f.b;
      targets = written_keys (packed_targets t);
      labels = packed_labels ls;
      all = all_byte (packed_targets t);
      mark = mark_byte (packed_targets t);
    }

abbrev pub call_record : ℕ → Bool → Labelled → OpRecord
call_record p opens (add_of l v) = op_record p opens (fields 0 0 0 v) (these []) (l ∷ [])
call_record p opens (op_of o) = op_record p opens (fields_of o.act o.held) o.targets o.labels

abbrev pub tagged_record : Tagged → OpRecord
tagged_record x = call_record x.place x.opens x.call

abbrev pub view_of : Flat → View
view_of f = record { nodes = map node_record f.nodes; ops = map tagged_record f.queue; results = map result_record f.results; last = f.last }

-- the image of a session
unfoldable pub encode : Session → List ℕ
encode s = image_of (view_of (flat s))
