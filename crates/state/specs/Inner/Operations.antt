-- The structs of src/operation.rt, and what the readers of the queue answer.
-- Assumes nothing.
use Rattle.std.specs.Prelude.{ℕ, ◌≤◌, ◌≡◌, true, List}
use Rattle.graph.specs.Acts.{is_map}
use Rattle.graph.specs.Nodes.{Op}
use Rattle.graph.specs.OneAtATime.{Labelled, add_of, op_of}
use Rattle.graph.specs.Packed.{listed, packed, targets_in, packed_targets}
use Rattle.graph.specs.Targets.{Targets}
use Rattle.graph.specs.declared.keys.Keys.{Keys}
use Rattle.graph.specs.declared.remaining.Remaining.{Remaining}
use Rattle.flat.specs.Flat.{Tagged}
use Rattle.records.specs.declared.op.OpRecord.{OpRecord}
use Rattle.state.specs.declared.operation.ActFields.{ActFields}
use Rattle.state.specs.declared.operation.Added.{Added}
use Rattle.state.specs.declared.operation.Operation.{Operation}
use Rattle.valid.specs.Values.{Fields, packed_labels, tagged_record}
use Rattle.valid.specs.Inner.Decoded.{labels_of, tagged_of}

abbrev pub op_value : Operation → Op
op_value o = record { act = o.act; held = o.held; targets = targets_in o.targets; labels = labels_of o.labels }

abbrev pub add_value : Added → Labelled
add_value a = add_of a.label a.value

abbrev pub fields_value : ActFields → Fields
fields_value f = record { kind = f.kind; key = f.key; a = f.a; b = f.b }

-- the operation's record is clean: zeros after its keys and labels, no key beside all, no mark without it, and a map holds 0
pub record Normal (o : Operation) : Type 0 where
  pub targets : o.targets ≡ packed_targets (targets_in o.targets)
  pub names : o.labels ≡ packed_labels (labels_of o.labels)
  pub map_held : is_map o.act ≡ true → o.held ≡ 0

-- the call is this operation
pub record Carries (call : Labelled) (o : Operation) : Type 0 where
  pub is : call ≡ op_of (op_value o)
  pub normal : Normal o

-- a list of keys, zeros after them
pub record KeysListed (l : List ℕ) (ks : Keys) : Type 0 where
  pub is : listed ks ≡ l
  pub keys : ks ≡ packed (listed ks)

-- targets as their struct holds them
pub record TargetsHeld (t : Targets) (r : Remaining) : Type 0 where
  pub is : targets_in r ≡ t
  pub normal : r ≡ packed_targets (targets_in r)

-- the record stands for x, and is the one that x has
pub record RecordFor (x : Tagged) (r : OpRecord) : Type 0 where
  pub is : x ≡ tagged_of r
  pub clean : tagged_record (tagged_of r) ≡ r

-- the number n, which is at most m
pub record Bounded (n m r : ℕ) : Type 0 where
  pub is : r ≡ n
  pub within : r ≤ m
