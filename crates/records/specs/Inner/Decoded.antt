-- What the bytes of a record say.
-- Assumes nothing.
use Rattle.std.specs.Prelude.{ℕ, ◌+◌, ◌≡◌, List, [], ◌∷◌, get_or}
use Rattle.records.specs.declared.labels.Labels.{Labels}
use Rattle.records.specs.declared.node.NodeRecord.{NodeRecord}
use Rattle.records.specs.declared.op.OpRecord.{OpRecord}
use Rattle.records.specs.declared.result.ResultRecord.{ResultRecord}
use Rattle.records.specs.Inner.Numbers.{le16, le32, keys_at}

-- a list of labels, 9 bytes
abbrev pub labels_at : List ℕ → ℕ → Labels
labels_at s at = record { count = get_or s at 0; label = le16 s (at + 1) ∷ le16 s (at + 3) ∷ le16 s (at + 5) ∷ le16 s (at + 7) ∷ [] }

-- a node, 16 bytes
unfoldable pub decode_node : List ℕ → NodeRecord
decode_node s = record { value = le32 s 0; key = get_or s 4 0; links = keys_at s 5; spare = le16 s 14 }

-- an operation, 32 bytes
unfoldable pub decode_op : List ℕ → OpRecord
decode_op s =
    record {
      station = get_or s 0 0;
      opens = get_or s 1 0;
      kind = get_or s 2 0;
      key = get_or s 3 0;
      a = le32 s 4;
      b = le32 s 8;
      targets = keys_at s 12;
      labels = labels_at s 21;
      all = get_or s 30 0;
      mark = get_or s 31 0;
    }

-- a result, 16 bytes
unfoldable pub decode_result : List ℕ → ResultRecord
decode_result s = record { label = le16 s 0; value = le32 s 2; left = keys_at s 6; spare = get_or s 15 0 }

-- bytes of a record that give it back
module _ {A : Type 0} where
  pub record Encodes (encode : A → List ℕ) (decode : List ℕ → A) (x : A) (bs : List ℕ) : Type 0 where
    pub bytes : bs ≡ encode x
    pub back : decode bs ≡ x
