-- The bytes of an image: its head, and the records of each region at fixed places (docs/IMAGE.md).
-- Assumes nothing.
use Rattle.std.specs.Prelude.{ℕ, ◌-◌, List, ◌++◌, length, replicate}
use Rattle.text.specs.Text.{texts}
use Rattle.records.specs.declared.head.Head.{Head}
use Rattle.records.specs.declared.node.NodeRecord.{NodeRecord}
use Rattle.records.specs.declared.op.OpRecord.{OpRecord}
use Rattle.records.specs.declared.result.ResultRecord.{ResultRecord}
use Rattle.records.specs.Records.{encode_head, encode_node, encode_op, encode_result}

-- what an image shows
pub record View : Type 0 where
  pub nodes : List NodeRecord
  pub ops : List OpRecord
  pub results : List ResultRecord
  pub last : ℕ

-- the bytes of a view: the head, then each region's records, one after the other, and zeros up to its end
abbrev pub zero_padded : ℕ → List ℕ → List ℕ
zero_padded n bs = bs ++ replicate (n - length bs) 0

abbrev pub head_record : View → Head
head_record v = record { nodes = length v.nodes; ops = length v.ops; results = length v.results; last = v.last }

unfoldable pub image_of : View → List ℕ
image_of v =
    encode_head (head_record v)
    ++ (zero_padded 1024 (texts encode_node v.nodes)
    ++ (zero_padded 2048 (texts encode_op v.ops)
    ++ zero_padded 1024 (texts encode_result v.results)))
