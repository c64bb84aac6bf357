-- The bytes of each record of an image (docs/IMAGE.md).
-- Assumes nothing.
use Rattle.std.specs.Prelude.{ℕ, List, [], ◌∷◌, ◌++◌, get_or}
use Rattle.records.specs.declared.head.Head.{Head}
use Rattle.records.specs.declared.labels.Labels.{Labels}
use Rattle.records.specs.declared.node.NodeRecord.{NodeRecord}
use Rattle.records.specs.declared.op.OpRecord.{OpRecord}
use Rattle.records.specs.declared.result.ResultRecord.{ResultRecord}
use Rattle.records.specs.Bytes.{bytes16, bytes32, encode_keys}

-- the image's version: docs/IMAGE.md says what each changed
abbrev pub image_version : ℕ
image_version = 3

-- the head: the version, three counts, the last label given, ten zeros
unfoldable pub encode_head : Head → List ℕ
encode_head h =
    (image_version ∷ h.nodes ∷ h.ops ∷ h.results ∷ []) ++ bytes16 h.last ++ (0 ∷ 0 ∷ 0 ∷ 0 ∷ 0 ∷ 0 ∷ 0 ∷ 0 ∷ 0 ∷ 0 ∷ [])

-- a list of labels, 9 bytes
abbrev pub encode_labels : Labels → List ℕ
encode_labels l =
    (l.count ∷ [])
    ++ bytes16 (get_or l.label 0 0)
    ++ bytes16 (get_or l.label 1 0)
    ++ bytes16 (get_or l.label 2 0)
    ++ bytes16 (get_or l.label 3 0)

-- a node, 16 bytes
unfoldable pub encode_node : NodeRecord → List ℕ
encode_node n = bytes32 n.value ++ (n.key ∷ []) ++ encode_keys n.links ++ bytes16 n.spare

-- an operation, 32 bytes
unfoldable pub encode_op : OpRecord → List ℕ
encode_op o =
    (o.station ∷ o.opens ∷ o.kind ∷ o.key ∷ [])
    ++ bytes32 o.a
    ++ bytes32 o.b
    ++ encode_keys o.targets
    ++ encode_labels o.labels
    ++ (o.all ∷ o.mark ∷ [])

-- a result, 16 bytes
unfoldable pub encode_result : ResultRecord → List ℕ
encode_result r = bytes16 r.label ++ bytes32 r.value ++ encode_keys r.left ++ (r.spare ∷ [])
