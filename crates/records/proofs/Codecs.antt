-- Each record is given back by its bytes, and its bytes are given back by what they say.
-- Assumes nothing.
use mathlib.Core.Path.{◌≡◌, refl, ap, ◌∙◌}
use Prim.Native.Nat.{ℕ, zero, suc, ◌+◌, ◌*◌, ◌/◌, ◌%◌, ◌^◌, ◌<◌}
use native.Mathlib.Omega.{arith}
use mathlib.Core.List.{List, [], ◌∷◌, ◌++◌}
use lib.ListN.{length, get_or}
use Rattle.std.specs.Int.{w32, to_le_bytes}
use Rattle.graph.specs.Words.{modulus}
use Rattle.graph.specs.declared.keys.Keys.{Keys}
use Rattle.records.specs.declared.labels.Labels.{Labels}
use Rattle.records.specs.declared.node.NodeRecord.{NodeRecord}
use Rattle.records.specs.declared.op.OpRecord.{OpRecord}
use Rattle.records.specs.declared.result.ResultRecord.{ResultRecord}
use Rattle.records.specs.Inner.Numbers.{le16, le32, keys_at, tab}
use Rattle.records.specs.Bytes.{bytes16, bytes32, bytes8, encode_keys}
use Rattle.records.specs.Inner.Decoded.{Encodes, labels_at, decode_node, decode_op, decode_result}
use Rattle.records.specs.Records.{encode_labels, encode_node, encode_op, encode_result}
use Rattle.records.proofs.Tables.{tab_all}

-- the elements of a list are bytes
abbrev pub Bytes : List ℕ → Type 0
Bytes s = (i : ℕ) → get_or s i 0 < 256

-- NUMBERS
pub back16 : (v : ℕ) → v < 2 ^ 16 → le16 (bytes16 v) 0 ≡ v
back16 v h = omega arith

back32 : (v : ℕ) → v < modulus → le32 (bytes32 v) 0 ≡ v
back32 v h = omega arith

-- the four bytes as std writes them
pub written32 : (v : ℕ) → to_le_bytes w32 v ≡ bytes32 v
written32 v =
    let two : v / 65536 % 256 ≡ v / 256 / 256 % 256 = omega arith in
    let three : v / 16777216 % 256 ≡ v / 256 / 256 / 256 % 256 = omega arith in
    λ i. v % 256 ∷ v / 256 % 256 ∷ two i ∷ three i ∷ []

low : (a y : ℕ) → a < 256 → (a + y * 256) % 256 ≡ a
low a y h = omega arith

high : (a y : ℕ) → a < 256 → (a + y * 256) / 256 ≡ y
high a y h = omega arith

pub there16 : (a b : ℕ) → a < 256 → b < 256 → bytes16 (a + b * 256) ≡ a ∷ b ∷ []
there16 a b ha hb =
    let b' : b % 256 ≡ b = omega arith in
    simp (low, high, b')

there32 : (a b c d : ℕ) → a < 256 → b < 256 → c < 256 → d < 256 → bytes32 (a + (b + (c + d * 256) * 256) * 256) ≡ a ∷ b ∷ c ∷ d ∷ []
there32 a b c d ha hb hc hd =
    let d' : d % 256 ≡ d = omega arith in
    simp (low, high, d')

-- what is known of the values of each type
pub record FitKeys (k : Keys) : Type 0 where
  pub places : length k.key ≡ 8

pub record FitLabels (l : Labels) : Type 0 where
  pub places : length l.label ≡ 4
  pub small : (i : ℕ) → i < 4 → get_or l.label i 0 < 2 ^ 16

pub record FitNode (n : NodeRecord) : Type 0 where
  pub value : n.value < modulus
  pub links : FitKeys n.links
  pub spare : n.spare < 2 ^ 16

pub record FitOp (o : OpRecord) : Type 0 where
  pub a : o.a < modulus
  pub b : o.b < modulus
  pub targets : FitKeys o.targets
  pub labels : FitLabels o.labels

pub record FitResult (r : ResultRecord) : Type 0 where
  pub label : r.label < 2 ^ 16
  pub value : r.value < modulus
  pub left : FitKeys r.left

-- SIZES
pub node_size : (n : NodeRecord) → length (encode_node n) ≡ 16
unfolding encode_node
node_size n = refl

pub op_size : (o : OpRecord) → length (encode_op o) ≡ 32
unfolding encode_op
op_size o = refl

pub result_size : (r : ResultRecord) → length (encode_result r) ≡ 16
unfolding encode_result
result_size r = refl

-- DECODE OF ENCODE
eight : (t : List ℕ) → length t ≡ 8 → bytes8 t 0 ≡ t
unfolding tab
eight t e = tab_all 8 t 0 e

keys_back : (k : Keys) → FitKeys k → keys_at (encode_keys k) 0 ≡ k
keys_back k f = λ i. record { count = k.count; key = eight k.key f.places i }

labels_back : (l : Labels) → FitLabels l → labels_at (encode_labels l) 0 ≡ l
unfolding tab
labels_back l f =
    let x : (i : ℕ) → i < 4 → le16 (bytes16 (get_or l.label i 0)) 0 ≡ get_or l.label i 0 = λ i h. back16 (get_or l.label i 0) (f.small i h) in
    let two : ℕ → ℕ = λ i. le16 (bytes16 (get_or l.label i 0)) 0 in
    let p : two 0 ∷ two 1 ∷ two 2 ∷ two 3 ∷ [] ≡ l.label =
    (λ i. x 0 (omega arith) i ∷ x 1 (omega arith) i ∷ x 2 (omega arith) i ∷ x 3 (omega arith) i ∷ []) ∙ tab_all 4 l.label 0 f.places in
    λ i. record { count = l.count; label = p i }

pub node_back : (n : NodeRecord) → FitNode n → decode_node (encode_node n) ≡ n
unfolding decode_node encode_node
node_back n f = λ i. record { value = back32 n.value f.value i; key = n.key; links = keys_back n.links f.links i; spare = back16 n.spare f.spare i }

pub op_back : (o : OpRecord) → FitOp o → decode_op (encode_op o) ≡ o
unfolding decode_op encode_op
op_back o f =
    λ i. record {
      station = o.station;
      opens = o.opens;
      kind = o.kind;
      key = o.key;
      a = back32 o.a f.a i;
      b = back32 o.b f.b i;
      targets = keys_back o.targets f.targets i;
      labels = labels_back o.labels f.labels i;
      all = o.all;
      mark = o.mark;
    }

pub result_back : (r : ResultRecord) → FitResult r → decode_result (encode_result r) ≡ r
unfolding decode_result encode_result
result_back r f =
    λ i. record { label = back16 r.label f.label i; value = back32 r.value f.value i; left = keys_back r.left f.left i; spare = r.spare }

-- bytes that are those of a record
pub node_encodes : (n : NodeRecord) → FitNode n → (bs : List ℕ) → bs ≡ encode_node n → Encodes encode_node decode_node n bs
node_encodes n f bs e = record { bytes = e; back = ap decode_node e ∙ node_back n f }

pub op_encodes : (o : OpRecord) → FitOp o → (bs : List ℕ) → bs ≡ encode_op o → Encodes encode_op decode_op o bs
op_encodes o f bs e = record { bytes = e; back = ap decode_op e ∙ op_back o f }

pub result_encodes : (r : ResultRecord) → FitResult r → (bs : List ℕ) → bs ≡ encode_result r → Encodes encode_result decode_result r bs
result_encodes r f bs e = record { bytes = e; back = ap decode_result e ∙ result_back r f }

-- ENCODE OF DECODE
module _ (s : List ℕ) (b : Bytes s) where
  two : (at : ℕ) → bytes16 (le16 s at) ≡ get_or s at 0 ∷ get_or s (at + 1) 0 ∷ []
  two at = there16 _ _ (b at) (b (at + 1))

  four : (at : ℕ) → bytes32 (le32 s at) ≡ get_or s at 0 ∷ get_or s (at + 1) 0 ∷ get_or s (at + 2) 0 ∷ get_or s (at + 3) 0 ∷ []
  four at = there32 _ _ _ _ (b at) (b (at + 1)) (b (at + 2)) (b (at + 3))

  pub node_there : length s ≡ 16 → encode_node (decode_node s) ≡ s
  unfolding decode_node encode_node tab
  node_there e = (λ i. four 0 i ++ (get_or s 4 0 ∷ []) ++ encode_keys (keys_at s 5) ++ two 14 i) ∙ tab_all 16 s 0 e

  pub op_there : length s ≡ 32 → encode_op (decode_op s) ≡ s
  unfolding decode_op encode_op tab
  op_there e =
      (λ i. (get_or s 0 0 ∷ get_or s 1 0 ∷ get_or s 2 0 ∷ get_or s 3 0 ∷ []) ++ four 4 i ++ four 8 i ++ encode_keys (keys_at s 12)
      ++ ((get_or s 21 0 ∷ []) ++ two 22 i ++ two 24 i ++ two 26 i ++ two 28 i)
      ++ (get_or s 30 0 ∷ get_or s 31 0 ∷ []))
      ∙ tab_all 32 s 0 e

  pub result_there : length s ≡ 16 → encode_result (decode_result s) ≡ s
  unfolding decode_result encode_result tab
  result_there e = (λ i. two 0 i ++ four 2 i ++ encode_keys (keys_at s 6) ++ (get_or s 15 0 ∷ [])) ∙ tab_all 16 s 0 e

  -- what is decoded from bytes fits
  small16 : (at : ℕ) → le16 s at < 2 ^ 16
  small16 at = omega (arith, b at, b (at + 1))

  small32 : (at : ℕ) → le32 s at < modulus
  small32 at = omega (arith, b at, b (at + 1), b (at + 2), b (at + 3))

  pub fit_node : FitNode (decode_node s)
  unfolding decode_node
  fit_node = record { value = small32 0; links = record { places = refl }; spare = small16 14 }

  small_labels : (i : ℕ) → i < 4 → get_or (labels_at s 21).label i 0 < 2 ^ 16
  small_labels zero h = small16 22
  small_labels (suc zero) h = small16 24
  small_labels (suc (suc zero)) h = small16 26
  small_labels (suc (suc (suc zero))) h = small16 28
  small_labels (suc (suc (suc (suc i)))) h = omega arith

  pub fit_op : FitOp (decode_op s)
  unfolding decode_op
  fit_op =
      record {
        a = small32 4;
        b = small32 8;
        targets = record { places = refl };
        labels = record { places = refl; small = small_labels };
      }

  pub fit_result : FitResult (decode_result s)
  unfolding decode_result
  fit_result = record { label = small16 0; value = small32 2; left = record { places = refl } }
