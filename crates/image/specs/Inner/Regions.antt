-- The image as records at fixed places: what it shows, and what its readers and writers keep.
-- Assumes nothing.
use Rattle.std.specs.Prelude.{ℕ, ◌+◌, ◌*◌, ◌≤◌, ◌<◌, ◌≡◌, List, [], ◌∷◌, ◌++◌, length, get_or, take, drop}
use Rattle.records.specs.declared.node.NodeRecord.{NodeRecord}
use Rattle.records.specs.declared.op.OpRecord.{OpRecord}
use Rattle.records.specs.declared.result.ResultRecord.{ResultRecord}
use Rattle.records.specs.Records.{image_version}
use Rattle.records.specs.Inner.Numbers.{le16, chunk, tab}
use Rattle.records.specs.Inner.Decoded.{decode_node, decode_op, decode_result}
use Rattle.image.specs.Layout.{View}

-- a region of the image: the head's byte that counts its records, where they begin, their size, and what their bytes say
pub record Region (A : Type 0) : Type 0 where
  pub slot : ℕ
  pub base : ℕ
  pub size : ℕ
  pub decode : List ℕ → A

abbrev pub node_region : Region NodeRecord
node_region = record { slot = 1; base = 16; size = 16; decode = decode_node }

abbrev pub op_region : Region OpRecord
op_region = record { slot = 2; base = 1040; size = 32; decode = decode_op }

abbrev pub result_region : Region ResultRecord
result_region = record { slot = 3; base = 3088; size = 16; decode = decode_result }

module _ {A : Type 0} (R : Region A) where
  -- where record i begins; it ends where the next begins, and 64 records fill the region
  abbrev pub place : ℕ → ℕ
  place i = R.base + R.size * i

  unfoldable pub record_at : List ℕ → ℕ → A
  record_at s i = R.decode (chunk s (place i) R.size)

  -- the records in use
  unfoldable pub listed_in : List ℕ → List A
  listed_in s = tab (get_or s R.slot 0) (record_at s)

  -- the record of zeros, where no record is
  abbrev pub blank : A
  blank = R.decode []

abbrev pub view : List ℕ → View
view s = record { nodes = listed_in node_region s; ops = listed_in op_region s; results = listed_in result_region s; last = le16 s 4 }

pub record Sound (s : List ℕ) : Type 0 where
  pub size : length s ≡ 4112
  pub nodes : length (view s).nodes ≤ 64
  pub ops : length (view s).ops ≤ 64
  pub results : length (view s).results ≤ 64

-- the bytes from a up to, not including, b are zero
abbrev pub Zeros : List ℕ → ℕ → ℕ → Type 0
Zeros s a b = (i : ℕ) → a ≤ i → i < b → get_or s i 0 ≡ 0

-- the version is `image_version`, and whatever no record uses is zero
pub record Canonical (s : List ℕ) : Type 0 where
  pub version : get_or s 0 0 ≡ image_version
  pub head : Zeros s 6 16
  pub nodes : Zeros s (place node_region (length (view s).nodes)) (place node_region 64)
  pub ops : Zeros s (place op_region (length (view s).ops)) (place op_region 64)
  pub results : Zeros s (place result_region (length (view s).results)) (place result_region 64)

-- what a writer states of the image before and after it: it shows v now, it stays sound, and canonical bytes stay canonical
pub record ViewWritten (v : View) (s t : List ℕ) : Type 0 where
  pub after : view t ≡ v
  pub sound : Sound t
  pub canonical : Canonical s → Canonical t

abbrev pub view_with_nodes : View → List NodeRecord → View
view_with_nodes v ns = record { nodes = ns; ops = v.ops; results = v.results; last = v.last }

abbrev pub view_with_ops : View → List OpRecord → View
view_with_ops v os = record { nodes = v.nodes; ops = os; results = v.results; last = v.last }

abbrev pub view_with_results : View → List ResultRecord → View
view_with_results v rs = record { nodes = v.nodes; ops = v.ops; results = rs; last = v.last }

abbrev pub view_with_last : View → ℕ → View
view_with_last v l = record { nodes = v.nodes; ops = v.ops; results = v.results; last = l }

-- a list with x before its element at p
module _ {A : Type 0} where
  abbrev pub insert_at : ℕ → A → List A → List A
  insert_at p x xs = take p xs ++ (x ∷ drop p xs)
