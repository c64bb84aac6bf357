-- Single fields of a record, read where they stand.
-- Assumes nothing.
use mathlib.Core.Path.{◌≡◌, sym, ap, ◌∙◌}
use Prim.Native.Nat.{ℕ, ◌+◌, ◌*◌, ◌<◌}
use native.Mathlib.Omega.{arith}
use mathlib.Core.List.{List, [], ◌∷◌}
use lib.ListN.{length, get_or}
use Rattle.records.specs.declared.op.OpRecord.{OpRecord}
use Rattle.records.specs.declared.result.ResultRecord.{ResultRecord}
use Rattle.records.specs.Inner.Numbers.{le16, chunk}
use Rattle.records.specs.Inner.Decoded.{labels_at, decode_op, decode_result}
use Rattle.image.specs.Inner.Regions.{place, record_at, listed_in, blank, op_region, result_region}
use Rattle.image.proofs.Parts.{chunk_byte}
use Rattle.image.proofs.Regions.{record_of}

-- byte k of the record at p, which stands at n
byte : (s : List ℕ) (p size n k : ℕ) → n ≡ p + k → k < size → get_or s n 0 ≡ get_or (chunk s p size) k 0
byte s p size n k e h = ap (λ (m : ℕ). get_or s m 0) e ∙ sym (chunk_byte s p size k h)

module _ (s : List ℕ) (i : ℕ) (h : i < length (listed_in op_region s)) where
  abbrev p : ℕ
  p = place op_region i

  field : {A : Type 0} (f : OpRecord → A) → f (record_at op_region s i) ≡ f (get_or (listed_in op_region s) i (blank op_region))
  field f = ap f (record_of op_region s i h)

  pub station_of : get_or s (1040 + 32 * i) 0 ≡ (get_or (listed_in op_region s) i (blank op_region)).station
  unfolding record_at decode_op
  station_of = byte s p 32 (1040 + 32 * i) 0 (omega arith) (omega arith) ∙ field (λ o. o.station)

  pub opens_of : get_or s (1041 + 32 * i) 0 ≡ (get_or (listed_in op_region s) i (blank op_region)).opens
  unfolding record_at decode_op
  opens_of = byte s p 32 (1041 + 32 * i) 1 (omega arith) (omega arith) ∙ field (λ o. o.opens)

  pub kind_of_law : get_or s (1042 + 32 * i) 0 ≡ (get_or (listed_in op_region s) i (blank op_region)).kind
  unfolding record_at decode_op
  kind_of_law = byte s p 32 (1042 + 32 * i) 2 (omega arith) (omega arith) ∙ field (λ o. o.kind)

  pub labels_of_law : labels_at s (1061 + 32 * i) ≡ (get_or (listed_in op_region s) i (blank op_region)).labels
  unfolding record_at decode_op
  labels_of_law =
      let n : ℕ = 1061 + 32 * i in
      let at : (m k : ℕ) → m ≡ p + k → k < 32 → get_or s m 0 ≡ get_or (chunk s p 32) k 0 = byte s p 32 in
      let pair : (m k : ℕ) → m ≡ p + k → k < 31 → le16 s m ≡ le16 (chunk s p 32) k = λ m k e l. λ j. at m k e (omega arith) j + at (m + 1) (k + 1) (omega arith) (omega arith) j * 256 in
      (λ j.
      record {
        count = at n 21 (omega arith) (omega arith) j;
        label = pair (n + 1) 22 (omega arith) (omega arith) j ∷ pair (n + 3) 24 (omega arith) (omega arith) j ∷ pair (n + 5) 26 (omega arith) (omega arith) j ∷ pair (n + 7) 28 (omega arith) (omega arith) j ∷ [];
      })
      ∙ field (λ o. o.labels)

pub label_of : (s : List ℕ) (i : ℕ) → i < length (listed_in result_region s) → le16 s (3088 + 16 * i) ≡ (get_or (listed_in result_region s) i (blank result_region)).label
unfolding record_at decode_result
label_of s i h =
    (λ j. byte s (place result_region i) 16 (3088 + 16 * i) 0 (omega arith) (omega arith) j + byte s (place result_region i) 16 (3088 + 16 * i + 1) 1 (omega arith) (omega arith) j * 256)
    ∙ ap (λ (r : ResultRecord). r.label) (record_of result_region s i h)
