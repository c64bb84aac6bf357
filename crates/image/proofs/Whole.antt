-- A canonical image is the image of what it shows, and the image of a view shows it.
-- Assumes nothing.
use mathlib.Core.Path.{◌≡◌, refl, sym, ap, ap₂, subst, ◌∙◌}
use Prim.Native.Nat.{ℕ, zero, suc, ◌+◌, ◌*◌, ◌-◌, ◌≤◌, ◌<◌, ◌^◌}
use native.Mathlib.Nat.{mul-suc, mul-zero, mul-le-mul_left, not-suc-le-zero, le_of_suc-le-suc}
use native.Mathlib.Omega.{arith}
use native.Mathlib.Decide.{dec_lt}
use mathlib.Core.List.{List, [], ◌∷◌, ◌++◌, append_assoc, append-nil}
use lib.ListN.{length, get_or, take, drop, replicate, length-append, length-take, length-drop, length-replicate, get_or-replicate, get_or-append, get_or-eq_default}
use lib.Seq.{get_or-append-add, ext_get_or, take_all, take-add, drop-drop, take_at, drop_at}
use Rattle.text.specs.Text.{texts}
use Rattle.text.proofs.CommaLists.{texts_append}
use Rattle.records.specs.Bytes.{bytes16}
use Rattle.records.specs.Inner.Numbers.{chunk, tab}
use Rattle.records.specs.Records.{image_version, encode_head, encode_node, encode_op, encode_result}
use Rattle.records.specs.declared.head.Head.{Head}
use Rattle.records.proofs.Tables.{tab_snoc, tab_is}
use Rattle.records.proofs.Codecs.{Bytes, FitNode, FitOp, FitResult, node_back, op_back, result_back, node_there, op_there, result_there, node_size, op_size, result_size, back16, there16}
use Rattle.image.specs.Inner.Regions.{Region, place, record_at, listed_in, blank, Zeros, Sound, Canonical, view, node_region, op_region, result_region}
use Rattle.image.specs.Layout.{View, zero_padded, head_record, image_of}
use Rattle.image.proofs.Parts.{next_place, chunk_same, chunk_is, chunk_byte}
use Rattle.image.proofs.Regions.{count_of}

chunk_length : (s : List ℕ) (b n : ℕ) → b + n ≤ length s → length (chunk s b n) ≡ n
unfolding chunk
chunk_length s b n h = simp (length-take, length-drop) (omega arith)

pub chunk_bytes : (s : List ℕ) → Bytes s → (b n : ℕ) → b + n ≤ length s → Bytes (chunk s b n)
chunk_bytes s y b n h i = go (dec_lt i n)
  where
    go : Dec (i < n) → get_or (chunk s b n) i 0 < 256
    go (yes l) = subst (λ (k : ℕ). k < 256) (sym (chunk_byte s b n i l)) (y (b + i))
    go (no l) = subst (λ (k : ℕ). k < 256) (sym (get_or-eq_default (chunk s b n) 0 (omega (arith, chunk_length s b n h)))) (omega arith)

chunk_add : (s : List ℕ) (b m n : ℕ) → chunk s b m ++ chunk s (b + m) n ≡ chunk s b (m + n)
unfolding chunk
chunk_add s b m n = sym (take-add m n (drop b s) ∙ ap (λ (l : List ℕ). take m (drop b s) ++ take n l) (drop-drop m b s))

-- ONE REGION
module _ {A : Type 0} (R : Region A) (encode : A → List ℕ) (size : (x : A) → length (encode x) ≡ R.size) where
  texts_one : (x : A) → texts encode (x ∷ []) ≡ encode x
  texts_one x = append-nil (encode x)

  texts_none : texts encode [] ≡ []
  texts_none = refl

  pub texts_length : (xs : List A) → length (texts encode xs) ≡ R.size * length xs
  texts_length [] = sym (mul-zero R.size)
  texts_length (x ∷ xs) = length-append (encode x) (texts encode xs) ∙ omega (arith, size x, texts_length xs, mul-suc R.size (length xs))

  -- from bytes to records and back
  module _ (there : (bs : List ℕ) → Bytes bs → length bs ≡ R.size → encode (R.decode bs) ≡ bs) (s : List ℕ) (y : Bytes s) (fits : place R 64 ≤ length s) where
    records_there : (n : ℕ) → n ≤ 64 → texts encode (tab n (record_at R s)) ≡ chunk s R.base (R.size * n)
    unfolding tab record_at chunk
    records_there zero h = texts_none ∙ ap (λ (k : ℕ). chunk s R.base k) (sym (mul-zero R.size))
    records_there (suc n) h =
        let next = next_place R.size n 64 h in
        ap (texts encode) (tab_snoc n (record_at R s))
        ∙ texts_append encode (tab n (record_at R s)) (record_at R s n ∷ [])
        ∙ ap₂ ◌++◌ (records_there n (omega arith))
        (texts_one (record_at R s n) ∙ there (chunk s (place R n) R.size) (chunk_bytes s y (place R n) R.size (omega arith)) (chunk_length s (place R n) R.size (omega arith)))
        ∙ chunk_add s R.base (R.size * n) R.size
        ∙ ap (chunk s R.base) (sym (mul-suc R.size n))

    pub region_there : length (listed_in R s) ≤ 64 → Zeros s (place R (length (listed_in R s))) (place R 64) → zero_padded (R.size * 64) (texts encode (listed_in R s)) ≡ chunk s R.base (R.size * 64)
    unfolding listed_in
    region_there few z =
        let n = get_or s R.slot 0 in
        let count : length (listed_in R s) ≡ n = count_of R s in
        let small : n ≤ 64 = omega arith in
        let full : R.size * n ≤ R.size * 64 = mul-le-mul_left {m = n} {n = 64} R.size small in
        let len : length (texts encode (listed_in R s)) ≡ R.size * n = texts_length (listed_in R s) ∙ ap (λ (k : ℕ). R.size * k) count in
        let rest : replicate (R.size * 64 - R.size * n) 0 ≡ chunk s (R.base + R.size * n) (R.size * 64 - R.size * n) =
        ext_get_or 0 (replicate (R.size * 64 - R.size * n) 0) (chunk s (R.base + R.size * n) (R.size * 64 - R.size * n))
        (length-replicate (R.size * 64 - R.size * n) 0 ∙ sym (chunk_length s (R.base + R.size * n) (R.size * 64 - R.size * n) (omega arith)))
        (λ i l.
        let k : i < R.size * 64 - R.size * n = omega (arith, length-replicate {A = ℕ} (R.size * 64 - R.size * n) 0) in
        get_or-replicate (R.size * 64 - R.size * n) i 0 0 k
        ∙ sym (chunk_byte s (R.base + R.size * n) (R.size * 64 - R.size * n) i k
        ∙ z (R.base + R.size * n + i) (subst (λ (m : ℕ). place R m ≤ R.base + R.size * n + i) (sym count) (omega arith)) (omega arith))) in
        ap (λ (k : ℕ). texts encode (listed_in R s) ++ replicate (R.size * 64 - k) 0) len
        ∙ ap₂ ◌++◌ (records_there n small) rest
        ∙ chunk_add s R.base (R.size * n) (R.size * 64 - R.size * n)
        ∙ ap (chunk s R.base) (omega arith)

  -- from records to bytes and back
  module _ (xs : List A) (few : length xs ≤ 64) where
    abbrev pub part : List ℕ
    part = zero_padded (R.size * 64) (texts encode xs)

    full : R.size * length xs ≤ R.size * 64
    full = mul-le-mul_left {m = length xs} {n = 64} R.size few

    pub part_length : length part ≡ R.size * 64
    part_length = length-append (texts encode xs) (replicate (R.size * 64 - length (texts encode xs)) 0)
        ∙ omega (arith, texts_length xs, full, length-replicate {A = ℕ} (R.size * 64 - length (texts encode xs)) 0)

    -- record i of the bytes of a list
    texts_at : (ys : List A) (rest : List ℕ) (i : ℕ) → i < length ys → chunk (texts encode ys ++ rest) (R.size * i) R.size ≡ encode (get_or ys i (blank R))
    unfolding chunk
    texts_at [] rest i h = absurd (not-suc-le-zero h)
    texts_at (x ∷ ys) rest zero h =
        ap (λ (k : ℕ). take R.size (drop k (encode x ++ texts encode ys ++ rest))) (mul-zero R.size)
        ∙ ap (take R.size) (append_assoc (encode x) (texts encode ys) rest)
        ∙ take_at (encode x) (texts encode ys ++ rest) R.size (size x)
    texts_at (x ∷ ys) rest (suc i) h =
        let e : R.size * suc i ≡ R.size + R.size * i = omega (arith, mul-suc R.size i) in
        ap (λ (k : ℕ). take R.size (drop k (encode x ++ texts encode ys ++ rest))) e
        ∙ ap (λ (l : List ℕ). take R.size (drop (R.size + R.size * i) l)) (append_assoc (encode x) (texts encode ys) rest)
        ∙ ap (take R.size) (sym (drop-drop (R.size * i) R.size (encode x ++ (texts encode ys ++ rest))) ∙ ap (drop (R.size * i)) (drop_at (encode x) (texts encode ys ++ rest) R.size (size x)))
        ∙ texts_at ys rest i (le_of_suc-le-suc h)

    -- the part stands at the region's base
    module _ (P Q : List ℕ) (base : length P ≡ R.base) where
      abbrev pub image : List ℕ
      image = P ++ (part ++ Q)

      in_part : (k : ℕ) → k < R.size * 64 → get_or image (R.base + k) 0 ≡ get_or part k 0
      in_part k h =
          ap (λ (b : ℕ). get_or (P ++ (part ++ Q)) (b + k) 0) (sym base) ∙ get_or-append-add P (part ++ Q) k 0 ∙ get_or-append part Q 0 k (omega (arith, part_length))

      image_fits : place R 64 ≤ length image
      image_fits = omega (arith, length-append P (part ++ Q), length-append part Q, part_length, base)

      pub part_listed : get_or image R.slot 0 ≡ length xs → ((i : ℕ) → i < length xs → R.decode (encode (get_or xs i (blank R))) ≡ get_or xs i (blank R)) → listed_in R image ≡ xs
      unfolding listed_in record_at
      part_listed e back =
          ap (λ (n : ℕ). tab n (record_at R image)) e
          ∙ tab_is (length xs) (record_at R image) xs (blank R) refl
          (λ i h.
          let next = next_place R.size i 64 (omega arith) in
          ap R.decode
          (chunk_same image part (place R i) (R.size * i) R.size (omega (arith, image_fits)) (omega (arith, part_length))
          (λ k l. ap (λ (m : ℕ). get_or image m 0) (omega arith) ∙ in_part (R.size * i + k) (omega arith))
          ∙ texts_at xs (replicate (R.size * 64 - length (texts encode xs)) 0) i h)
          ∙ back i h)

      pub part_zeros : Zeros image (place R (length xs)) (place R 64)
      part_zeros i lo hi =
          let k : ℕ = i - R.base in
          let e : i ≡ R.base + k = omega arith in
          let l : k ≡ length (texts encode xs) + (k - R.size * length xs) = omega (arith, texts_length xs) in
          ap (λ (m : ℕ). get_or image m 0) e ∙ in_part k (omega arith)
          ∙ ap (λ (m : ℕ). get_or (texts encode xs ++ replicate (R.size * 64 - length (texts encode xs)) 0) m 0) l
          ∙ get_or-append-add (texts encode xs) (replicate (R.size * 64 - length (texts encode xs)) 0) (k - R.size * length xs) 0
          ∙ get_or-replicate (R.size * 64 - length (texts encode xs)) (k - R.size * length xs) 0 0 (omega (arith, texts_length xs))

-- THE WHOLE
ten_zeros : (k : ℕ) → get_or {A = ℕ} (replicate 10 0) k 0 ≡ 0
ten_zeros k = go (dec_lt k 10)
  where
    go : Dec (k < 10) → get_or {A = ℕ} (replicate 10 0) k 0 ≡ 0
    go (yes h) = get_or-replicate 10 k 0 0 h
    go (no h) = get_or-eq_default (replicate 10 0) 0 {n = k} (omega (arith, length-replicate {A = ℕ} 10 0))

head_byte : (h : Head) (s : List ℕ) → get_or s 0 0 ≡ image_version → get_or s 1 0 ≡ h.nodes → get_or s 2 0 ≡ h.ops → get_or s 3 0 ≡ h.results → bytes16 h.last ≡ get_or s 4 0 ∷ get_or s 5 0 ∷ [] → Zeros s 6 16
    → (k : ℕ) → k < 16 → get_or s k 0 ≡ get_or (encode_head h) k 0
unfolding encode_head
head_byte h s v n o r l z zero d = v
head_byte h s v n o r l z (suc zero) d = n
head_byte h s v n o r l z (suc (suc zero)) d = o
head_byte h s v n o r l z (suc (suc (suc zero))) d = r
head_byte h s v n o r l z (suc (suc (suc (suc zero)))) d = sym (ap (λ (x : List ℕ). get_or x 0 0) l)
head_byte h s v n o r l z (suc (suc (suc (suc (suc zero))))) d = sym (ap (λ (x : List ℕ). get_or x 1 0) l)
head_byte h s v n o r l z (suc (suc (suc (suc (suc (suc k)))))) d = z (suc (suc (suc (suc (suc (suc k)))))) (omega arith) d ∙ sym (ten_zeros k)

parts : (s : List ℕ) → length s ≡ 4112 → chunk s 0 16 ++ (chunk s 16 1024 ++ (chunk s 1040 2048 ++ chunk s 3088 1024)) ≡ s
unfolding chunk
parts s e =
    ap (λ (l : List ℕ). chunk s 0 16 ++ (chunk s 16 1024 ++ l)) (chunk_add s 1040 2048 1024)
    ∙ ap (λ (l : List ℕ). chunk s 0 16 ++ l) (chunk_add s 16 1024 3072)
    ∙ chunk_add s 0 16 4096 ∙ take_all 4112 s (omega arith)

head_there : (s : List ℕ) → Bytes s → Sound s → Canonical s → encode_head (head_record (view s)) ≡ chunk s 0 16
unfolding encode_head
head_there s y h c =
    sym (chunk_is s (encode_head (head_record (view s))) 0 (omega (arith, h.size))
    (λ k l. ap (λ (i : ℕ). get_or s i 0) (omega arith)
    ∙ head_byte (head_record (view s)) s c.version (sym (count_of node_region s)) (sym (count_of op_region s)) (sym (count_of result_region s)) (there16 (get_or s 4 0) (get_or s 5 0) (y 4) (y 5)) c.head k l))

-- a canonical image is the image of what it shows
pub image_is : (s : List ℕ) → Bytes s → Sound s → Canonical s → image_of (view s) ≡ s
unfolding image_of
image_is s y h c =
    ap₂ ◌++◌ (head_there s y h c)
    (ap₂ ◌++◌ (region_there node_region encode_node node_size (λ bs b e. node_there bs b e) s y (omega (arith, h.size)) h.nodes c.nodes)
    (ap₂ ◌++◌ (region_there op_region encode_op op_size (λ bs b e. op_there bs b e) s y (omega (arith, h.size)) h.ops c.ops)
    (region_there result_region encode_result result_size (λ bs b e. result_there bs b e) s y (omega (arith, h.size)) h.results c.results)))
    ∙ parts s h.size

-- a view that an image can show
pub record Fit (v : View) : Type 0 where
  pub last : v.last < 2 ^ 16
  pub few_nodes : length v.nodes ≤ 64
  pub few_ops : length v.ops ≤ 64
  pub few_results : length v.results ≤ 64
  pub nodes : (i : ℕ) → i < length v.nodes → FitNode (get_or v.nodes i (blank node_region))
  pub ops : (i : ℕ) → i < length v.ops → FitOp (get_or v.ops i (blank op_region))
  pub results : (i : ℕ) → i < length v.results → FitResult (get_or v.results i (blank result_region))

module _ (v : View) (f : Fit v) where
  abbrev H : List ℕ
  H = encode_head (head_record v)

  abbrev N : List ℕ
  N = zero_padded 1024 (texts encode_node v.nodes)

  abbrev O : List ℕ
  O = zero_padded 2048 (texts encode_op v.ops)

  abbrev S : List ℕ
  S = zero_padded 1024 (texts encode_result v.results)

  head_length : length H ≡ 16
  unfolding encode_head
  head_length = refl

  nodes_length : length N ≡ 1024
  nodes_length = part_length node_region encode_node node_size v.nodes f.few_nodes

  ops_length : length O ≡ 2048
  ops_length = part_length op_region encode_op op_size v.ops f.few_ops

  results_length : length S ≡ 1024
  results_length = part_length result_region encode_result result_size v.results f.few_results

  before_ops : length (H ++ N) ≡ 1040
  before_ops = omega (arith, length-append H N, head_length, nodes_length)

  before_results : length (H ++ N ++ O) ≡ 3088
  before_results = omega (arith, length-append (H ++ N) O, before_ops, ops_length)

  -- the image, seen from each region
  from_nodes : image_of v ≡ H ++ (N ++ (O ++ S))
  unfolding image_of
  from_nodes = refl

  from_ops : image_of v ≡ (H ++ N) ++ (O ++ S)
  from_ops = from_nodes ∙ sym (append_assoc H N (O ++ S))

  from_results : image_of v ≡ (H ++ N ++ O) ++ (S ++ [])
  from_results = from_ops ∙ sym (append_assoc (H ++ N) O S) ∙ ap (λ (l : List ℕ). H ++ N ++ O ++ l) (sym (append-nil S))

  count_at : (i : ℕ) → i < 16 → get_or (image_of v) i 0 ≡ get_or H i 0
  count_at i h = ap (λ (l : List ℕ). get_or l i 0) from_nodes ∙ get_or-append H (N ++ (O ++ S)) 0 i (omega (arith, head_length))

  nodes_shown : listed_in node_region (image_of v) ≡ v.nodes
  unfolding encode_head
  nodes_shown =
      ap (listed_in node_region) from_nodes
      ∙ part_listed node_region encode_node node_size v.nodes f.few_nodes H (O ++ S) head_length (sym (ap (λ (l : List ℕ). get_or l 1 0) from_nodes) ∙ count_at 1 (omega arith))
      (λ i h. node_back (get_or v.nodes i (blank node_region)) (f.nodes i h))

  ops_shown : listed_in op_region (image_of v) ≡ v.ops
  unfolding encode_head
  ops_shown =
      ap (listed_in op_region) from_ops
      ∙ part_listed op_region encode_op op_size v.ops f.few_ops (H ++ N) S before_ops (sym (ap (λ (l : List ℕ). get_or l 2 0) from_ops) ∙ count_at 2 (omega arith))
      (λ i h. op_back (get_or v.ops i (blank op_region)) (f.ops i h))

  results_shown : listed_in result_region (image_of v) ≡ v.results
  unfolding encode_head
  results_shown =
      ap (listed_in result_region) from_results
      ∙ part_listed result_region encode_result result_size v.results f.few_results (H ++ N ++ O) [] before_results (sym (ap (λ (l : List ℕ). get_or l 3 0) from_results) ∙ count_at 3 (omega arith))
      (λ i h. result_back (get_or v.results i (blank result_region)) (f.results i h))

  -- the image of a view shows it
  pub view_is : view (image_of v) ≡ v
  unfolding encode_head
  view_is = λ i.
      record {
        nodes = nodes_shown i;
        ops = ops_shown i;
        results = results_shown i;
        last = ((λ j. count_at 4 (omega arith) j + count_at 5 (omega arith) j * 256) ∙ back16 v.last f.last) i;
      }

  pub image_sound : Sound (image_of v)
  image_sound =
      record {
        size = ap length from_nodes ∙ omega (arith, length-append H (N ++ (O ++ S)), length-append N (O ++ S), length-append O S, head_length, nodes_length, ops_length, results_length);
        nodes = rw nodes_shown f.few_nodes;
        ops = rw ops_shown f.few_ops;
        results = rw results_shown f.few_results;
      }

  head_zeros : (i : ℕ) → 6 ≤ i → i < 16 → get_or H i 0 ≡ 0
  unfolding encode_head
  head_zeros (suc (suc (suc (suc (suc (suc k)))))) a b = get_or-replicate 10 k 0 0 (omega arith)
  head_zeros zero a b = absurd (omega arith)
  head_zeros (suc zero) a b = absurd (omega arith)
  head_zeros (suc (suc zero)) a b = absurd (omega arith)
  head_zeros (suc (suc (suc zero))) a b = absurd (omega arith)
  head_zeros (suc (suc (suc (suc zero)))) a b = absurd (omega arith)
  head_zeros (suc (suc (suc (suc (suc zero))))) a b = absurd (omega arith)

  pub image_canonical : Canonical (image_of v)
  unfolding encode_head
  image_canonical =
      record {
        version = count_at 0 (omega arith);
        head = λ i a b. count_at i b ∙ head_zeros i a b;
        nodes = rw nodes_shown (rw from_nodes (part_zeros node_region encode_node node_size v.nodes f.few_nodes H (O ++ S) head_length));
        ops = rw ops_shown (rw from_ops (part_zeros op_region encode_op op_size v.ops f.few_ops (H ++ N) S before_ops));
        results = rw results_shown (rw from_results (part_zeros result_region encode_result result_size v.results f.few_results (H ++ N ++ O) [] before_results));
      }
