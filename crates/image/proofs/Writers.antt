-- What each kind of writer makes of a region, and of the whole image.
-- Assumes nothing.
use mathlib.Core.Path.{◌≡◌, refl, sym, ap, subst, ◌∙◌}
use Prim.Native.Nat.{ℕ, suc, ◌+◌, ◌*◌, ◌-◌, ◌^◌, ◌≤◌, ◌<◌}
use native.Mathlib.Nat.{mul-suc, mul-le-mul_left}
use native.Mathlib.Omega.{arith}
use native.Mathlib.Numerals.{add-one}
use native.Mathlib.Decide.{dec_lt, ℕ_discrete}
use mathlib.Core.List.{List, [], ◌∷◌, ◌++◌}
use lib.ListN.{length, get_or, set, length-set, length-append, get_or-append}
use lib.Seq.{get_or-set_same, get_or-set_other, get_or-append_seam}
use Rattle.flat.specs.Inner.Queues.{remove_at}
use Rattle.text.specs.Text.{pasted}
use Rattle.text.proofs.Pasting.{length_pasted, pasted_below, pasted_in, pasted_above}
use Rattle.records.specs.Bytes.{bytes16}
use Rattle.records.specs.Inner.Numbers.{le16}
use Rattle.records.proofs.Codecs.{back16}
use Rattle.records.specs.declared.node.NodeRecord.{NodeRecord}
use Rattle.records.specs.declared.op.OpRecord.{OpRecord}
use Rattle.records.specs.declared.result.ResultRecord.{ResultRecord}
use Rattle.image.specs.Inner.Regions.{Region, place, record_at, listed_in, blank, Zeros, insert_at, Sound, ViewWritten, view, node_region, op_region, result_region, view_with_nodes, view_with_ops, view_with_results, view_with_last}
use Rattle.image.specs.Inner.Moves.{MovedDown, MovedUp, Zeroed, Removed}
use Rattle.image.specs.Layout.{View}
use Rattle.image.proofs.Parts.{next_place, length_remove, remove_below, remove_above, length_insert, insert_below, insert_at_law, insert_above}
use Rattle.image.proofs.Regions.{Same, After, after, kept, count_of, record_of, record_same, record_kept, put_same, put_other, put_after}

module _ {A : Type 0} (R : Region A) where
  -- t is s with xs in the region, and nothing else changed
  pub record Change (s t : List ℕ) (xs : List A) : Type 0 where
    pub size : length t ≡ length s
    pub below : (i : ℕ) → (i ≡ R.slot → ⊥) → i < R.base → get_or t i 0 ≡ get_or s i 0
    pub above : (i : ℕ) → place R 64 ≤ i → get_or t i 0 ≡ get_or s i 0
    pub after : After R s t xs

  -- a region whose count stands before it, within s, of at most 64 records
  pub record Fits (s : List ℕ) : Type 0 where
    pub slot : R.slot < R.base
    pub end : place R 64 ≤ length s
    pub few : length (listed_in R s) ≤ 64

  -- the count is written last
  module _ (s u : List ℕ) (v : ℕ) (xs : List A) (same : length u ≡ length s) (f : Fits s) (new : v ≡ length xs) (room : length xs ≤ 64)
      (records : (i : ℕ) → i < length xs → record_at R u i ≡ get_or xs i (blank R))
      (tail : Zeros s (place R (length (listed_in R s))) (place R 64) → Zeros u (place R (length xs)) (place R 64)) where
    pub counted : After R s (set u R.slot v) xs
    counted =
        let slot = f.slot in
        let end = f.end in
        after R s (set u R.slot v) xs (get_or-set_same u R.slot v 0 (omega arith) ∙ new) room
        (λ i h.
        record_kept R u (set u R.slot v) (length-set u R.slot v) (omega arith) i (omega arith)
        (λ m a b. get_or-set_other u R.slot m v 0 (λ e. omega arith))
        ∙ records i h)
        (λ z i a b. get_or-set_other u R.slot i v 0 (λ e. omega arith) ∙ tail z i a b)

    pub changed : ((i : ℕ) → i < R.base → get_or u i 0 ≡ get_or s i 0) → ((i : ℕ) → place R 64 ≤ i → get_or u i 0 ≡ get_or s i 0) → Change s (set u R.slot v) xs
    changed below above =
        let slot = f.slot in
        record {
          size = length-set u R.slot v ∙ same;
          below = λ i n h. get_or-set_other u R.slot i v 0 n ∙ below i h;
          above = λ i h. get_or-set_other u R.slot i v 0 (λ e. omega arith) ∙ above i h;
          after = counted;
        }

  module _ (s : List ℕ) (f : Fits s) (bs : List ℕ) (x : A) (size : length bs ≡ R.size) (back : R.decode bs ≡ x) where
    -- PUT
    pub put_change : (i : ℕ) → i < length (listed_in R s) → Change s (pasted s (place R i) bs) (set (listed_in R s) i x)
    put_change i h =
        let few = f.few in
        let slot = f.slot in
        let end = f.end in
        let next = next_place R.size i 64 (omega arith) in
        let fits : place R i + length bs ≤ length s = omega arith in
        record {
          size = length_pasted s (place R i) bs fits;
          below = λ k n l. pasted_below s (place R i) bs fits k (omega arith);
          above = λ k l. pasted_above s (place R i) bs fits k (omega arith);
          after = put_after R s i bs x size back end (omega arith) slot h few;
        }

    abbrev xs : List A
    xs = listed_in R s

    abbrev n : ℕ
    n = length xs

    more : R.size * (n + 1) ≡ R.size * n + R.size
    more = ap (λ (k : ℕ). R.size * k) (add-one n) ∙ mul-suc R.size n

    -- APPEND
    module _ (less : n < 64) where
      fits : place R n + length bs ≤ length s
      fits = omega (arith, f.end, next_place R.size n 64 less)

      len : length (xs ++ (x ∷ [])) ≡ n + 1
      len = length-append xs (x ∷ [])

      append_record_law : (j : ℕ) → Dec (j ≡ n) → j < n + 1 → record_at R (pasted s (place R n) bs) j ≡ get_or (xs ++ (x ∷ [])) j (blank R)
      append_record_law j (yes q) h =
          ap (record_at R (pasted s (place R n) bs)) q ∙ put_same R s n bs x size back f.end less
          ∙ sym (get_or-append_seam xs x [] (blank R)) ∙ ap (λ (k : ℕ). get_or (xs ++ (x ∷ [])) k (blank R)) (sym q)
      append_record_law j (no q) h =
          let l : j < n = omega arith in
          put_other R s n bs x size back f.end less j (omega arith) q ∙ record_of R s j l ∙ sym (get_or-append xs (x ∷ []) (blank R) j l)

      pub append_change : (v : ℕ) → v ≡ n + 1 → Change s (set (pasted s (place R n) bs) R.slot v) (xs ++ (x ∷ []))
      append_change v e =
          changed s (pasted s (place R n) bs) v (xs ++ (x ∷ [])) (length_pasted s (place R n) bs fits) f (e ∙ sym len) (omega (arith, len))
          (λ j h. append_record_law j (ℕ_discrete j n) (omega (arith, len)))
          (λ z m a b.
          let lo : place R (n + 1) ≤ m = subst (λ (k : ℕ). place R k ≤ m) len a in
          pasted_above s (place R n) bs fits m (omega (arith, more)) ∙ z m (omega (arith, more)) b)
          (λ k l. pasted_below s (place R n) bs fits k (omega arith))
          (λ k l. pasted_above s (place R n) bs fits k (omega (arith, next_place R.size n 64 less)))

    -- INSERT: the records from p on moved up
    module _ (w : List ℕ) (p : ℕ) (h : p ≤ n) (less : n < 64) (m : MovedUp (place R p) (place R n) R.size s w) where
      end : place R 64 ≤ length w
      end = subst (λ (k : ℕ). place R 64 ≤ k) (sym m.size) f.end

      room : place R p + length bs ≤ length w
      room = omega (arith, end, next_place R.size p 64 (omega arith))

      one_more : length (insert_at p x xs) ≡ n + 1
      one_more = length_insert xs p (blank R) x h

      insert_record : (j : ℕ) → Dec (j ≡ p) → Dec (j < p) → j < n + 1 → record_at R (pasted w (place R p) bs) j ≡ get_or (insert_at p x xs) j (blank R)
      insert_record j (yes q) d l = ap (record_at R (pasted w (place R p) bs)) q ∙ put_same R w p bs x size back end (omega arith) ∙ sym (insert_at_law xs p (blank R) x h j q)
      insert_record j (no q) (yes d) l =
          put_other R w p bs x size back end (omega arith) j (omega arith) q
          ∙ record_kept R s w m.size f.end j (omega arith) (λ i a b. m.below i (omega (arith, next_place R.size j p d)))
          ∙ record_of R s j (omega arith) ∙ sym (insert_below xs p (blank R) x h j d)
      insert_record j (no q) (no d) l =
          let i : ℕ = j - 1 in
          let back_one : i + 1 ≡ j = omega arith in
          let step : R.size * j ≡ R.size * i + R.size = ap (λ (k : ℕ). R.size * k) (sym back_one ∙ add-one i) ∙ mul-suc R.size i in
          put_other R w p bs x size back end (omega arith) j (omega arith) q
          ∙ record_same R s w m.size f.end j i (omega arith) (omega arith)
          (λ k b.
          ap (λ (o : ℕ). get_or w o 0) (omega arith)
          ∙ m.moved (place R i + k) (omega (arith, mul-le-mul_left {m = p} {n = i} R.size (omega arith))) (omega (arith, next_place R.size i n (omega arith))))
          ∙ record_of R s i (omega arith)
          ∙ sym (insert_above xs p (blank R) x h i (omega arith)) ∙ ap (λ (k : ℕ). get_or (insert_at p x xs) k (blank R)) back_one

      pub insert_change : (v : ℕ) → v ≡ n + 1 → Change s (set (pasted w (place R p) bs) R.slot v) (insert_at p x xs)
      insert_change v e =
          changed s (pasted w (place R p) bs) v (insert_at p x xs) (length_pasted w (place R p) bs room ∙ m.size) f (e ∙ sym one_more) (omega (arith, one_more))
          (λ j l. insert_record j (ℕ_discrete j p) (dec_lt j p) (omega (arith, one_more)))
          (λ z i a b.
          let lo : place R (n + 1) ≤ i = subst (λ (k : ℕ). place R k ≤ i) one_more a in
          let here = next_place R.size p (n + 1) (omega arith) in
          pasted_above w (place R p) bs room i (omega (arith, more, here)) ∙ m.above i (omega (arith, more)) ∙ z i (omega (arith, more)) b)
          (λ k l. pasted_below w (place R p) bs room k (omega arith) ∙ m.below k (omega arith))
          (λ k l. pasted_above w (place R p) bs room k (omega (arith, next_place R.size p 64 (omega arith))) ∙ m.above k (omega (arith, next_place R.size n 64 less)))

  -- REMOVE: the records after p moved down, and the last cleared
  module _ (s w u : List ℕ) (f : Fits s) (p : ℕ) (h : p < length (listed_in R s))
      (m : MovedDown (place R p) (place R (length (listed_in R s))) R.size s w)
      (c : Zeroed (place R (length (listed_in R s)) - R.size) (place R (length (listed_in R s))) w u) where
    abbrev ys : List A
    ys = listed_in R s

    abbrev o : ℕ
    o = length ys

    shorter : length (remove_at p ys) ≡ o - 1
    shorter = length_remove ys p (blank R) h

    last_place : R.size * o ≡ R.size * (o - 1) + R.size
    last_place =
        let one_less : suc (o - 1) ≡ o = omega arith in
        ap (λ (k : ℕ). R.size * k) (sym one_less) ∙ mul-suc R.size (o - 1)

    remove_record : (j : ℕ) → j < o - 1 → Dec (j < p) → record_at R u j ≡ get_or (remove_at p ys) j (blank R)
    remove_record j l d =
        record_kept R w u c.size (subst (λ (k : ℕ). place R 64 ≤ k) (sym m.size) f.end) j (omega (arith, f.few))
        (λ i a b. c.below i (omega (arith, last_place, next_place R.size j (o - 1) l)))
        ∙ go d
      where
        go : Dec (j < p) → record_at R w j ≡ get_or (remove_at p ys) j (blank R)
        go (yes d) =
            record_kept R s w m.size f.end j (omega (arith, f.few)) (λ i a b. m.below i (omega (arith, next_place R.size j p d)))
            ∙ record_of R s j (omega arith) ∙ sym (remove_below ys p (blank R) h j d)
        go (no d) =
            let step : R.size * (j + 1) ≡ R.size * j + R.size = ap (λ (k : ℕ). R.size * k) (add-one j) ∙ mul-suc R.size j in
            record_same R s w m.size f.end j (j + 1) (omega (arith, f.few)) (omega (arith, f.few))
            (λ k b.
            m.moved (place R j + k) (omega (arith, mul-le-mul_left {m = p} {n = j} R.size (omega arith))) (omega (arith, next_place R.size (j + 1) o (omega arith)))
            ∙ ap (λ (a : ℕ). get_or s a 0) (omega arith))
            ∙ record_of R s (j + 1) (omega arith) ∙ sym (remove_above ys p (blank R) h j (omega arith))

    remove_tail : Zeros s (place R o) (place R 64) → Zeros u (place R (o - 1)) (place R 64)
    remove_tail z i a b = go (dec_lt i (place R o))
      where
        go : Dec (i < place R o) → get_or u i 0 ≡ 0
        go (yes l) = c.zeros i (omega (arith, last_place)) l
        go (no l) = c.above i (omega arith) ∙ m.above i (omega arith) ∙ z i (omega arith) b

    pub remove_change : (v : ℕ) → v ≡ o - 1 → Change s (set u R.slot v) (remove_at p ys)
    remove_change v e =
        changed s u v (remove_at p ys) (c.size ∙ m.size) f (e ∙ sym shorter) (omega (arith, f.few, shorter))
        (λ j l. remove_record j (omega (arith, shorter)) (dec_lt j p))
        (λ z i a b. remove_tail z i (subst (λ (k : ℕ). place R k ≤ i) shorter a) b)
        (λ i l. c.below i (omega (arith, last_place)) ∙ m.below i (omega arith))
        (λ i l.
        let full : R.size * o ≤ R.size * 64 = mul-le-mul_left {m = o} {n = 64} R.size f.few in
        c.above i (omega arith) ∙ m.above i (omega arith))

-- by the count in the image
module _ {A : Type 0} (R : Region A) (s : List ℕ) (f : Fits R s) where
  pub appended : (bs : List ℕ) (x : A) → length bs ≡ R.size → R.decode bs ≡ x → length (listed_in R s) < 64
      → Change R s (set (pasted s (place R (get_or s R.slot 0)) bs) R.slot (get_or s R.slot 0 + 1)) (listed_in R s ++ (x ∷ []))
  appended bs x size back less =
      subst (λ (k : ℕ). Change R s (set (pasted s (place R k) bs) R.slot (k + 1)) (listed_in R s ++ (x ∷ []))) (count_of R s)
      (append_change R s f bs x size back less (length (listed_in R s) + 1) refl)

  pub removed : (t : List ℕ) (p : ℕ) → p < length (listed_in R s) → Removed R.slot R.base R.size p s t → Change R s t (remove_at p (listed_in R s))
  removed t p h r =
      let n = sym (count_of R s) in
      rw r.after
      (remove_change R s r.moved r.cleared f p h
      (subst (λ (k : ℕ). MovedDown (place R p) (place R k) R.size s r.moved) n r.down)
      (subst (λ (k : ℕ). Zeroed (place R k - R.size) (place R k) r.moved r.cleared) n r.zeros)
      (get_or s R.slot 0 - 1) (ap (λ (k : ℕ). k - 1) (sym (count_of R s))))

-- THE WHOLE IMAGE
pub written : (s t : List ℕ) (v : View) → length t ≡ 4112 → get_or t 0 0 ≡ get_or s 0 0 → Same s t 6 16 → le16 t 4 ≡ v.last
    → After node_region s t v.nodes → After op_region s t v.ops → After result_region s t v.results → ViewWritten v s t
written s t v size version spare last n o r =
    record {
      after = λ i. record { nodes = n.listed i; ops = o.listed i; results = r.listed i; last = last i };
      sound = record { size = size; nodes = rw n.listed n.room; ops = rw o.listed o.room; results = rw r.listed r.room };
      canonical = λ c.
          record {
            version = version ∙ c.version;
            head = λ i a b. spare i a b ∙ c.head i a b;
            nodes = rw n.listed (n.tail c.nodes);
            ops = rw o.listed (o.tail c.ops);
            results = rw r.listed (r.tail c.results);
          };
    }

-- a region of a sound image fits it
module _ (s : List ℕ) (sound : Sound s) where
  pub nodes_fit : Fits node_region s
  nodes_fit = record { slot = omega arith; end = omega (arith, sound.size); few = sound.nodes }

  pub ops_fit : Fits op_region s
  ops_fit = record { slot = omega arith; end = omega (arith, sound.size); few = sound.ops }

  pub results_fit : Fits result_region s
  results_fit = record { slot = omega arith; end = omega (arith, sound.size); few = sound.results }

  -- the image after a change of one region
  module _ (t : List ℕ) where
    pub nodes_written : (xs : List NodeRecord) → Change node_region s t xs → ViewWritten (view_with_nodes (view s) xs) s t
    nodes_written xs c =
        written s t (view_with_nodes (view s) xs) (c.size ∙ sound.size) (c.below 0 (λ e. omega arith) (omega arith)) (λ i a b. c.below i (λ e. omega arith) (omega arith))
        (λ i. c.below 4 (λ e. omega arith) (omega arith) i + c.below 5 (λ e. omega arith) (omega arith) i * 256)
        c.after
        (kept op_region s t c.size ops_fit.end sound.ops (c.below 2 (λ e. omega arith) (omega arith)) (λ i a b. c.above i (omega arith)))
        (kept result_region s t c.size results_fit.end sound.results (c.below 3 (λ e. omega arith) (omega arith)) (λ i a b. c.above i (omega arith)))

    pub ops_written : (xs : List OpRecord) → Change op_region s t xs → ViewWritten (view_with_ops (view s) xs) s t
    ops_written xs c =
        written s t (view_with_ops (view s) xs) (c.size ∙ sound.size) (c.below 0 (λ e. omega arith) (omega arith)) (λ i a b. c.below i (λ e. omega arith) (omega arith))
        (λ i. c.below 4 (λ e. omega arith) (omega arith) i + c.below 5 (λ e. omega arith) (omega arith) i * 256)
        (kept node_region s t c.size nodes_fit.end sound.nodes (c.below 1 (λ e. omega arith) (omega arith)) (λ i a b. c.below i (λ e. omega arith) (omega arith)))
        c.after
        (kept result_region s t c.size results_fit.end sound.results (c.below 3 (λ e. omega arith) (omega arith)) (λ i a b. c.above i (omega arith)))

    pub results_written : (xs : List ResultRecord) → Change result_region s t xs → ViewWritten (view_with_results (view s) xs) s t
    results_written xs c =
        written s t (view_with_results (view s) xs) (c.size ∙ sound.size) (c.below 0 (λ e. omega arith) (omega arith)) (λ i a b. c.below i (λ e. omega arith) (omega arith))
        (λ i. c.below 4 (λ e. omega arith) (omega arith) i + c.below 5 (λ e. omega arith) (omega arith) i * 256)
        (kept node_region s t c.size nodes_fit.end sound.nodes (c.below 1 (λ e. omega arith) (omega arith)) (λ i a b. c.below i (λ e. omega arith) (omega arith)))
        (kept op_region s t c.size ops_fit.end sound.ops (c.below 2 (λ e. omega arith) (omega arith)) (λ i a b. c.below i (λ e. omega arith) (omega arith)))
        c.after

  -- the last label is written
  module _ (l : ℕ) where
    abbrev t : List ℕ
    t = pasted s 4 (bytes16 l)

    last_room : 4 + 2 ≤ length s
    last_room = omega (arith, sound.size)

    kept_length : length t ≡ length s
    kept_length = length_pasted s 4 (bytes16 l) last_room

    below : (i : ℕ) → i < 4 → get_or t i 0 ≡ get_or s i 0
    below i h = pasted_below s 4 (bytes16 l) last_room i h

    above : (i : ℕ) → 6 ≤ i → get_or t i 0 ≡ get_or s i 0
    above i h = pasted_above s 4 (bytes16 l) last_room i h

    placed : (i : ℕ) → i < 2 → get_or t (4 + i) 0 ≡ get_or (bytes16 l) i 0
    placed i h = pasted_in s 4 (bytes16 l) last_room i h

    pub last_written : l < 2 ^ 16 → ViewWritten (view_with_last (view s) l) s t
    last_written small =
        written s t (view_with_last (view s) l) (kept_length ∙ sound.size) (below 0 (omega arith)) (λ i a b. above i a)
        ((λ i. placed 0 (omega arith) i + placed 1 (omega arith) i * 256) ∙ back16 l small)
        (kept node_region s t kept_length nodes_fit.end sound.nodes (below 1 (omega arith)) (λ i a b. above i (omega arith)))
        (kept op_region s t kept_length ops_fit.end sound.ops (below 2 (omega arith)) (λ i a b. above i (omega arith)))
        (kept result_region s t kept_length results_fit.end sound.results (below 3 (omega arith)) (λ i a b. above i (omega arith)))
