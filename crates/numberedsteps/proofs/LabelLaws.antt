-- The struct of two lists of labels, the second put after the first.
-- Assumes nothing.
use mathlib.Core.Path.{◌≡◌, sym, ◌∙◌, ap}
use Prim.Native.Nat.{ℕ, ◌+◌, ◌-◌, ◌≤◌}
use native.Mathlib.Omega.{arith}
use mathlib.Core.List.{List, ◌++◌, append_assoc}
use lib.ListN.{length, take, drop, replicate, length-append}
use lib.Seq.{take-append_seam, drop-append_seam}
use borrow.Rule.Slice.PartMut.{put_mid}
use Rattle.std.proofs.lemmas.List.{drop-replicate}
use Rattle.records.specs.declared.labels.Labels.{Labels}
use Rattle.valid.specs.Inner.Decoded.{labels_of}
use Rattle.valid.specs.Values.{packed_labels}
use Rattle.state.proofs.ResultLaws.{labels_count}

-- the second's labels at the place after the first's
pub labels_put : (a b : Labels) → a ≡ packed_labels (labels_of a) → b ≡ packed_labels (labels_of b) → length (labels_of a ++ labels_of b) ≤ 4
    → (n m : ℕ) (part : List ℕ) → n ≡ a.count → m ≡ b.count → part ≡ labels_of b
    → record { count = a.count + b.count; label = put_mid n (n + m - n) a.label part } ≡ packed_labels (labels_of a ++ labels_of b)
unfolding packed_labels
labels_put a b e f few n m part en em ep =
    let la = labels_of a in
    let lb = labels_of b in
    let ca : a.count ≡ length la = labels_count a e in
    let cb : b.count ≡ length lb = labels_count b f in
    let both : a.count + b.count ≡ length (la ++ lb) = omega (arith, length-append la lb) in
    let size : n + m - n ≡ length lb = omega arith in
    let rest : 4 - length la - length lb ≡ 4 - length (la ++ lb) = omega (arith, length-append la lb) in
    let behind : drop (n + m - n) (drop n a.label) ≡ replicate (4 - length (la ++ lb)) 0 =
    (λ i. drop (size i) (drop ((en ∙ ca) i) (ap (λ (x : Labels). x.label) e i)))
    ∙ ap (drop (length lb)) (drop-append_seam la (replicate (4 - length la) 0))
    ∙ drop-replicate (length lb) (4 - length la) 0
    ∙ ap (λ (k : ℕ). replicate k 0) rest in
    λ i. record { count = both i; label = ((λ j. take (en j) a.label ++ (ep j ++ behind j)) ∙ sym (append_assoc la lb (replicate (4 - length (la ++ lb)) 0))) i }

-- the struct of a list lists it
pub listed_labels : (l : List ℕ) → labels_of (packed_labels l) ≡ l
unfolding packed_labels
listed_labels l = take-append_seam l (replicate (4 - length l) 0)
