-- A record of an image, read where it stands.
-- Assumes nothing.
use mathlib.Core.Path.{◌≡◌, sym, ap, ◌∙◌}
use Prim.Native.Nat.{ℕ, ◌+◌, ◌-◌, ◌<◌}
use native.Mathlib.Omega.{arith}
use mathlib.Core.Bool.{Bool, true, false, not}
use mathlib.Core.List.{List}
use lib.ListN.{length, get_or, take, drop}
use borrow.Author.Tests.{not-true, not-false}
use Rattle.records.specs.Inner.Numbers.{chunk}
use Rattle.image.specs.Inner.Regions.{Region, place, record_at, listed_in, blank}
use Rattle.image.proofs.Regions.{record_of}
use Rattle.valid.specs.Inner.Tests.{walk}
use Rattle.valid.proofs.Turns.{walk_next, walk_not}

-- as a slice from `at` on has it
record_there : {A : Type 0} (R : Region A) (s : List ℕ) (i at : ℕ) → at ≡ place R i → i < length (listed_in R s)
    → R.decode (take (at + R.size - at) (drop at s)) ≡ get_or (listed_in R s) i (blank R)
unfolding record_at chunk
record_there R s i at e h =
    let q : at + R.size - at ≡ R.size = omega arith in
    ap (λ (k : ℕ). R.decode (take k (drop at s))) q ∙ ap (λ (a : ℕ). R.decode (take R.size (drop a s))) e ∙ record_of R s i h

-- a walk over the records, at the one that was tested in place
module _ {S A : Type 0} (R : Region A) (ok : S → A → Bool) (next : S → A → S) (s : List ℕ) (i at : ℕ) (st : S) (e : at ≡ place R i) (h : i < length (listed_in R s)) {b : Bool} (t : b ≡ ok st (R.decode (take (at + R.size - at) (drop at s)))) where
  tested : ok st (get_or (listed_in R s) i (blank R)) ≡ b
  tested = sym (t ∙ ap (ok st) (record_there R s i at e h))

  pub row_not : not b ≡ true → walk ok next st (drop i (listed_in R s)) ≡ false
  row_not n = walk_not ok next (listed_in R s) (blank R) i st h (tested ∙ not-true b n)

  pub row_next : not b ≡ false → walk ok next (next st (get_or (listed_in R s) i (blank R))) (drop (i + 1) (listed_in R s)) ≡ walk ok next st (drop i (listed_in R s))
  row_next n = walk_next ok next (listed_in R s) (blank R) i st h (tested ∙ not-false b n)
