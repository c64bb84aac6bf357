-- One turn of each loop that moves bytes.
-- Assumes nothing.
use mathlib.Core.Path.{◌≡◌, refl, sym, ap, ◌∙◌}
use Prim.Native.Nat.{ℕ, ◌+◌, ◌≤◌, ◌<◌}
use native.Mathlib.Omega.{arith}
use native.Mathlib.Decide.{ℕ_discrete}
use mathlib.Core.List.{List}
use lib.ListN.{length, get_or, set, length-set}
use lib.Seq.{get_or-set_same, get_or-set_other}
use Rattle.image.specs.Inner.Moves.{MovedDown, MovedUp}

pub down_none : (s : List ℕ) (at by : ℕ) → MovedDown at (at + by) by s s
down_none s at by = record { size = refl; moved = λ k a b. absurd (omega arith); below = λ k h. refl; above = λ k h. refl }

module _ (s t : List ℕ) (at by i : ℕ) where
  pub down_turn : at ≤ i → i < length t → MovedDown at (i + by) by s t → MovedDown at (i + 1 + by) by s (set t i (get_or t (i + by) 0))
  down_turn lo hi m =
      let v = get_or t (i + by) 0 in
      record {
        size = length-set t i v ∙ m.size;
        moved = λ k a b. go k a b (ℕ_discrete k i);
        below = λ k h. get_or-set_other t i k v 0 (λ e. omega arith) ∙ m.below k h;
        above = λ k h. get_or-set_other t i k v 0 (λ e. omega arith) ∙ m.above k (omega arith);
      }
    where
      go : (k : ℕ) → at ≤ k → k + by < i + 1 + by → Dec (k ≡ i) → get_or (set t i (get_or t (i + by) 0)) k 0 ≡ get_or s (k + by) 0
      go k a b (yes e) = ap (λ (n : ℕ). get_or (set t i (get_or t (i + by) 0)) n 0) e ∙ get_or-set_same t i (get_or t (i + by) 0) 0 hi ∙ m.above (i + by) (omega arith) ∙ ap (λ (n : ℕ). get_or s (n + by) 0) (sym e)
      go k a b (no n) = get_or-set_other t i k (get_or t (i + by) 0) 0 n ∙ m.moved k a (omega arith)

pub up_none : (s : List ℕ) (end by : ℕ) → MovedUp end end by s s
up_none s end by = record { size = refl; moved = λ k a b. absurd (omega arith); below = λ k h. refl; above = λ k h. refl }

module _ (s t : List ℕ) (end by i : ℕ) where
  pub up_turn : i < end → i + by < length t → MovedUp (i + 1) end by s t → MovedUp i end by s (set t (i + by) (get_or t i 0))
  up_turn lo hi m =
      let v = get_or t i 0 in
      record {
        size = length-set t (i + by) v ∙ m.size;
        moved = λ k a b. go k a b (ℕ_discrete k i);
        below = λ k h. get_or-set_other t (i + by) k v 0 (λ e. omega arith) ∙ m.below k (omega arith);
        above = λ k h. get_or-set_other t (i + by) k v 0 (λ e. omega arith) ∙ m.above k h;
      }
    where
      go : (k : ℕ) → i ≤ k → k < end → Dec (k ≡ i) → get_or (set t (i + by) (get_or t i 0)) (k + by) 0 ≡ get_or s k 0
      go k a b (yes e) = ap (λ (n : ℕ). get_or (set t (i + by) (get_or t i 0)) (n + by) 0) e ∙ get_or-set_same t (i + by) (get_or t i 0) 0 hi ∙ m.below i (omega arith) ∙ ap (λ (n : ℕ). get_or s n 0) (sym e)
      go k a b (no n) = get_or-set_other t (i + by) (k + by) (get_or t i 0) 0 (λ e. n (omega arith)) ∙ m.moved k (omega arith) b
