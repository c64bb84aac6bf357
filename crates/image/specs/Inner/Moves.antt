-- Bytes moved within a list, and bytes cleared.
-- Assumes nothing.
use Rattle.std.specs.Prelude.{ℕ, ◌+◌, ◌-◌, ◌*◌, ◌≤◌, ◌<◌, ◌≡◌, List, length, get_or, set}
use Rattle.image.specs.Inner.Regions.{Zeros}

-- `by` places down or up, between `at` and `end`
pub record MovedDown (at end by : ℕ) (s t : List ℕ) : Type 0 where
  pub size : length t ≡ length s
  pub moved : (i : ℕ) → at ≤ i → i + by < end → get_or t i 0 ≡ get_or s (i + by) 0
  pub below : (i : ℕ) → i < at → get_or t i 0 ≡ get_or s i 0
  pub above : (i : ℕ) → end ≤ i + by → get_or t i 0 ≡ get_or s i 0

pub record MovedUp (at end by : ℕ) (s t : List ℕ) : Type 0 where
  pub size : length t ≡ length s
  pub moved : (i : ℕ) → at ≤ i → i < end → get_or t (i + by) 0 ≡ get_or s i 0
  pub below : (i : ℕ) → i < at + by → get_or t i 0 ≡ get_or s i 0
  pub above : (i : ℕ) → end + by ≤ i → get_or t i 0 ≡ get_or s i 0

pub record Zeroed (from to : ℕ) (s t : List ℕ) : Type 0 where
  pub size : length t ≡ length s
  pub zeros : Zeros t from to
  pub below : (i : ℕ) → i < from → get_or t i 0 ≡ get_or s i 0
  pub above : (i : ℕ) → to ≤ i → get_or t i 0 ≡ get_or s i 0

-- the record at p went: those after it moved down, the last place was cleared, and the count is one less
pub record Removed (slot base size p : ℕ) (s t : List ℕ) : Type 0 where
  pub moved : List ℕ
  pub cleared : List ℕ
  pub down : MovedDown (base + size * p) (base + size * get_or s slot 0) size s moved
  pub zeros : Zeroed (base + size * get_or s slot 0 - size) (base + size * get_or s slot 0) moved cleared
  pub after : t ≡ set cleared slot (get_or s slot 0 - 1)
