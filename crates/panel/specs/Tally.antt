-- The tally: document 01, "one 32-bit count for each of the eight step kinds (drain counts the steps it takes), resting at
-- 4,294,967,295". The struct `Tally` of src/tally.rt has the counts, in the order of graph's `tally_place`.
-- Assumes nothing.
use Rattle.std.specs.Prelude.{ℕ, ◌+◌, min, cond, List, [], ◌∷◌, eqb}
use Rattle.graph.specs.Steps.{Step}
use Rattle.graph.specs.Counts.{tally_place}
use Rattle.panel.specs.declared.tally.Tally.{Tally}

-- a count raised by n, resting at 4,294,967,295
abbrev pub up_by : ℕ → ℕ → ℕ
up_by c n = min (c + n) 4294967295

-- each count changed by what a function says for its place
abbrev pub each : (ℕ → ℕ → ℕ) → Tally → Tally
each f t =
    record {
      admit = f 0 t.admit;
      realise = f 1 t.realise;
      move_on = f 2 t.move_on;
      finish = f 3 t.finish;
      join = f 4 t.join;
      split = f 5 t.split;
      swap = f 6 t.swap;
      fuse = f 7 t.fuse;
    }

-- the count at a place raised by n, and no other; a place past the eight raises none
abbrev pub raised_at : (place by own count : ℕ) → ℕ
raised_at place by own count = cond (eqb own place) (up_by count by) count

abbrev pub raised : Tally → ℕ → ℕ → Tally
raised t place n = each (raised_at place n) t

-- every step of a list counted, one after the other
abbrev pub counted : Tally → List Step → Tally
counted t [] = t
counted t (s ∷ ss) = counted (raised t (tally_place s) 1) ss

-- the tally of no steps
abbrev pub zeros : Tally
zeros = record { admit = 0; realise = 0; move_on = 0; finish = 0; join = 0; split = 0; swap = 0; fuse = 0 }
