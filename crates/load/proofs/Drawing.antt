-- Bounds of states and draws, and keys as they are drawn.
-- Assumes nothing.
use Prim.Native.Nat.{ℕ, zero, suc, ◌<◌}
use mathlib.Core.Path.{◌≡◌, refl, ap}
use mathlib.Core.List.{List, [], ◌∷◌, ◌++◌}
use native.Mathlib.Omega.{arith}
use lib.ListN.{length}
use Rattle.graph.specs.Words.{modulus}
use Rattle.load.specs.Load.{next, draw, after, drawn, key_drawn, keys_drawn}

next_small : (s : ℕ) → next s < modulus
unfolding next
next_small s = omega arith

draw_small : (s : ℕ) → s < modulus → draw s < 65536
unfolding draw
draw_small s h = omega arith

after_small : (n s : ℕ) → s < modulus → after n s < modulus
after_small zero s h = h
after_small (suc n) s h = after_small n (next s) (next_small s)

-- a number has at most 16 bits
pub drawn_small : (n s : ℕ) → drawn (suc n) s < 65536
drawn_small n s = draw_small (after n (next s)) (after_small n (next s) (next_small s))

pub after_next : (n s : ℕ) → after (suc n) s ≡ next (after n s)
after_next zero s = refl
after_next (suc n) s = after_next n (next s)

-- one key more, from the back
pub keys_next : (n s : ℕ) → keys_drawn (suc n) s ≡ keys_drawn n s ++ (key_drawn (suc n) s ∷ [])
keys_next zero s = refl
keys_next (suc n) s = ap (λ (ks : List ℕ). key_drawn 1 s ∷ ks) (keys_next n (next s))

pub keys_length : (n s : ℕ) → length (keys_drawn n s) ≡ n
keys_length zero s = refl
keys_length (suc n) s = ap suc (keys_length n (next s))
