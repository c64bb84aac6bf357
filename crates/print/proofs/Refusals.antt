-- A refusal's line is short.
-- Assumes nothing.
use Prim.Native.Nat.{ℕ, ◌<◌, ◌≤◌, ◌^◌}
use native.Mathlib.Omega.{arith}
use lib.ListN.{length, length-append}
use Rattle.graph.specs.Words.{modulus}
use Rattle.text.specs.Text.{ascii}
use Rattle.text.proofs.Decimals.{len_twenty}
use Rattle.print.specs.Printed.{refusal_text}

pub refusal_fits : (line refusal : ℕ) → line < 2 ^ 64 → refusal < modulus → length (refusal_text line refusal) ≤ 55
unfolding ascii
refusal_fits line refusal l r =
    let wide : refusal < 2 ^ 64 = omega arith in
    simp length-append (omega (arith, len_twenty line l, len_twenty refusal wide))
