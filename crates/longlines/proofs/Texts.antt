-- A line of 64 bytes is the text of no step and of no claim.
-- Assumes nothing.
use Prim.Native.Nat.{ℕ, ◌≤◌}
use mathlib.Core.Path.{ap}
use mathlib.Core.List.{List}
use native.Mathlib.Omega.{arith}
use lib.ListN.{length, length-append}
use Rattle.graph.specs.Steps.{admit, realise, move, finish, join, split, swap, fuse}
use Rattle.text.specs.Text.{ascii}
use Rattle.text.proofs.Decimals.{len_ten}
use Rattle.keylists.specs.Inner.ListsRead.{Below}
use Rattle.keylists.proofs.KeyLists.{words_below}
use Rattle.lines.specs.Forms.{StepForm, work, drain_form, step_text, step_numbers, IsStep, claim_text, claim_numbers, IsClaim}

-- the longest is a split with three numbers of ten digits
step_short : (f : StepForm) → Below (step_numbers f) → length (step_text f) ≤ 63
unfolding ascii
step_short (work admit) b = omega arith
step_short (work (realise at)) b = simp length-append (omega (arith, len_ten at b.0))
step_short (work (move at)) b = simp length-append (omega (arith, len_ten at b.0))
step_short (work (finish at)) b = simp length-append (omega (arith, len_ten at b.0))
step_short (work (join at unit)) b = simp length-append (omega (arith, len_ten at b.0, len_ten unit b.1.0))
step_short (work (split at unit after)) b = simp length-append (omega (arith, len_ten at b.0, len_ten unit b.1.0, len_ten after b.1.1.0))
step_short (work (swap at unit)) b = simp length-append (omega (arith, len_ten at b.0, len_ten unit b.1.0))
step_short (work (fuse at unit)) b = simp length-append (omega (arith, len_ten at b.0, len_ten unit b.1.0))
step_short drain_form b = omega arith

pub long_no_step : (line : List ℕ) → 64 ≤ length line → (f : StepForm) → IsStep line f → ⊥
long_no_step line long f i = omega (arith, ap length i.same, step_short f (words_below (step_numbers f) i.fits))

claim_short : (label : ℕ) → Below (claim_numbers label) → length (claim_text label) ≤ 63
unfolding ascii
claim_short label b = simp length-append (omega (arith, len_ten label b.0))

pub long_no_claim : (line : List ℕ) → 64 ≤ length line → (label : ℕ) → IsClaim line label → ⊥
long_no_claim line long label i = omega (arith, ap length i.same, claim_short label (words_below (claim_numbers label) i.fits))
