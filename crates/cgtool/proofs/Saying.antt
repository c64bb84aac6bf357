-- A refusal as it is said.
-- Assumes nothing.
use Prim.Native.Nat.{ℕ, ◌+◌, ◌≤◌, ◌<◌}
use mathlib.Core.Path.{◌≡◌, ap, ◌∙◌}
use mathlib.Core.List.{List, ◌++◌}
use native.Mathlib.Omega.{arith}
use lib.ListN.{length, take, length-append}
use Rattle.graph.specs.Refusals.{refused}
use Rattle.graph.specs.Words.{modulus}
use Rattle.text.specs.Text.{ascii}
use Rattle.text.specs.Inner.Put.{TextPut}
use Rattle.text.proofs.Decimals.{len_ten}
use Rattle.text.proofs.Pasting.{take_pasted, written_size}
use Rattle.print.specs.Printed.{numbered, newline}
use Rattle.cgtool.specs.Commands.{said}
use Rattle.cgtool.specs.Inner.Outputs.{Says}
use Rattle.cgtool.specs.declared.answers.ExitStatus.TheVariants.{Failed}

abbrev pub refusal_line : ℕ → List ℕ
refusal_line n = numbered (ascii "refused=") n ++ newline

pub refusal_fits : (n : ℕ) → n < modulus → (s : List ℕ) → 19 ≤ length s → 0 + length (refusal_line n) ≤ length s
unfolding ascii
refusal_fits n h s room = simp length-append (omega (arith, len_ten n h))

pub refusal_written : (n : ℕ) {k : ℕ} → n ≡ k → {s o : List ℕ} {p : ℕ} → 0 + length (refusal_line n) ≤ length s → TextPut s 0 (refusal_line n) o p → Says o (record { length = p; status = Failed }) (said (refused k))
refusal_written n same {s} {o} {p} fits w =
    record {
      within = omega (arith, w.place, written_size w fits);
      ended = ap (λ (x : List ℕ). record { printed = x; status = 1 }) (ap (take p) w.bytes ∙ take_pasted s (refusal_line n) p w.place ∙ ap refusal_line same);
    }
