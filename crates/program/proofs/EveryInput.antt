-- Every input has a transcript: whatever is read, there is what is printed of it.
-- Assumes nothing.
use mathlib.Core.Path.{◌≡◌, refl}
use mathlib.Core.Bool.{Bool, true, false}
use mathlib.Core.List.{List, [], ◌∷◌, ◌++◌}
use Prim.Native.Nat.{ℕ, suc}
use native.Mathlib.Omega.{arith}
use lib.ListN.{length, replicate, take, length-replicate}
use Rattle.graph.specs.Sessions.{fresh}
use Rattle.text.specs.Text.{ascii, starts_with}
use Rattle.panel.specs.Tally.{zeros}
use Rattle.valid.specs.Values.{encode}
use Rattle.host.proofs.Answered.{call_answered, step_answered_law, claim_answered_law, list_answered}
use Rattle.program.specs.Lines.{length_in, Line, as_step, as_claim, as_call}
use Rattle.program.specs.Transcript.{lines_of, LineRun, none, next, Transcript}

-- an output of n bytes
unfoldable output_of : ℕ → List ℕ
output_of n = replicate n 0

output_size : (n : ℕ) → length (output_of n) ≡ n
unfolding output_of
output_size n = length-replicate {A = ℕ} n 0

pub line_answered : (image line : List ℕ) (n : ℕ) → (after : List ℕ) × (text : List ℕ) × Line image line n after text
line_answered image line n = by_head (starts_with (ascii "step=") line) (starts_with (ascii "claim=") line) refl refl
  where
    by_head : (a b : Bool) → starts_with (ascii "step=") line ≡ a → starts_with (ascii "claim=") line ≡ b → (after : List ℕ) × (text : List ℕ) × Line image line n after text
    by_head true b e q = let r = step_answered_law image line zeros in (r.0.image, _, as_step e zeros r.0 r.1 refl refl)
    by_head false true e q = let r = claim_answered_law image line (output_of 128) in (r.0.image, _, as_claim q (output_of 128) (omega (arith, output_size 128)) r.0 r.1 refl refl)
    by_head false false e q = let r = call_answered image line in (r.0.image, _, as_call e q r.0 r.1 refl refl)

pub run_answered : (image : List ℕ) (n : ℕ) (ls : List (List ℕ)) → (after : List ℕ) × (m : ℕ) × (text : List ℕ) × LineRun image n ls after m text
run_answered image n [] = (image, n, [], none)
run_answered image n (l ∷ ls) =
    let a = line_answered image l n in
    let r = run_answered a.0 (suc n) ls in
    (r.0, r.1, a.1 ++ r.2, next a.2 r.3)

-- EVERY INPUT
pub every_input : (input : List ℕ) → (output : List ℕ) × Transcript input output
every_input input =
    let r = run_answered (encode fresh) 1 (lines_of input) in
    let l = list_answered r.0 (output_of 16512) in
    let listing : List ℕ = take (length_in l.0.answer) l.0.output in (
      r.2 ++ listing,
      record {
        after = r.0;
        count = r.1;
        text = r.2;
        listing = listing;
        runs = r.3;
        ends = record { out = output_of 16512; room = omega (arith, output_size 16512); listed = l.0; lists = l.1; bytes = refl };
        whole = refl;
      },
    )
