-- From what the host's functions give to what is printed.
-- Assumes nothing.
use mathlib.Core.Path.{◌≡◌, refl, sym, ap, ◌∙◌}
use mathlib.Core.Bool.{Bool, true, false}
use mathlib.Core.List.{List, []}
use Prim.Native.Nat.{ℕ, zero, suc, ◌+◌, ◌≤◌, ◌<◌, ◌^◌}
use native.Mathlib.Omega.{arith}
use lib.IntN.{ℤ}
use lib.ListN.{length, take}
use Rattle.text.specs.Text.{ascii, starts_with}
use Rattle.text.specs.Inner.Put.{TextPut}
use Rattle.text.proofs.Pasting.{take_pasted, written_size}
use Rattle.print.specs.Printed.{refusal_text}
use Rattle.print.proofs.Refusals.{refusal_fits}
use Rattle.graph.specs.Words.{modulus}
use Rattle.graph.specs.Refused.{refusal_number}
use Rattle.graph.specs.declared.refusal.Refusal.{Refusal}
use Rattle.calls.proofs.Refusing.{refusal_some}
use Rattle.graph.specs.Refusals.{refused, done}
use Rattle.panel.specs.declared.tally.Tally.{Tally}
use Rattle.panel.specs.Returned.{answer_number}
use Rattle.host.specs.Entries.{Calls, Steps, Claims}
use Rattle.program.specs.Lines.{length_in, answer_text, as_step, as_claim, as_call}
use Rattle.program.specs.Inner.Frames.{AnswerPrinted, Served}

text_refused : (n k : ℕ) (text : List ℕ) → (k ≡ 0 → ⊥) → refusal_text n k ≡ answer_text n (answer_number (refused k)) text
text_refused n zero text some = absurd (some refl)
text_refused n (suc k) text some = refl

pub printed_served : (n v : ℕ) (out : List ℕ) (m : ℕ) → m ≤ length out → AnswerPrinted n (answer_number (done v)) (take m out) out m
printed_served n v out m h = record { within = h; bytes = refl }

module _ (n r : ℕ) (line : n < 2 ^ 64) (refusal : r < modulus) (s : List ℕ) (room : 128 ≤ length s) where
  pub refusal_room : 0 + length (refusal_text n r) ≤ length s
  refusal_room = omega (arith, refusal_fits n r line refusal)

  pub printed_refusal : (e : Refusal) → r ≡ refusal_number e → (text o : List ℕ) (p : ℕ) → TextPut s 0 (refusal_text n r) o p → AnswerPrinted n (answer_number (refused (refusal_number e))) text o p
  printed_refusal e same text o p w =
      let size : length o ≡ length s = written_size w refusal_room in
      record {
        within = omega (arith, w.place, refusal_room, size);
        bytes = ap (take p) w.bytes ∙ take_pasted s (refusal_text n r) p w.place ∙ ap (refusal_text n) same ∙ text_refused n (refusal_number e) text (refusal_some e);
      }

-- ---- a line served

module _ {image line after out : List ℕ} {n r : ℕ} {z : ℤ} where
  pub call_served_law : starts_with (ascii "step=") line ≡ false → starts_with (ascii "claim=") line ≡ false → Calls image line (record { answer = z; image = after }) → AnswerPrinted n z [] out r → Served image line n after out r
  call_served_law a b h t = record { within = t.within; served = as_call a b _ h refl (sym t.bytes) }

  pub step_served_law : {t u : Tally} → starts_with (ascii "step=") line ≡ true → Steps image line t (record { answer = z; image = after; tally = u }) → AnswerPrinted n z [] out r → Served image line n after out r
  step_served_law {t} {u} b h s = record { within = s.within; served = as_step b t _ h refl (sym s.bytes) }

module _ {image line out after output : List ℕ} {z : ℤ} {k : ℕ} (h : Claims image line out (record { answer = z; image = after; output = output })) (l : k ≡ length_in z) where
  pub claim_served_law : {written : List ℕ} {n r : ℕ} → 128 ≤ length out → starts_with (ascii "claim=") line ≡ true → AnswerPrinted n z (take k output) written r → Served image line n after written r
  claim_served_law {written} {n} {r} room b t =
      record { within = t.within; served = as_claim b out room _ h refl (sym (t.bytes ∙ (λ i. answer_text n z (take (l i) output)))) }

-- the test of the part of the frame is the test of the line
pub starts_line : (text : List ℕ) {line part : List ℕ} {b v : Bool} → part ≡ line → b ≡ starts_with text part → b ≡ v → starts_with text line ≡ v
starts_line text e t q = ap (starts_with text) (sym e) ∙ sym t ∙ q
