-- The lines of a load, written one after another.
-- Assumes nothing.
use Prim.Native.Nat.{ℕ, ◌+◌, ◌-◌, ◌<◌, ◌≤◌}
use mathlib.Core.Path.{◌≡◌, sym, ap, subst, ◌∙◌}
use mathlib.Core.List.{List, [], ◌++◌, append-nil, append_assoc}
use native.Mathlib.Omega.{arith}
use lib.ListN.{length, length-append}
use Rattle.text.specs.Inner.Put.{TextPut}
use Rattle.text.proofs.Pasting.{written_none, written_room, written_then}
use Rattle.load.specs.declared.write.Written.{Written}
use Rattle.load.specs.Load.{call_drawn, line_text, load_text}
use Rattle.load.specs.Inner.Values.{LineWritten}
use Rattle.load.proofs.Lengths.{load_over, load_first, first_length}

-- the first i lines of a load are written; the others are drawn from this state on
pub record Begun (was : List ℕ) (seed count : ℕ) (out : List ℕ) (p state i : ℕ) : Type 0 where
  pub lines : List ℕ
  pub put : TextPut was 0 lines out p
  pub rest : lines ++ load_text state (count - i) ≡ load_text seed count

module _ (was : List ℕ) (seed count : ℕ) where
  pub begun_none : Begun was seed count was 0 seed 0
  begun_none = record { lines = []; put = written_none was 0; rest = ap (load_text seed) (omega arith) }

  module _ (fits : length (load_text seed count) ≤ length was) {out : List ℕ} {p state i : ℕ} (b : Begun was seed count out p state i) where
    pub begun_all : count ≤ i → TextPut was 0 (load_text seed count) out p
    begun_all e =
        subst (λ (l : List ℕ). TextPut was 0 l out p)
        (sym (append-nil b.lines) ∙ ap (λ (l : List ℕ). b.lines ++ l) (sym (load_over state count i e)) ∙ b.rest)
        b.put

    module _ (some : i < count) where
      abbrev line : List ℕ
      line = line_text (call_drawn state).call

      within : 0 + length (b.lines ++ line) ≤ length was
      within =
          omega (arith, fits, length-append b.lines line, first_length state count i some, ap length b.rest, length-append b.lines (load_text state (count - i)))

      pub begun_room : p + length line ≤ length out
      begun_room = written_room b.put line within

      pub begun_more : (after : List ℕ) (r : Written) → LineWritten out p state after r → Begun was seed count after r.at r.state (i + 1)
      begun_more after r w =
          record {
            lines = b.lines ++ line;
            put = written_then b.put w.line within;
            rest = append_assoc b.lines line (load_text r.state (count - (i + 1)))
                ∙ ap (λ (s : ℕ). b.lines ++ (line ++ load_text s (count - (i + 1)))) w.ends
                ∙ ap (λ (l : List ℕ). b.lines ++ l) (sym (load_first state count i some))
                ∙ b.rest;
          }
