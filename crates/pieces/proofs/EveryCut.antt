-- However the input is cut into pieces, its transcript is printed.
-- Assumes nothing.
use Prim.Native.Nat.{ℕ}
use mathlib.Core.Path.{◌≡◌, sym, ap, subst, ◌∙◌}
use mathlib.Core.List.{List, [], ◌∷◌, ◌++◌, append-nil}
use lib.ListN.{take}
use Rattle.text.proofs.CommaLists.{texts_append}
use Rattle.program.specs.Transcript.{Transcript}
use Rattle.program.proofs.Determined.{transcript_same}
use Rattle.pieces.specs.Pieces.{Fed, starts, feeds, Printed, joined, EveryCut}
use Rattle.pieces.specs.Inner.Feeding.{bytes_kept, KeptOf, InputTaken, piece_in}
use Rattle.pieces.specs.declared.between.Kept.{Kept}
use Rattle.pieces.specs.declared.between.Kept.TheVariants.{Bytes, Long}
use Rattle.pieces.specs.declared.between.State.{State}

-- a read leaves what is kept
still_kept : (k : Kept) (buffer filled part : List ℕ) → take (bytes_kept k) filled ≡ take (bytes_kept k) buffer → KeptOf k buffer part → KeptOf k filled part
still_kept (Bytes n) buffer filled part e h = (h.0, e ∙ h.1)
still_kept (Long l) buffer filled part e o = o

pub still_taken : {input text image buffer filled : List ℕ} {s : State} → take (bytes_kept s.kept) filled ≡ take (bytes_kept s.kept) buffer → InputTaken input text image buffer s → InputTaken input text image filled s
still_taken {s = s} e t = record { part = t.part; taken = t.taken; unended = t.unended; kept = still_kept s.kept _ _ _ e t.kept }

joined_more : (pieces : List (List ℕ)) (piece : List ℕ) → joined pieces ++ piece ≡ joined (pieces ++ piece ∷ [])
joined_more pieces piece = ap (λ (x : List ℕ). joined pieces ++ x) (sym (append-nil piece)) ∙ sym (texts_append (λ (x : List ℕ). x) pieces (piece ∷ []))

-- the pieces so far are the input so far
fed_taken : {pieces : List (List ℕ)} {image buffer : List ℕ} {s : State} {text : List ℕ} → Fed pieces image buffer s text → InputTaken (joined pieces) text image buffer s
fed_taken (starts {buffer = b} h) = h.taken b
fed_taken (feeds {pieces = ps} {s = s} {text = text} {filled = filled} {got = got} {after = after} {left = left} {written = written} {r = r} f e h) =
    subst (λ (input : List ℕ). InputTaken input (text ++ take r.printed written) after left r) (joined_more ps (piece_in filled s got))
    (h.taken (joined ps) text (still_taken e (fed_taken f)))

printed_transcript : {pieces : List (List ℕ)} {output : List ℕ} → Printed pieces output → Transcript (joined pieces) output
printed_transcript {pieces} {output} p = subst (Transcript (joined pieces)) p.whole (p.finishes.whole (joined pieces) p.text (fed_taken p.fed))

-- EVERY CUT OF THE INPUT
pub every_cut : EveryCut
every_cut =
    record {
      transcript = printed_transcript;
      same = λ {pieces} {others} {output} {output'} e p q. transcript_same (subst (λ (x : List ℕ). Transcript x output) e (printed_transcript p)) (printed_transcript q);
    }
