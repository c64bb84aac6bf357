-- The lines of the line buffer, one after the other.
-- Assumes nothing.
use mathlib.Core.Path.{◌≡◌, sym, ap, subst, ◌∙◌}
use mathlib.Core.List.{List, [], ◌∷◌, ◌++◌, append_assoc, append-nil}
use Prim.Native.Nat.{ℕ, suc, ◌+◌, ◌*◌, ◌-◌, ◌≤◌, ◌<◌}
use native.Mathlib.Omega.{arith}
use native.Mathlib.Numerals.{add-one}
use lib.ListN.{length, take, drop}
use Rattle.lines.specs.Forms.{line_at}
use Rattle.program.specs.Transcript.{lines_of, LineRun, none, next}
use Rattle.program.specs.Inner.Frames.{Next}
use Rattle.program.specs.declared.frame.FramePlace.{FramePlace}
use Rattle.pieces.specs.Inner.Frames.{LinesServed}
use Rattle.pieces.proofs.InputLines.{lines_at, run_append, taken_none}

-- ---- serving the lines of a frame

pub served_none : (image frame : List ℕ) (p : FramePlace) (out : List ℕ) → p.at ≤ length frame → p.used + 128 * (length frame - p.at) ≤ length out → LinesServed image frame p out image out p
served_none image frame p out h room =
    record {
      text = [];
      taken = taken_none image p.line (drop p.at frame);
      bytes = sym (append-nil (take p.used out));
      room = room;
      inside = h;
      fewer = omega arith;
    }

pub served_next : {image frame between out half after written : List ℕ} {p q r : FramePlace} → LinesServed image frame p out between half q → q.at + length (line_at frame q.at) < length frame → length written ≡ length half
    → Next between frame q half after written r → LinesServed image frame p out after written r
served_next {image} {frame} {between} {out} {half} {after} {written} {p} {q} {r} w h size x =
    record {
      text = w.text ++ x.text;
      taken =
          record {
            lines = w.taken.lines ++ line_at frame q.at ∷ [];
            runs =
                subst (λ (m : ℕ). LineRun image p.line (w.taken.lines ++ line_at frame q.at ∷ []) after m (w.text ++ x.text)) (sym (x.number ∙ add-one q.line))
                (run_append w.taken.runs (subst (λ (t : List ℕ). LineRun between q.line (line_at frame q.at ∷ []) after (suc q.line) t) (append-nil x.text) (next x.served none)));
            parts = λ rest. w.taken.parts rest
                ∙ ap (λ (l : List (List ℕ)). w.taken.lines ++ l) (lines_at frame rest q.at h ∙ ap (λ (k : ℕ). line_at frame q.at ∷ lines_of (drop k frame ++ rest)) (sym x.past))
                ∙ sym (append_assoc w.taken.lines (line_at frame q.at ∷ []) (lines_of (drop r.at frame ++ rest)));
          };
      bytes = x.bytes ∙ ap (λ (l : List ℕ). l ++ x.text) w.bytes ∙ append_assoc (take p.used out) w.text x.text;
      room = omega (arith, w.room, x.short, x.past, h);
      inside = omega (arith, h, x.past);
      fewer = omega (arith, w.fewer, x.past, x.number);
    }
