-- The lines of a frame, one after the other.
-- Assumes nothing.
use mathlib.Core.Path.{◌≡◌, refl, sym, ap, subst, ◌∙◌}
use mathlib.Core.Bool.{Bool, true, false}
use mathlib.Core.List.{List, [], ◌∷◌, ◌++◌, append_assoc, append-nil}
use Prim.Native.Nat.{ℕ, suc, ◌+◌, ◌-◌, ◌≤◌, ◌<◌}
use native.Mathlib.Omega.{arith}
use native.Mathlib.Numerals.{add-one}
use lib.Dec.{eqb}
use lib.ListN.{length, take, drop, length-drop}
use lib.Seq.{length-take-le, take-append-le, take-append-add, drop-drop}
use borrow.Rule.Slice.PartMut.{mid_of, post_of, put_mid, mid_len, same_len_mid}
use Rattle.text.specs.Text.{up_to}
use Rattle.lines.specs.Forms.{line_at}
use Rattle.program.specs.Lines.{Line}
use Rattle.program.specs.Transcript.{lines_of, LineRun, none, next}
use Rattle.program.specs.Inner.Frames.{Ready, Served, Next, LinesServed}
use Rattle.program.specs.declared.frame.FramePlace.{FramePlace}

-- ---- a line, and the lines after it

lines_first : (l : List ℕ) → length (up_to 10 l) < length l → lines_of l ≡ up_to 10 l ∷ lines_of (drop (length (up_to 10 l) + 1) l)
unfolding up_to lines_of
lines_first [] h = absurd (omega arith)
lines_first (c ∷ cs) h = go (eqb c 10) refl (lines_first cs)
  where
    go : (b : Bool) → eqb c 10 ≡ b → (length (up_to 10 cs) < length cs → lines_of cs ≡ up_to 10 cs ∷ lines_of (drop (length (up_to 10 cs) + 1) cs))
        → lines_of (c ∷ cs) ≡ up_to 10 (c ∷ cs) ∷ lines_of (drop (length (up_to 10 (c ∷ cs)) + 1) (c ∷ cs))
    go true e ih = rw e refl
    go false e ih =
        let few : length (up_to 10 cs) < length cs = omega (arith, rw e at h) in
        let s : suc (length (up_to 10 cs)) + 1 ≡ suc (length (up_to 10 cs) + 1) = omega arith in
        rw (e, ih few) (ap (λ (k : ℕ). (c ∷ up_to 10 cs) ∷ lines_of (drop k (c ∷ cs))) (sym s))

-- the same at a place of a frame
pub lines_at : (frame : List ℕ) (at : ℕ) → at + length (line_at frame at) < length frame → lines_of (drop at frame) ≡ line_at frame at ∷ lines_of (drop (at + length (line_at frame at) + 1) frame)
lines_at frame at h =
    let e : at + (length (line_at frame at) + 1) ≡ at + length (line_at frame at) + 1 = omega arith in
    lines_first (drop at frame) (omega (arith, length-drop at frame))
    ∙ ap (λ (x : List ℕ). line_at frame at ∷ lines_of x) (drop-drop (length (line_at frame at) + 1) at frame ∙ ap (λ (k : ℕ). drop k frame) e)

-- a run, and one line more
run_more : {image after last l : List ℕ} {n m : ℕ} {ls : List (List ℕ)} {text t : List ℕ} → LineRun image n ls after m text → Line after l m last t → LineRun image n (ls ++ l ∷ []) last (suc m) (text ++ t)
run_more {image} {after} {last} {l} {n} {m} {ls} {text} {t} none x = subst (λ (y : List ℕ). LineRun image n (l ∷ []) last (suc n) y) (append-nil t) (next x none)
run_more (next y r) x = rw append_assoc (next y (run_more r x))

-- ---- what is written behind what was there

pub behind : (out part : List ℕ) (used k r : ℕ) → used ≤ length out → r ≤ length part → take (used + r) (put_mid used k out part) ≡ take used out ++ take r part
behind out part used k r fits within =
    let t : length (take used out) ≡ used = length-take-le used out fits in
    ap (λ (j : ℕ). take (j + r) (put_mid used k out part)) (sym t)
    ∙ take-append-add (take used out) (part ++ post_of used k out) r
    ∙ ap (λ (x : List ℕ). take used out ++ x) (take-append-le r part (post_of used k out) within)

-- ---- the next line: whether it is whole, and serving it

pub next_served : {image frame out after part : List ℕ} {p : FramePlace} {n r : ℕ} → Ready frame p out true → n ≡ length (line_at frame p.at) → length part ≡ length (mid_of p.used (p.used + 128 - p.used) out)
    → Served image (line_at frame p.at) p.line after part r
    → Next image frame p out after (put_mid p.used (p.used + 128 - p.used) out part) (record { at = p.at + n + 1; line = p.line + 1; used = p.used + r })
next_served {image} {frame} {out} {after} {part} {p} {n} {r} ready size same s =
    record {
      text = take r part;
      served = s.served;
      bytes = behind out part p.used (p.used + 128 - p.used) r (omega (arith, ready.1)) s.within;
      fits = omega (arith, s.within, same, mid_len p.used (p.used + 128) out ready.1, same_len_mid p.used (p.used + 128 - p.used) out part same, ready.1);
      short = omega (arith, s.within, same, mid_len p.used (p.used + 128) out ready.1);
      past = ap (λ (k : ℕ). p.at + k + 1) size;
      number = refl;
    }

-- ---- serving the lines of a frame

pub served_none : (image frame : List ℕ) (at n : ℕ) (out : List ℕ) → at ≤ length frame → LinesServed image frame at n image out (record { at = at; line = n; used = 0 })
served_none image frame at n out h =
    record {
      lines = [];
      runs = none;
      parts = refl;
      fits = omega arith;
      on = omega arith;
      inside = h;
      fewer = omega arith;
    }

pub served_next : {image frame between out after written : List ℕ} {at n : ℕ} {p q : FramePlace} → LinesServed image frame at n between out p → Ready frame p out true → Next between frame p out after written q → LinesServed image frame at n after written q
served_next {image} {frame} {between} {out} {after} {written} {at} {n} {p} {q} w ready x =
    record {
      lines = w.lines ++ line_at frame p.at ∷ [];
      runs = subst (λ (m : ℕ). LineRun image n (w.lines ++ line_at frame p.at ∷ []) after m (take q.used written)) (sym (x.number ∙ add-one p.line)) (rw x.bytes (run_more w.runs x.served));
      parts =
          w.parts
          ∙ ap (λ (y : List (List ℕ)). w.lines ++ y) (lines_at frame p.at ready.0 ∙ ap (λ (k : ℕ). line_at frame p.at ∷ lines_of (drop k frame)) (sym x.past))
          ∙ sym (append_assoc w.lines (line_at frame p.at ∷ []) (lines_of (drop q.at frame)));
      fits = x.fits;
      on = omega (arith, w.on, x.past);
      inside = omega (arith, ready.0, x.past);
      fewer = omega (arith, w.fewer, x.past, x.number);
    }
