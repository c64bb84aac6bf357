-- A piece fed, and the end of the input.
-- Assumes nothing.
use mathlib.Core.Path.{◌≡◌, refl, sym, ap, subst, ◌∙◌}
use mathlib.Core.List.{List, [], ◌∷◌, ◌++◌, append_assoc, append-nil}
use Prim.Native.Nat.{ℕ, suc, ◌+◌, ◌-◌, ◌≤◌, ◌<◌}
use native.Mathlib.Omega.{arith}
use native.Mathlib.Numerals.{add-one}
use lib.ListN.{length, take, drop, length-drop, length-append}
use lib.Seq.{length-take-le, take-take, take-add, take-append_seam, take-append-le, drop_at}
use borrow.Rule.Slice.PartMut.{put_mid}
use Rattle.graph.specs.Sessions.{fresh}
use Rattle.text.specs.Text.{up_to}
use Rattle.text.proofs.Splits.{split}
use Rattle.lines.specs.Forms.{line_at}
use Rattle.longlines.specs.Inner.LongLines.{LongOf}
use Rattle.longlines.specs.declared.longline.LongLine.{LongLine}
use Rattle.valid.specs.Values.{encode}
use Rattle.program.specs.Lines.{Line}
use Rattle.program.specs.Transcript.{lines_of, LineRun, none, next, Transcript}
use Rattle.program.specs.Inner.Frames.{Served, Ended}
use Rattle.pieces.specs.Inner.Frames.{LinesTaken, LinesServed}
use Rattle.pieces.specs.Inner.Feeding.{bytes_kept, KeptOf, InputTaken, piece_in, BytesFed, AllServed}
use Rattle.program.specs.declared.frame.FramePlace.{FramePlace}
use Rattle.pieces.specs.declared.between.Kept.{Kept}
use Rattle.pieces.specs.declared.between.Kept.TheVariants.{Bytes, Long}
use Rattle.pieces.specs.declared.between.State.{State}
use Rattle.pieces.proofs.InputLines.{up_to_on, no_newline, last_line, run_append, taken_none, taken_more, taken_line}
use Rattle.program.proofs.Framing.{behind}

-- ---- parts of the line buffer

pub rest_moved : (buffer : List ℕ) (at filled : ℕ) → at ≤ filled → filled ≤ length buffer → take (filled - at) (drop at buffer) ≡ drop at (take filled buffer)
rest_moved buffer at filled h k =
    let e : at + (filled - at) ≡ filled = omega arith in
    sym (drop_at (take at buffer) (take (filled - at) (drop at buffer)) at (length-take-le at buffer (omega arith)))
    ∙ ap (drop at) (sym (take-add at (filled - at) buffer) ∙ ap (λ (n : ℕ). take n buffer) e)

-- a frame's first line is so many of its first bytes
first_bytes : (frame : List ℕ) → take (length (up_to 10 frame)) frame ≡ up_to 10 frame
first_bytes frame = ap (take (length (up_to 10 frame))) (split 10 frame).0 ∙ take-append_seam (up_to 10 frame) (drop (length (up_to 10 frame)) frame)

-- and is not longer than the frame
pub line_within : (got : ℕ) (buffer : List ℕ) → got ≤ length buffer → length (up_to 10 (take got buffer)) ≤ got
line_within got buffer h =
    let frame : List ℕ = take got buffer in
    omega (arith, length-take-le got buffer h, length-append (up_to 10 frame) (drop (length (up_to 10 frame)) frame), ap length (split 10 frame).0)

-- ---- the rest of a frame is kept

pub lines_fed : {image frame out after written left : List ℕ} {p q : FramePlace} {r : State} → LinesServed image frame p out after written q → length frame ≤ q.at + length (line_at frame q.at)
    → KeptOf r.kept left (drop q.at frame) → r.line ≡ q.line → r.printed ≡ q.used
    → BytesFed image p.line (drop p.at frame) (take p.used out) after left written r
lines_fed {image} {frame} {out} {after} {written} {left} {p} {q} {r} w end kept line used =
    record {
      text = w.text;
      part = drop q.at frame;
      taken = subst (λ (n : ℕ). LinesTaken image p.line (drop p.at frame) after n w.text (drop q.at frame)) (sym line) w.taken;
      printed = ap (λ (n : ℕ). take n written) used ∙ w.bytes;
      within = omega (arith, used, w.room);
      unended = no_newline (drop q.at frame) (omega (arith, end, length-drop q.at frame));
      kept = kept;
    }

-- ---- a piece that goes on with a line that filled the buffer

-- the piece has no newline
pub long_more : {image out : List ℕ} {n : ℕ} {l : LongLine} (part buffer : List ℕ) (got k : ℕ) → got ≤ length buffer → k ≡ length (up_to 10 (take got buffer)) → k ≡ got → up_to 10 part ≡ part → LongOf (part ++ take k buffer) l
    → BytesFed image n (part ++ take got buffer) [] image buffer out (record { line = n; kept = Long l; printed = 0 })
long_more {image} {out} {n} {l} part buffer got k h size all clean o =
    let frame : List ℕ = take got buffer in
    let whole : up_to 10 frame ≡ frame = no_newline frame (omega (arith, size, all, length-take-le got buffer h)) in
    record {
      text = [];
      part = part ++ frame;
      taken = taken_none image n (part ++ frame);
      printed = refl;
      within = omega arith;
      unended = up_to_on part frame clean ∙ ap (λ (x : List ℕ). part ++ x) whole;
      kept = subst (λ (m : ℕ). LongOf (part ++ take m buffer) l) all o;
    }

-- the piece ends the line: it is served, and then the lines that follow
pub long_ends : {image between after left written : List ℕ} {n used : ℕ} {r : State} (part buffer lent rest : List ℕ) (got k : ℕ) → got ≤ length buffer → k ≡ length (up_to 10 (take got buffer)) → (k ≡ got → ⊥) → up_to 10 part ≡ part
    → Served image (part ++ take k buffer) n between lent used
    → BytesFed between (n + 1) (drop (k + 1) (take got buffer)) (take used (lent ++ rest)) after left written r
    → BytesFed image n (part ++ take got buffer) [] after left written r
long_ends {image} {between} {after} {left} {written} {n} {used} {r} part buffer lent rest got k h size less clean s fed =
    record {
      text = take used lent ++ fed.text;
      part = fed.part;
      taken =
          taken_line frame clean (omega (arith, size, less, length-take-le got buffer h, line_within got buffer h))
          (subst (λ (x : List ℕ). Line image (part ++ x) n between (take used lent)) line s.served)
          (subst (λ (j : ℕ). LinesTaken between j (drop (length (up_to 10 frame) + 1) frame) after r.line fed.text fed.part) (add-one n)
          (subst (λ (j : ℕ). LinesTaken between (n + 1) (drop (j + 1) frame) after r.line fed.text fed.part) size fed.taken));
      printed = fed.printed ∙ ap (λ (x : List ℕ). x ++ fed.text) (take-append-le used lent rest s.within);
      within = fed.within;
      unended = fed.unended;
      kept = fed.kept;
    }
  where
    frame : List ℕ
    frame = take got buffer

    line : take k buffer ≡ up_to 10 frame
    line =
        sym (take-take k got buffer (omega (arith, size, line_within got buffer h))) ∙ ap (λ (j : ℕ). take j frame) size ∙ first_bytes frame

-- ---- from the bytes to the whole input

fed_input : {input text image buffer : List ℕ} {s : State} {after left written : List ℕ} {r : State} (piece : List ℕ) (t : InputTaken input text image buffer s) → BytesFed image s.line (t.part ++ piece) [] after left written r
    → InputTaken (input ++ piece) (text ++ take r.printed written) after left r
fed_input {input} {text} {after = after} {r = r} piece t fed =
    record {
      part = fed.part;
      taken = subst (λ (x : List ℕ). LinesTaken (encode fresh) 1 (input ++ piece) after r.line (text ++ x) fed.part) (sym fed.printed) (taken_more piece t.taken fed.taken);
      unended = fed.unended;
      kept = fed.kept;
    }

-- what is kept, by its case
pub kept_as : {k m : Kept} (buffer part : List ℕ) → k ≡ m → KeptOf k buffer part → KeptOf m buffer part
kept_as buffer part e h = subst (λ (k : Kept). KeptOf k buffer part) e h

-- the piece goes on with a line that filled the buffer
pub long_input : {input text image buffer : List ℕ} {s : State} {l : LongLine} {after left written : List ℕ} {r : State} (got : ℕ) (t : InputTaken input text image buffer s) → s.kept ≡ Long l
    → (LongOf t.part l → BytesFed image s.line (t.part ++ take got buffer) [] after left written r)
    → InputTaken (input ++ piece_in buffer s got) (text ++ take r.printed written) after left r
long_input {input} {text} {image} {buffer} {s} {l} {after} {left} {written} {r} got t is fed =
    let piece : take got buffer ≡ piece_in buffer s got = ap (λ (k : Kept). take got (drop (bytes_kept k) buffer)) (sym is) in
    fed_input (piece_in buffer s got) t (subst (λ (x : List ℕ). BytesFed image s.line (t.part ++ x) [] after left written r) piece (fed (kept_as _ _ is t.kept)))

-- the piece stands behind bytes that are kept
pub short_input : {input text image buffer : List ℕ} {s : State} {n : ℕ} {after left written : List ℕ} {r : State} (got : ℕ) (t : InputTaken input text image buffer s) → s.kept ≡ Bytes n
    → BytesFed image s.line (take (n + got) buffer) [] after left written r
    → InputTaken (input ++ piece_in buffer s got) (text ++ take r.printed written) after left r
short_input {input} {text} {image} {buffer} {s} {n} {after} {left} {written} {r} got t is fed =
    let some = kept_as _ _ is t.kept in
    let piece : take got (drop n buffer) ≡ piece_in buffer s got = ap (λ (k : Kept). take got (drop (bytes_kept k) buffer)) (sym is) in
    let whole : take (n + got) buffer ≡ t.part ++ piece_in buffer s got = take-add n got buffer ∙ (λ i. some.1 i ++ piece i) in
    fed_input (piece_in buffer s got) t (subst (λ (x : List ℕ). BytesFed image s.line x [] after left written r) whole fed)

-- ---- the end

module _ {input text image buffer : List ℕ} {s : State} (t : InputTaken input text image buffer s) where
  all_lines : lines_of input ≡ t.taken.lines ++ lines_of t.part
  all_lines = ap lines_of (sym (append-nil input)) ∙ t.taken.parts [] ∙ ap (λ (x : List ℕ). t.taken.lines ++ lines_of x) (append-nil t.part)

  -- nothing is left
  pub none_left : t.part ≡ [] → (written : List ℕ) → AllServed input (text ++ take 0 written) image
  unfolding lines_of
  none_left e written =
      let lines : lines_of input ≡ t.taken.lines = all_lines ∙ ap (λ (x : List ℕ). t.taken.lines ++ lines_of x) e ∙ append-nil t.taken.lines in
      record {
        count = s.line;
        runs =
            subst (λ (x : List ℕ). LineRun (encode fresh) 1 (lines_of input) image s.line x) (sym (append-nil text))
            (subst (λ (x : List (List ℕ)). LineRun (encode fresh) 1 x image s.line text) (sym lines) t.taken.runs);
      }

  -- a last line without a newline
  pub last_left : {after written : List ℕ} {r : ℕ} → 0 < length t.part → Served image t.part s.line after written r → AllServed input (text ++ take r written) after
  last_left {after} {written} {r} some v =
      let lines : lines_of input ≡ t.taken.lines ++ t.part ∷ [] = all_lines ∙ ap (λ (x : List (List ℕ)). t.taken.lines ++ x) (last_line t.part t.unended some) in
      record {
        count = suc s.line;
        runs =
            subst (λ (x : List (List ℕ)). LineRun (encode fresh) 1 x after (suc s.line) (text ++ take r written)) (sym lines)
            (run_append t.taken.runs (subst (λ (x : List ℕ). LineRun image s.line (t.part ∷ []) after (suc s.line) x) (append-nil (take r written)) (next v.served none)));
      }

  -- the bytes of it that are kept
  pub bytes_left : {n : ℕ} {after written : List ℕ} {r : ℕ} → s.kept ≡ Bytes n → n ≤ length buffer → (n ≡ 0 → ⊥) → Served image (up_to 10 (take n buffer)) s.line after written r → AllServed input (text ++ take r written) after
  bytes_left {n} {after} {written} {r} is h ne v =
      let same : take n buffer ≡ t.part = (kept_as _ _ is t.kept).1 in
      last_left (omega (arith, ap length same, length-take-le n buffer h, ne)) (subst (λ (x : List ℕ). Served image x s.line after written r) (ap (up_to 10) same ∙ t.unended) v)

-- and the listing
pub all_listed : {input image listed : List ℕ} {last r : ℕ} (text out : List ℕ) (k : ℕ) → last ≤ length out → AllServed input (text ++ take last out) image → Ended image listed r
    → Transcript input (text ++ take (last + r) (put_mid last k out listed))
all_listed {input} {image} {listed} {last} {r} text out k h a e =
    record {
      after = image;
      count = a.count;
      text = text ++ take last out;
      listing = take r listed;
      runs = a.runs;
      ends = e.listing;
      whole = append_assoc text (take last out) (take r listed) ∙ ap (λ (x : List ℕ). text ++ x) (sym (behind out listed last k r h e.within));
    }
