-- The lines of an input of which only the first bytes are known.
-- Assumes nothing.
use mathlib.Core.Path.{◌≡◌, refl, sym, ap, ◌∙◌}
use mathlib.Core.Bool.{Bool, true, false, cond}
use mathlib.Core.List.{List, [], ◌∷◌, ◌++◌, append-nil, append_assoc}
use Prim.Native.Nat.{ℕ, suc, ◌+◌, ◌≤◌, ◌<◌}
use native.Mathlib.Omega.{arith}
use lib.Dec.{eqb}
use lib.ListN.{length, drop, length-drop, length-append, drop_of_length-le}
use lib.Seq.{drop-drop, drop-append-add}
use Rattle.text.specs.Text.{up_to}
use Rattle.text.proofs.Splits.{split}
use Rattle.lines.specs.Forms.{line_at}
use Rattle.program.specs.Lines.{Line}
use Rattle.program.specs.Transcript.{on_first, lines_of, LineRun, none, next}
use Rattle.pieces.specs.Inner.Frames.{LinesTaken}

-- ---- a line, and the lines after it

lines_first : (l rest : List ℕ) → length (up_to 10 l) < length l → lines_of (l ++ rest) ≡ up_to 10 l ∷ lines_of (drop (length (up_to 10 l) + 1) l ++ rest)
unfolding up_to lines_of
lines_first [] rest h = absurd (omega arith)
lines_first (c ∷ cs) rest h = go (eqb c 10) refl (lines_first cs rest)
  where
    go : (b : Bool) → eqb c 10 ≡ b → (length (up_to 10 cs) < length cs → lines_of (cs ++ rest) ≡ up_to 10 cs ∷ lines_of (drop (length (up_to 10 cs) + 1) cs ++ rest))
        → lines_of ((c ∷ cs) ++ rest) ≡ up_to 10 (c ∷ cs) ∷ lines_of (drop (length (up_to 10 (c ∷ cs)) + 1) (c ∷ cs) ++ rest)
    go true e ih = rw e refl
    go false e ih =
        let few : length (up_to 10 cs) < length cs = omega (arith, rw e at h) in
        let s : suc (length (up_to 10 cs)) + 1 ≡ suc (length (up_to 10 cs) + 1) = omega arith in
        rw (e, ih few) (ap (λ (k : ℕ). (c ∷ up_to 10 cs) ∷ lines_of (drop k (c ∷ cs) ++ rest)) (sym s))

-- the same at a place of a frame
pub lines_at : (frame rest : List ℕ) (at : ℕ) → at + length (line_at frame at) < length frame → lines_of (drop at frame ++ rest) ≡ line_at frame at ∷ lines_of (drop (at + length (line_at frame at) + 1) frame ++ rest)
lines_at frame rest at h =
    let e : at + (length (line_at frame at) + 1) ≡ at + length (line_at frame at) + 1 = omega arith in
    lines_first (drop at frame) rest (omega (arith, length-drop at frame))
    ∙ ap (λ (x : List ℕ). line_at frame at ∷ lines_of (x ++ rest)) (drop-drop (length (line_at frame at) + 1) at frame ∙ ap (λ (k : ℕ). drop k frame) e)

-- ---- a part without a newline

-- it goes on up to the newline of what follows it
pub up_to_on : (part bytes : List ℕ) → up_to 10 part ≡ part → up_to 10 (part ++ bytes) ≡ part ++ up_to 10 bytes
unfolding up_to
up_to_on [] bytes e = refl
up_to_on (c ∷ cs) bytes e = go (eqb c 10) refl e (up_to_on cs bytes)
  where
    go : (b : Bool) → eqb c 10 ≡ b → cond b [] (c ∷ up_to 10 cs) ≡ c ∷ cs → (up_to 10 cs ≡ cs → up_to 10 (cs ++ bytes) ≡ cs ++ up_to 10 bytes)
        → cond (eqb c 10) [] (c ∷ up_to 10 (cs ++ bytes)) ≡ c ∷ (cs ++ up_to 10 bytes)
    go true q w ih = let z : ◌≡◌ {A = ℕ} 0 (suc (length cs)) = ap length w in absurd (omega arith)
    go false q w ih = rw q (ap (λ (x : List ℕ). c ∷ x) (ih (ap (drop 1) w)))

-- no newline stands in bytes that are as long as their first line
pub no_newline : (l : List ℕ) → length l ≤ length (up_to 10 l) → up_to 10 l ≡ l
no_newline l h = sym ((split 10 l).0 ∙ ap (λ (x : List ℕ). up_to 10 l ++ x) (drop_of_length-le l h) ∙ append-nil (up_to 10 l))

-- at the input's end it is a line, if it has a byte
pub last_line : (part : List ℕ) → up_to 10 part ≡ part → 0 < length part → lines_of part ≡ part ∷ []
unfolding up_to lines_of
last_line [] e h = absurd (omega arith)
last_line (c ∷ []) e h = go (eqb c 10) refl e
  where
    go : (b : Bool) → eqb c 10 ≡ b → cond b [] (c ∷ []) ≡ c ∷ [] → cond (eqb c 10) ([] ∷ []) (on_first c []) ≡ (c ∷ []) ∷ []
    go true q w = let z : ◌≡◌ {A = ℕ} 0 1 = ap length w in absurd (omega arith)
    go false q w = rw q refl
last_line (c ∷ d ∷ cs) e h = go (eqb c 10) refl e (last_line (d ∷ cs))
  where
    go : (b : Bool) → eqb c 10 ≡ b → cond b [] (c ∷ up_to 10 (d ∷ cs)) ≡ c ∷ d ∷ cs → (up_to 10 (d ∷ cs) ≡ d ∷ cs → 0 < length (d ∷ cs) → lines_of (d ∷ cs) ≡ (d ∷ cs) ∷ [])
        → cond (eqb c 10) ([] ∷ lines_of (d ∷ cs)) (on_first c (lines_of (d ∷ cs))) ≡ (c ∷ d ∷ cs) ∷ []
    go true q w ih = let z : ◌≡◌ {A = ℕ} 0 (suc (suc (length cs))) = ap length w in absurd (omega arith)
    go false q w ih = rw q (ap (on_first c) (ih (ap (drop 1) w) (omega arith)))

-- ---- runs, one after the other

pub run_append : {image between after : List ℕ} {n m k : ℕ} {ls ms : List (List ℕ)} {text more : List ℕ} → LineRun image n ls between m text → LineRun between m ms after k more → LineRun image n (ls ++ ms) after k (text ++ more)
run_append none r = r
run_append {more = more} (next {text = t} {texts = ts} x q) r = rw (append_assoc t ts more) (next x (run_append q r))

-- ---- lines taken of bytes

pub taken_none : (image : List ℕ) (n : ℕ) (bytes : List ℕ) → LinesTaken image n bytes image n [] bytes
taken_none image n bytes = record { lines = []; runs = none; parts = λ rest. refl }

-- what is left goes on with more bytes
pub taken_more : {image between after : List ℕ} {n m k : ℕ} {bytes left text more last : List ℕ} (piece : List ℕ) → LinesTaken image n bytes between m text left → LinesTaken between m (left ++ piece) after k more last
    → LinesTaken image n (bytes ++ piece) after k (text ++ more) last
taken_more {bytes = bytes} {left = left} {last = last} piece x y =
    record {
      lines = x.lines ++ y.lines;
      runs = run_append x.runs y.runs;
      parts = λ rest. ap lines_of (append_assoc bytes piece rest)
          ∙ x.parts (piece ++ rest)
          ∙ ap (λ (l : List ℕ). x.lines ++ lines_of l) (sym (append_assoc left piece rest))
          ∙ ap (λ (l : List (List ℕ)). x.lines ++ l) (y.parts rest)
          ∙ sym (append_assoc x.lines y.lines (lines_of (last ++ rest)));
    }

-- a line whose end came with the piece, and what is taken of the rest of the piece
pub taken_line : {image between after part : List ℕ} {n k : ℕ} {text more last : List ℕ} (piece : List ℕ) → up_to 10 part ≡ part → length (up_to 10 piece) < length piece
    → Line image (part ++ up_to 10 piece) n between text → LinesTaken between (suc n) (drop (length (up_to 10 piece) + 1) piece) after k more last
    → LinesTaken image n (part ++ piece) after k (text ++ more) last
taken_line {part = part} {last = last} piece e h x y =
    record {
      lines = (part ++ up_to 10 piece) ∷ y.lines;
      runs = next x y.runs;
      parts = λ rest. whole rest ∙ ap (λ (l : List (List ℕ)). (part ++ up_to 10 piece) ∷ l) (y.parts rest);
    }
  where
    line : up_to 10 (part ++ piece) ≡ part ++ up_to 10 piece
    line = up_to_on part piece e

    size : length (part ++ up_to 10 piece) ≡ length part + length (up_to 10 piece)
    size = length-append part (up_to 10 piece)

    after_line : drop (length (part ++ up_to 10 piece) + 1) (part ++ piece) ≡ drop (length (up_to 10 piece) + 1) piece
    after_line =
        let q : length (part ++ up_to 10 piece) + 1 ≡ length part + (length (up_to 10 piece) + 1) = omega (arith, size) in
        ap (λ (k : ℕ). drop k (part ++ piece)) q ∙ drop-append-add part piece (length (up_to 10 piece) + 1)

    whole : (rest : List ℕ) → lines_of ((part ++ piece) ++ rest) ≡ (part ++ up_to 10 piece) ∷ lines_of (drop (length (up_to 10 piece) + 1) piece ++ rest)
    whole rest =
        lines_first (part ++ piece) rest (omega (arith, ap length line, size, length-append part piece))
        ∙ ap (λ (l : List ℕ). l ∷ lines_of (drop (length l + 1) (part ++ piece) ++ rest)) line
        ∙ ap (λ (l : List ℕ). (part ++ up_to 10 piece) ∷ lines_of (l ++ rest)) after_line
