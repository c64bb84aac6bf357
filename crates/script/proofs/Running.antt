-- Runs of lines, one after the other.
-- Assumes nothing.
use Prim.Native.Nat.{ℕ, suc, ◌+◌, ◌≤◌}
use mathlib.Core.Path.{◌≡◌, sym, subst}
use mathlib.Core.List.{List, [], ◌∷◌, ◌++◌, append_assoc}
use native.Mathlib.Omega.{arith}
use Rattle.program.specs.Lines.{Line}
use Rattle.program.specs.Transcript.{LineRun, none, next}
use Rattle.program.specs.Inner.Frames.{LinesServed}
use Rattle.program.specs.declared.frame.FramePlace.{FramePlace}
use Rattle.script.specs.Inner.Running.{LinesRun}

pub no_lines : {image : List ℕ} {n : ℕ} → LinesRun image n image n
no_lines = record { lines = []; text = []; runs = none }

pub one_line : {image l after text : List ℕ} {n : ℕ} → Line image l n after text → LinesRun image n after (n + 1)
one_line {image} {l} {after} {text} {n} x =
    let e : suc n ≡ n + 1 = omega arith in
    subst (LinesRun image n after) e (record { lines = l ∷ []; text = text ++ []; runs = next x none })

run_append : {a b c : List ℕ} {n m k : ℕ} {ls ms : List (List ℕ)} {t u : List ℕ} → LineRun a n ls b m t → LineRun b m ms c k u → LineRun a n (ls ++ ms) c k (t ++ u)
run_append none y = y
run_append {a = a} {c = c} {n = n} {k = k} {ms = ms} {u = u} (next {l = l} {ls = rest} {text = s} {texts = r} x xs) y =
    subst (LineRun a n (l ∷ (rest ++ ms)) c k) (sym (append_assoc s r u)) (next x (run_append xs y))

pub then : {a b c : List ℕ} {n m k : ℕ} → LinesRun a n b m → LinesRun b m c k → LinesRun a n c k
then x y = record { lines = x.lines ++ y.lines; text = x.text ++ y.text; runs = run_append x.runs y.runs }

-- numbers do not fall
run_rises : {image after : List ℕ} {n m : ℕ} {ls : List (List ℕ)} {t : List ℕ} → LineRun image n ls after m t → n ≤ m
run_rises none = omega arith
run_rises (next x xs) = omega (arith, run_rises xs)

pub rises : {image after : List ℕ} {n m : ℕ} → LinesRun image n after m → n ≤ m
rises x = run_rises x.runs

-- what `serve_lines` served
pub lines_run : {image frame after out : List ℕ} {at n : ℕ} {p : FramePlace} → LinesServed image frame at n after out p → LinesRun image n after p.line
lines_run w = record { lines = w.lines; text = _; runs = w.runs }
