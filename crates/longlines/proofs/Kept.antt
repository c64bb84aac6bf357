-- What is kept of a long line as it begins and goes on.
-- Assumes nothing.
use Prim.Native.Nat.{ℕ, ◌+◌, ◌≤◌}
use mathlib.Core.Path.{◌≡◌, sym, ap, subst, ◌∙◌}
use mathlib.Core.List.{List, ◌++◌, append_assoc}
use native.Mathlib.Omega.{arith}
use lib.ListN.{length, take, drop, length-append, take-append-drop}
use Rattle.keylists.specs.Inner.ListsRead.{ReadSoFar}
use Rattle.lines.specs.Inner.Answers.{CallRead}
use Rattle.graph.specs.declared.refusal.Refusal.{Refusal}
use Rattle.std.proofs.Common.{Result}
use Rattle.lines.specs.declared.call.Call.{Call as Asked}
use Rattle.longlines.specs.Inner.LongLines.{CutAt, LongOf}
use Rattle.longlines.specs.declared.longline.LongLine.{LongLine}
use Rattle.longlines.proofs.Cuts.{far_more}

pub begins : (bytes : List ℕ) (at : ℕ) (l : LongLine) → length bytes ≡ 64 → CutAt bytes at → CallRead (take at bytes) l.start → ReadSoFar (drop at bytes) l.list → l.length ≡ 64
    → LongOf bytes l
begins bytes at l size c s d n =
    record {
      long = omega arith;
      size = omega arith;
      kept = λ h. record {
        front = take at bytes;
        rest = drop at bytes;
        parts = sym (take-append-drop at bytes);
        ends = c.ends;
        far = λ a b e. absurd (c.none a b e);
        start = s;
        list = d;
      };
    }

-- of a line of 256 bytes nothing but its length is known
pub past : (line : List ℕ) (r : LongLine) → 256 ≤ length line → r.length ≡ 256 → LongOf line r
past line r h n = record { long = omega arith; size = omega arith; kept = λ z. absurd (omega arith) }

pub goes_on_law : (line piece : List ℕ) (l r : LongLine) → LongOf line l → length line + length piece ≤ 255 → r.start ≡ l.start → ((s : List ℕ) → ReadSoFar s l.list → ReadSoFar (s ++ piece) r.list) → r.length ≡ l.length + length piece
    → LongOf (line ++ piece) r
goes_on_law line piece l r g few s d n =
    let e = length-append line piece in
    let k = g.kept (omega arith) in
    record {
      long = omega (arith, g.long);
      size = omega (arith, g.size);
      kept = λ h. record {
        front = k.front;
        rest = k.rest ++ piece;
        parts = ap (λ (q : List ℕ). q ++ piece) k.parts ∙ append_assoc k.front k.rest piece;
        ends = k.ends;
        far = far_more k.front k.rest piece (omega (arith, g.long, ap length k.parts, length-append k.front k.rest)) k.far;
        start = subst (λ (q : Result Asked Refusal). CallRead k.front q) (sym s) k.start;
        list = d k.rest k.list;
      };
    }
