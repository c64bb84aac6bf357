-- The calls that the accepted lines are the texts of pass the tests of their forms, and make at most 64 nodes; and no accepted line has more
-- than 63 bytes.
-- Assumes nothing.
use mathlib.Core.Path.{refl, subst, ap}
use Prim.Native.Nat.{ℕ, ◌≤◌}
use native.Mathlib.Omega.{arith}
use mathlib.Core.List.{List}
use lib.ListN.{length}
use Rattle.graph.specs.Calls.{Call}
use Rattle.graph.specs.EventRuns.{EventRun}
use Rattle.graph.specs.CallResults.{nodes_after}
use Rattle.graph.specs.Valid.{Each}
use Rattle.graph.proofs.Validity.{FormFits}
use Rattle.graph.proofs.Demand3.{accepted_formed, accepted_nodes}
use Rattle.lines.proofs.Lengths.{call_short}
use Rattle.runs.specs.Runs.{Sent, Runs, opening, accepted_lines, TextsOf, no_line, a_line}
use Rattle.runs.proofs.Demand3.{to}
use Rattle.runs.proofs.SameEnd.{texts_same}

pub lines_formed : (es : List Sent) (h : Runs opening es) (cs : List Call) → TextsOf (accepted_lines es) cs → Each FormFits cs
lines_formed es h cs t =
    subst (Each FormFits) (texts_same refl (to es h).texts t)
    (subst (λ (x : EventRun). Each FormFits x.accepted) (to es h).moved (accepted_formed (to es h).made))

pub lines_nodes : (es : List Sent) (h : Runs opening es) (cs : List Call) → TextsOf (accepted_lines es) cs → length (nodes_after cs) ≤ 64
lines_nodes es h cs t =
    subst (λ (ds : List Call). length (nodes_after ds) ≤ 64) (texts_same refl (to es h).texts t)
    (subst (λ (x : EventRun). length (nodes_after x.accepted) ≤ 64) (to es h).moved (accepted_nodes (to es h).made))

lines_short : {lines : List (List ℕ)} {cs : List Call} → TextsOf lines cs → Each FormFits cs → Each (λ (line : List ℕ). length line ≤ 63) lines
lines_short no_line h = tt
lines_short (a_line {c = c} i t) h = (omega (arith, ap length i.same, call_short c h.0), lines_short t h.1)

pub accepted_short : (es : List Sent) → Runs opening es → Each (λ (line : List ℕ). length line ≤ 63) (accepted_lines es)
accepted_short es h = lines_short (to es h).texts (lines_formed es h (to es h).calls (to es h).texts)
