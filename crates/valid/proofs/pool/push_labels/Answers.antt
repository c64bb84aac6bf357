-- `pool::push_labels` meets its contract.
-- Assumes nothing.
use mathlib.Core.Path.{◌≡◌, ap, ◌∙◌}
use Prim.Native.Nat.{ℕ, min, ◌≤◌}
use lib.ListN.{length, take}
use Rattle.valid.proofs.Turns.{put_part, put_first, take_min}
use native.Mathlib.Omega.{arith}
use borrow.Author.Rules.{rules}
use Rattle.valid.proofs.pool.push_labels.Goals as goal

pub returns : goal.returns
returns c =
    let a = c.args in
    let four : length a.l.label ≡ 4 = search rules in
    let few : c.min.result ≤ 4 = search rules in
    let first : take c.min.result a.l.label ≡ take a.l.count a.l.label = ap (λ (n : ℕ). take n a.l.label) (c.min.ensures ∙ ap (λ (n : ℕ). min n 4) c.from.ensures) ∙ take_min a.l.count 4 a.l.label four in
    (rw (c.copy_from_slice.ensures.after, ← first) (put_first c.min.result (omega (arith, c.requires)) few (put_part a.pool.now a.l.label a.at _ 4 (omega arith) (omega arith) c.requires)), omega arith)
