-- `pool::is_among` meets its contract.
-- Assumes nothing.
use mathlib.Core.Path.{◌≡◌, sym, ap, ◌∙◌}
use Prim.Native.Nat.{ℕ, ◌+◌, ◌-◌}
use mathlib.Core.Bool.{Bool, ◌||◌}
use mathlib.Core.List.{List}
use lib.Dec.{eqb}
use lib.ListN.{get_or, take, drop}
use lib.Seq.{take_all}
use Rattle.graph.specs.KeyLists.{contains}
use Rattle.valid.proofs.Turns.{among_more}
use native.Mathlib.Omega.{arith}
use Rattle.valid.proofs.pool.is_among.Goals as goal

pub loop-y-preserved : goal.loop-y-preserved
loop-y-preserved c =
    let a = c.args in
    let l = c.loop-y in
    let t : List ℕ = take (a.at + 64 - a.at) (drop a.at a.s.now) in
    ap (λ (b : Bool). b || eqb (get_or t l.y-index 0) a.x) l.invariant ∙ sym (among_more a.x t l.y-index c.loop-y-test.true)

pub returns : goal.returns
returns c =
    let a = c.args in
    let l = c.loop-y in
    let t : List ℕ = take (a.at + 64 - a.at) (drop a.at a.s.now) in
    let n : a.at + 64 - a.at ≡ 64 = omega arith in
    l.invariant ∙ ap (contains a.x) (take_all l.y-index t c.loop-y-test.false) ∙ ap (λ (k : ℕ). contains a.x (take k (drop a.at a.s.now))) n
