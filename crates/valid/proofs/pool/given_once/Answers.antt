-- `pool::given_once` meets its contract.
-- Assumes nothing.
use mathlib.Core.Path.{◌≡◌, refl}
use Prim.Native.Nat.{ℕ, ◌+◌, ◌-◌, ◌%◌, ◌≤◌}
use native.Mathlib.Omega.{arith}
use mathlib.Core.Bool.{true, false}
use borrow.Author.Rules.{rules}
use lib.ListN.{length, get_or, take, drop}
use lib.Seq.{length-take-le}
use Rattle.graph.specs.KeyLists.{contains}
use Rattle.valid.proofs.Turns.{given_end, none_seen, turn_zero, turn_late, turn_twice, turn_next}
use Rattle.valid.proofs.pool.given_once.Goals as goal
use Rattle.valid.proofs.pool.given_once.Goals.{then-x-lt1-via-then-x-lt1, then-x-lt1-via-else-x-lt1+then-last-x, then-x-lt1-via-else-x-lt1+else-last-x+then-is_among}

pub loop-i-init : goal.loop-i-init
loop-i-init c =
    let a = c.args in
    let size : length (take a.n a.s.now) ≡ a.n = length-take-le a.n a.s.now (omega (arith, c.requires.size)) in
    (given_end a.last (take a.n a.s.now) a.n (omega arith), none_seen (take a.n a.s.now) a.n _ (omega arith) refl)

pub returns-then-x-lt1 : goal.returns-then-x-lt1
returns-then-x-lt1 c =
    let a = c.args in
    let up : c.loop-i.i ≤ a.n = omega arith in
    elim c.then-x-lt1.branch [
      | then-x-lt1-via-then-x-lt1 w ↦ turn_zero a.n a.last a.s.now c.requires c.loop-i.i up c.loop-i-test.true w.if-x-lt1.true
      | then-x-lt1-via-else-x-lt1+then-last-x w ↦ turn_late a.n a.last a.s.now c.requires c.loop-i.i up c.loop-i-test.true w.if-x-lt1.false (omega arith)
      | then-x-lt1-via-else-x-lt1+else-last-x+then-is_among w ↦
          turn_twice a.n a.last a.s.now c.requires c.loop-i.i up c.loop-i-test.true w.if-x-lt1.false (omega arith) (search rules)
    ]

pub loop-i-preserved : goal.loop-i-preserved
loop-i-preserved c =
    let a = c.args in
    let x : ℕ = get_or a.s.now (c.loop-i.i - 1) 0 in
    let unfound : get_or c.loop-i.seen (x % 256) false ≡ true → contains x (take 64 (drop (c.loop-i.i - 1 + 1) a.s.now)) ≡ false = λ q. search rules in
    rw c.from-low.ensures
    (turn_next a.n a.last a.s.now c.requires c.loop-i.i (omega arith) c.loop-i-test.true c.if-x-lt1.false (omega arith) c.loop-i.seen c.loop-i.invariant.1 c.loop-i.invariant.0 unfound)
