-- `keylists::sofar::ListSoFar::with_digit` meets its contract: a number begins or takes a digit, and it may come to be none of 32 bits.
-- Assumes nothing.
use native.Mathlib.Omega.{arith}
use Rattle.std.proofs.Common.{rules, ◌≡◌, ◌+◌, ◌*◌, ◌-◌, None, Some, ◌∙◌, ap}
use Rattle.text.specs.Text.{decimal}
use Rattle.keylists.proofs.ListsBegun.{breaks_at_law, after_zero, too_large, one_digit, digit_more, number_more}
use Rattle.keylists.proofs.sofar.ListSoFar.with_digit.Goals as goal
use Rattle.keylists.proofs.sofar.ListSoFar.with_digit.Goals.{in-None, in-Some+in_ok-checked_mul-in-Some+in_ok-number-in-Some}

pub returns-in-Some-eq0 : goal.returns-in-Some-eq0
returns-in-Some-eq0 c = λ s g. breaks_at_law s c.args.self g (Some 0) (search rules) c.args.b (after_zero c.args.b c.requires.0)

pub returns-in_err-checked_mul-in-Some : goal.returns-in_err-checked_mul-in-Some
returns-in_err-checked_mul-in-Some c = λ s g.
    rw c.from_residual.ensures
    (breaks_at_law s c.args.self g (Some c.in-Some.v) c.in-Some.is c.args.b (too_large c.in-Some.v c.args.b (omega (arith, c.in-Some.v-test)) c.requires.0 c.requires.1 (omega (arith, c.in_err-checked_mul-in-Some.ensures))))

pub returns-in_err-number-in-Some : goal.returns-in_err-number-in-Some
returns-in_err-number-in-Some c = λ s g.
    rw c.from_residual-in_err-number-in-Some.ensures
    (breaks_at_law s c.args.self g (Some c.in-Some.v) c.in-Some.is c.args.b (too_large c.in-Some.v c.args.b (omega (arith, c.in-Some.v-test)) c.requires.0 c.requires.1 (omega (arith, c.in_err-number-in-Some.ensures, c.in_ok-checked_mul-in-Some.ensures))))

pub returns : goal.returns
returns c = λ s g.
    let f = c.args.self in
    let b = c.args.b in
    elim c.match-self.branch [
      | in-None w ↦ number_more s f g None w.in-None.is b _ (rw (w.number-is, c.from-digit.ensures) (one_digit b c.requires.0 c.requires.1))
      | in-Some+in_ok-checked_mul-in-Some+in_ok-number-in-Some w ↦
          let p = w.in_ok-checked_mul-in-Some.ensures in
          let q = w.in_ok-number-in-Some.ensures in
          let e : w.in-Some.v * 10 + (b - 48) ≡ c.match-self.number = omega (arith, p, q) in
          let z = rw w.in-Some.is at w.in-Some.v-test.1 in
          number_more s f g (Some w.in-Some.v) w.in-Some.is b _ (digit_more w.in-Some.v b (omega (arith, z)) c.requires.0 c.requires.1 ∙ ap decimal e)
    ]
