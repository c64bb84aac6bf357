-- `fields::keys_ok` meets its contract.
-- Assumes nothing.
use mathlib.Core.Path.{◌≡◌, refl}
use Prim.Native.Nat.{ℕ, ◌+◌, ◌<◌, ◌≤◌}
use mathlib.Core.Bool.{Bool, true, false}
use lib.Bits.{bit_and}
use lib.ListN.{get_or}
use borrow.Author.Tests.{le-leb}
use borrow.Author.Rules.{rules}
use Rattle.records.specs.Bytes.{bytes8}
use Rattle.valid.specs.Inner.Tests.{keys_ok, key_places}
use Rattle.valid.proofs.Digits.{sum_fits, below_fits, ok_few, ok_low, ok_64, ok_marks}
use native.Mathlib.Omega.{arith}
use Rattle.valid.proofs.fields.keys_ok.Goals as goal

abbrev TOPS : ℕ
TOPS = 9259542123273814144

not_ok : (b : Bool) → (b ≡ true → ⊥) → false ≡ b
not_ok true f = absurd (f refl)
not_ok false f = refl

pub overflow_add-keys : goal.overflow_add-keys
overflow_add-keys c =
    let low : bit_and c.u64_at-keys.result TOPS ≡ 0 = search rules in
    record { fits = omega (arith, c.u64_at-keys.ensures, sum_fits c.args.s.now (c.args.at + 1) (λ i. (c.type_inv.s i).fits) (rw c.u64_at-keys.ensures at low)) }

pub overflow_add-result : goal.overflow_add-result
overflow_add-result c =
    let low : bit_and c.u64_at-keys.result TOPS ≡ 0 = search rules in
    record { fits = omega (arith, c.u64_at-keys.ensures, sum_fits c.args.s.now (c.args.at + 1) (λ i. (c.type_inv.s i).fits) (rw c.u64_at-keys.ensures at low)) }

pub overflow_sub-result : goal.overflow_sub-result
overflow_sub-result c =
    let low : bit_and c.u64_at-keys.result TOPS ≡ 0 = search rules in
    rw (c.floors.ensures, c.u64_at-keys.ensures) (below_fits c.args.s.now (c.args.at + 1) (λ i. (c.type_inv.s i).fits) c.args.rise (rw c.u64_at-keys.ensures at low))

pub returns-then-keys-eq0-2 : goal.returns-then-keys-eq0-2
unfolding keys_ok
returns-then-keys-eq0-2 c =
    let a = c.args in
    let few : c.u64_at-keys.result ≤ c.most_in-most.result = search rules in
    let low : bit_and c.u64_at-keys.result TOPS ≡ 0 = search rules in
    let up : bit_and (c.u64_at-keys.result + 4557430888798830399) TOPS ≡ 0 = search rules in
    rw (c.floors.ensures, c.u64_at-keys.ensures, le-leb (get_or a.s.now a.at 0) 8 c.if-n-gt8.false)
    (ok_marks a.s.now (a.at + 1) (λ i. (c.type_inv.s i).fits) a.rise (get_or a.s.now a.at 0) c.if-n-gt8.false c.most_in-most.result c.most_in-most.ensures (rw c.u64_at-keys.ensures at low) (rw c.u64_at-keys.ensures at up) (rw c.u64_at-keys.ensures at few))

pub returns-else-keys-eq0-2 : goal.returns-else-keys-eq0-2
unfolding keys_ok
returns-else-keys-eq0-2 c =
    let a = c.args in
    let n : ℕ = get_or a.s.now a.at 0 in
    let bytes : (i : ℕ) → get_or a.s.now i 0 < 256 = λ i. (c.type_inv.s i).fits in
    let one_fails : c.u64_at-keys.result ≤ c.most_in-most.result → bit_and c.u64_at-keys.result TOPS ≡ 0 → bit_and (c.u64_at-keys.result + 4557430888798830399) TOPS ≡ 0 → ⊥ = λ few low up. search rules in
    rw (c.if-keys-eq0-2.false, le-leb n 8 c.if-n-gt8.false)
    (not_ok (key_places a.rise n 0 (bytes8 a.s.now (a.at + 1)))
    (λ t. one_fails
    (omega (arith, c.most_in-most.ensures, c.u64_at-keys.ensures, ok_few a.s.now (a.at + 1) bytes a.rise n t))
    (rw c.u64_at-keys.ensures (ok_low a.s.now (a.at + 1) bytes a.rise n t))
    (rw c.u64_at-keys.ensures (ok_64 a.s.now (a.at + 1) bytes a.rise n t))))
