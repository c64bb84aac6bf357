-- `pool::gather_results` meets its contract.
-- Assumes nothing.
use mathlib.Core.Path.{◌≡◌, refl, sym, ap, ◌∙◌}
use Prim.Native.Nat.{ℕ, ◌+◌, ◌≤◌, ◌<◌}
use lib.ListN.{length, take, length-set}
use mathlib.Core.List.{List, [], ◌∷◌, ◌++◌, append-nil}
use lib.Seq.{take_all}
use Rattle.records.specs.declared.result.ResultRecord.{ResultRecord}
use Rattle.image.specs.Inner.Regions.{view, blank, result_region}
use Rattle.valid.specs.Inner.Tests.{result_labels}
use Rattle.valid.proofs.Turns.{push, results_next, length_results}
use native.Mathlib.Omega.{arith}
use Rattle.valid.proofs.pool.gather_results.Goals as goal

pub loop-i-init : goal.loop-i-init
unfolding result_labels
loop-i-init c =
    let a = c.args in
    let e : a.at + 0 ≡ a.at = omega arith in
    (refl, ap (λ (n : ℕ). take n a.pool.now) e ∙ sym (append-nil _))

pub loop-i-preserved : goal.loop-i-preserved
loop-i-preserved c =
    let l = c.loop-i in
    let a = c.args in
    let rs = (view a.image.now).results in
    let few : length rs ≤ 64 = c.requires.0.results in
    let h : l.i < length rs = omega arith in
    let q : a.at + l.i < length l.pool = omega (arith, l.invariant.0, c.requires.1) in (
      simp length-set l.invariant.0,
      push l.pool a.pool.now (result_labels (take l.i rs)) a.at l.i c.label_at.result q l.invariant.1
          ∙ ap (λ (x : List ℕ). take a.at a.pool.now ++ x)
          (ap (λ (n : ℕ). result_labels (take l.i rs) ++ (n ∷ [])) c.label_at.ensures ∙ sym (results_next rs (blank result_region) l.i h)),
    )

pub returns : goal.returns
returns c =
    let l = c.loop-i in
    let a = c.args in
    let m = c.result_count-m in
    let rs = (view a.image.now).results in
    let i : l.i ≡ m.result = omega arith in
    let few : length rs ≤ 64 = c.requires.0.results in (
      record {
        size = l.invariant.0;
        count = ap (λ (n : ℕ). a.at + n) (m.ensures ∙ sym (length_results rs));
        front =
            ap (λ (n : ℕ). take (a.at + n) l.pool) (sym i) ∙ l.invariant.1
            ∙ ap (λ (x : List ResultRecord). take a.at a.pool.now ++ result_labels x) (take_all l.i rs (omega (arith, m.ensures)));
      },
      omega (arith, m.ensures),
    )
