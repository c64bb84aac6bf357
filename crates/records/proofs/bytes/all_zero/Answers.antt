-- The two halves cover the bytes.
-- Assumes nothing.
use mathlib.Core.Path.{◌≡◌, ap, ◌∙◌}
use mathlib.Core.Bool.{◌&&◌}
use mathlib.Core.List.{List}
use Prim.Native.Nat.{ℕ, ◌/◌, ◌-◌}
use native.Mathlib.Omega.{arith}
use lib.Dec.{eqb}
use lib.Seq.{take_all}
use lib.ListN.{length, take, drop, length-drop, length-take}
use Rattle.std.specs.List.{fold, zip}
use Rattle.std.specs.Prelude.{max}
use Rattle.std.proofs.Common.{rules, tests}
use Rattle.std.proofs.lemmas.Iterator.{YieldsList-from_slice, YieldsList-from_zip}
use Rattle.std.proofs.lemmas.Iterator.Consumers.{YieldsList-at, fold_from_yields_List}
use Rattle.records.specs.Inner.Numbers.{all_zero}
use Rattle.records.proofs.Zeros.{zero_pairs, zero_parts}
use Rattle.records.proofs.bytes.all_zero.Goals as goal

pub returns : goal.returns
returns c =
    let s = c.args.s.now in
    let half : ℕ = length s / 2 in
    let size : ℕ = length s - half in
    let rest : take (length s - half) (drop half s) ≡ drop half s = take_all _ _ (omega (arith, length-drop half s)) in
    let e : c.fold.result ≡ fold (λ (p q : ℕ × ℕ). (max p.0 q.0, max p.1 q.1)) (0, 0) (zip (take size s) (drop half s)) = fold_from_yields_List _ (λ (p q : ℕ × ℕ). (max p.0 q.0, max p.1 q.1)) (0, 0) _ c.fold.ensures.ran (YieldsList-from_zip (YieldsList-from_slice (take size s) (search rules)) (YieldsList-at c.zip.ensures.second (YieldsList-from_slice (drop half s) (c.iter-2.ensures.rest ∙ rest)))) (λ a x b q k. search (rules, tests)) in
    let same : length (take size s) ≡ length (drop half s) = omega (arith, length-take size s, length-drop half s) in
    c.eq.ensures
    ∙ (λ i. eqb (e i).0 0 && eqb (e i).1 0)
    ∙ zero_pairs (take size s) (drop half s) 0 0 same
    ∙ zero_parts s size half (omega arith)
