-- `spaces::is_sound` meets its contract.
-- Assumes nothing.
use mathlib.Core.Path.{◌≡◌}
use Prim.Native.Nat.{◌≤◌}
use native.Mathlib.Omega.{arith}
use borrow.Author.Rules.{rules}
use borrow.Author.Tests.{le-leb, leb-true}
use lib.ListN.{length, get_or}
use Rattle.image.specs.Inner.Regions.{node_region, op_region, result_region}
use Rattle.image.proofs.Regions.{count_of}
use Rattle.valid.proofs.Unused.{sound_of, refuses}
use Rattle.valid.proofs.spaces.is_sound.Goals as goal

pub returns-then-image-le64-2 : goal.returns-then-image-le64-2
returns-then-image-le64-2 c =
    let s = c.args.image.now in
    let size : length s ≡ 4112 = search rules in
    let nodes : get_or s 1 0 ≤ 64 = search rules in
    let ops : get_or s 2 0 ≤ 64 = search rules in
    record {
      implies = λ e. sound_of s size nodes ops (leb-true _ _ e);
      implied = λ p. le-leb (get_or s 3 0) 64 (omega (arith, p.results, count_of result_region s));
    }

pub returns-else-image-le64-2 : goal.returns-else-image-le64-2
returns-else-image-le64-2 c =
    let s = c.args.image.now in
    let one_fails : length s ≡ 4112 → get_or s 1 0 ≤ 64 → get_or s 2 0 ≤ 64 → ⊥ = λ size nodes ops. search rules in
    rw c.if-image-le64-2.false (refuses (λ p. one_fails p.size (omega (arith, p.nodes, count_of node_region s)) (omega (arith, p.ops, count_of op_region s))))
