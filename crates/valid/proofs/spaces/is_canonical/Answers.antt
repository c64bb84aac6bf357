-- `spaces::is_canonical` meets its contract.
-- Assumes nothing.
use native.Mathlib.Omega.{arith}
use mathlib.Core.Path.{◌≡◌, sym, subst, ◌∙◌}
use Prim.Native.Nat.{ℕ, ◌+◌, ◌*◌, ◌-◌}
use mathlib.Core.Bool.{true}
use borrow.Author.Rules.{rules}
use lib.ListN.{get_or, take, drop}
use Rattle.records.specs.Records.{image_version}
use Rattle.records.specs.Inner.Numbers.{all_zero}
use Rattle.image.specs.Inner.Regions.{Zeros}
use Rattle.valid.proofs.Unused.{part_zeros, zeros_part, refuses}
use Rattle.valid.proofs.spaces.is_canonical.Goals as goal

pub returns-then-all_zero-3 : goal.returns-then-all_zero-3
returns-then-all_zero-3 c =
    let s = c.args.image.now in
    let n : ℕ = 16 + 16 * c.node_count.result in
    let o : ℕ = 1040 + 32 * c.op_count.result in
    let version : get_or s 0 0 ≡ image_version = search rules in
    let head : all_zero (take (16 - 6) (drop 6 s)) ≡ true = search rules in
    let nodes : all_zero (take (1040 - n) (drop n s)) ≡ true = search rules in
    let ops : all_zero (take (3088 - o) (drop o s)) ≡ true = search rules in
    let results = c.all_zero-then-all_zero-3.ensures in
    record {
      implies = λ e.
          record {
            version = version;
            head = part_zeros s 6 16 (omega arith) head;
            nodes = subst (λ (k : ℕ). Zeros s (16 + 16 * k) 1040) c.node_count.ensures (part_zeros s n 1040 (omega (arith, c.node_count.ensures, c.requires.nodes)) nodes);
            ops = subst (λ (k : ℕ). Zeros s (1040 + 32 * k) 3088) c.op_count.ensures (part_zeros s o 3088 (omega (arith, c.op_count.ensures, c.requires.ops)) ops);
            results = subst (λ (k : ℕ). Zeros s (3088 + 16 * k) 4112) c.result_count.ensures (part_zeros s _ _ (omega (arith, c.result_count.ensures, c.requires.results)) (sym results ∙ e));
          };
      implied = λ p. results ∙ zeros_part s _ _ (omega (arith, c.result_count.ensures, c.requires.results)) (subst (λ (k : ℕ). Zeros s (3088 + 16 * k) 4112) (sym c.result_count.ensures) p.results);
    }

pub returns-else-all_zero-3 : goal.returns-else-all_zero-3
returns-else-all_zero-3 c =
    let s = c.args.image.now in
    let n : ℕ = 16 + 16 * c.node_count.result in
    let o : ℕ = 1040 + 32 * c.op_count.result in
    let one_fails : get_or s 0 0 ≡ image_version → all_zero (take (16 - 6) (drop 6 s)) ≡ true → all_zero (take (1040 - n) (drop n s)) ≡ true → all_zero (take (3088 - o) (drop o s)) ≡ true → ⊥ = λ version head nodes ops. search rules in
    rw c.if-all_zero-3.false
    (refuses (λ p. one_fails p.version
    (zeros_part s 6 16 (omega arith) p.head)
    (zeros_part s n 1040 (omega (arith, c.node_count.ensures, c.requires.nodes)) (subst (λ (k : ℕ). Zeros s (16 + 16 * k) 1040) (sym c.node_count.ensures) p.nodes))
    (zeros_part s o 3088 (omega (arith, c.op_count.ensures, c.requires.ops)) (subst (λ (k : ℕ). Zeros s (1040 + 32 * k) 3088) (sym c.op_count.ensures) p.ops))))
