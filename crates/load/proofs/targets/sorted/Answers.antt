-- The loop's invariant: of the keys below this one, those that were drawn are kept.
-- Assumes nothing.
use Rattle.std.proofs.Common.{◌≡◌, ℕ, ◌<◌, ◌-◌, length, true, refl, sym, ap, ◌∙◌, arith, rules}
use Rattle.graph.specs.KeyLists.{contains}
use Rattle.graph.specs.Packed.{listed, packed}
use Rattle.graph.proofs.KeyLaws.{normal, linked_next, length_listed}
use Rattle.load.specs.Load.{kept_from, sorted}
use Rattle.load.proofs.Sorting.{kept_room, kept_hit, kept_miss}
use Rattle.load.proofs.targets.sorted.Goals as goal
use Rattle.load.proofs.targets.sorted.Goals.{then-contains, else-contains}

pub loop-k-init : goal.loop-k-init
unfolding kept_from
loop-k-init c = c.none-keys.ensures

pub linked-keys-requires : goal.linked-keys-requires
linked-keys-requires c = normal (kept_from (c.loop-k.k - 1) 1 (listed c.args.drawn)) c.loop-k.invariant

pub loop-k-preserved : goal.loop-k-preserved
loop-k-preserved c =
    let drawn = listed c.args.drawn in
    let k = c.loop-k.k in
    let old = kept_from (k - 1) 1 drawn in
    elim c.if-contains.branch [
      | then-contains w ↦
          let hit : contains k drawn ≡ true = sym c.contains.ensures ∙ w.if-contains.true in
          let few : length old < 8 = omega (arith, kept_room k drawn (omega arith) hit, length_listed c.args.drawn (search rules)) in
          w.keys-is ∙ w.linked-keys.ensures ∙ linked_next old c.loop-k.invariant refl few ∙ ap packed (kept_hit k drawn (omega arith) hit)
      | else-contains w ↦ w.keys-is ∙ c.loop-k.invariant ∙ ap packed (kept_miss k drawn (omega arith) (sym c.contains.ensures ∙ w.if-contains.false))
    ]

pub returns : goal.returns
unfolding sorted
returns c =
    let k : c.loop-k.k - 1 ≡ 64 = omega arith in
    c.loop-k.invariant ∙ ap (λ (n : ℕ). packed (kept_from n 1 (listed c.args.drawn))) k
