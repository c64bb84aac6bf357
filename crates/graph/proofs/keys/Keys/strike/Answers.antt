-- The loop's invariant: what is kept is the struct of the keys passed, without the key.
-- Assumes nothing.
use mathlib.Core.Path.{◌≡◌, sym, ap, ◌∙◌}
use Prim.Native.Nat.{◌≤◌}
use lib.ListN.{length, take, get_or}
use Rattle.graph.specs.KeyLists.{strike}
use Rattle.graph.specs.Packed.{packed}
use Rattle.graph.proofs.KeyLaws.{strike_hit, strike_miss, strike_few, length_listed, normal, linked_next}
use native.Mathlib.Omega.{arith}
use borrow.Author.Rules.{rules}
use Rattle.graph.proofs.keys.Keys.strike.Goals as goal
use Rattle.graph.proofs.keys.Keys.strike.Goals.{then-key-k, else-key-k, Start}

eight : (s : Start) → length s.args.self.key ≡ 8
eight s = search rules

pub linked-kept-requires : goal.linked-kept-requires
linked-kept-requires c = normal (strike c.args.k (take c.loop-key.key-index c.as_slice-key-items.result.now)) c.loop-key.invariant

pub loop-key-preserved : goal.loop-key-preserved
loop-key-preserved c =
    let a = c.args in
    let keys = c.as_slice-key-items.result.now in
    let i = c.loop-key.key-index in
    let old = strike a.k (take i keys) in
    let most : length keys ≤ 8 = rw c.as_slice-key-items.ensures (length_listed a.self (eight (goal.at.loop-key-preserved c).Start)) in
    elim c.if-key-k.branch [
      | then-key-k w ↦
          w.kept-is
          ∙ w.linked-kept.ensures
          ∙ linked_next old c.loop-key.invariant (λ i. get_or keys c.loop-key.key-index 0) (omega (arith, strike_few keys i c.loop-key-test.true a.k))
          ∙ ap packed (strike_miss keys i c.loop-key-test.true a.k (λ e. w.if-key-k.true (sym e)))
      | else-key-k w ↦ w.kept-is ∙ c.loop-key.invariant ∙ ap packed (strike_hit keys i c.loop-key-test.true a.k (sym w.if-key-k.false))
    ]
