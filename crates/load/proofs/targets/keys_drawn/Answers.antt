-- The loop's invariant: so many keys are drawn, and the state is the one after them.
-- Assumes nothing.
use Rattle.std.proofs.Common.{◌≡◌, ℕ, suc, ◌<◌, length, sym, ap, ◌∙◌, add-one, arith}
use Rattle.graph.specs.Packed.{packed}
use Rattle.graph.proofs.KeyLaws.{normal, linked_next}
use Rattle.load.specs.Load.{next, draw, key_of, after, keys_drawn}
use Rattle.load.proofs.Drawing.{after_next, keys_next, keys_length}
use Rattle.load.proofs.targets.keys_drawn.Goals as goal

pub linked-keys-requires : goal.linked-keys-requires
linked-keys-requires c = normal (keys_drawn c.loop.counter c.args.state) c.loop.invariant.0

pub loop-preserved : goal.loop-preserved
loop-preserved c =
    let n = c.loop.counter in
    let state = c.args.state in
    let s : c.next-s.result ≡ after (suc n) state = c.next-s.ensures ∙ ap next c.loop.invariant.1 ∙ sym (after_next n state) in
    let k = c.key.ensures ∙ ap (λ (x : ℕ). key_of (draw x)) s in
    let few : length (keys_drawn n state) < 8 = omega (arith, keys_length n state) in
    rw add-one (c.linked-keys.ensures ∙ linked_next (keys_drawn n state) c.loop.invariant.0 k few ∙ ap packed (sym (keys_next n state)), s)
