-- The part that is left fills the buffer, or its bytes are moved to the start.
-- Assumes nothing.
use mathlib.Core.Path.{◌≡◌, refl, ◌∙◌}
use native.Mathlib.Omega.{arith}
use Prim.Native.Nat.{◌-◌}
use Rattle.std.proofs.lemmas.Grind.{common_steps}
use lib.ListN.{take, drop}
use Rattle.pieces.proofs.Feeding.{rest_moved}
use Rattle.pieces.proofs.feed.keep_rest.Goals as goal

pub returns : goal.returns
returns c =
    let a = c.args in
    let rest = rest_moved a.buffer.now a.p.at a.filled c.requires.1 (omega (arith, c.requires.2, c.requires.0)) in
    let moved : take (a.filled - a.p.at) c.copy_within.new.self ≡ take (a.filled - a.p.at) (drop a.p.at a.buffer.now) = grind (arith, common_steps, c.copy_within.ensures.after) in
    ((omega (arith, c.if-filled-at-eq64.false, c.requires.2), moved ∙ rest), refl, refl)
