-- The loop's invariant: the lines so far were served.
-- Assumes nothing.
use mathlib.Core.Path.{refl, sym, ◌∙◌}
use Prim.Native.Nat.{◌+◌, ◌<◌}
use lib.ListN.{length}
use borrow.Author.Tests.{ltb-true}
use Rattle.lines.specs.Forms.{line_at}
use Rattle.pieces.proofs.Framing.{served_none, served_next}
use borrow.Author.Rules.{rules}
use Rattle.pieces.proofs.frame.serve_lines.Goals as goal
use Rattle.pieces.proofs.frame.serve_lines.Goals.{In-loop-image}

module _ (c : In-loop-image) where
  -- the line that stands next is whole
  whole : c.loop-image.p.at + length (line_at c.args.frame.now c.loop-image.p.at) < length c.args.frame.now
  whole = ltb-true _ _ (sym c.is_whole.ensures ∙ c.loop-image-test.true)

pub loop-image-init : goal.loop-image-init
loop-image-init c = (served_none _ _ _ _ c.requires.0 c.requires.1, refl, refl)

pub loop-image-preserved : goal.loop-image-preserved
loop-image-preserved c =
    let next = whole (goal.at.loop-image-preserved c).In-loop-image in
    (served_next c.loop-image.invariant.0 next (search rules) c.serve_next-p.ensures, search rules, search rules)
