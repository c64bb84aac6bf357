-- The loop's invariant: the lines so far were served.
-- Assumes nothing.
use mathlib.Core.Path.{refl}
use Rattle.program.proofs.Framing.{served_none, served_next}
use borrow.Author.Rules.{rules}
use Rattle.program.proofs.frame.serve_lines.Goals as goal

pub loop-image-init : goal.loop-image-init
loop-image-init c = (served_none _ _ _ _ _ c.requires.0, refl, refl)

pub loop-image-preserved : goal.loop-image-preserved
loop-image-preserved c =
    let l = c.loop-image in
    (served_next l.invariant.0 (rw c.loop-image-test.true at c.has_next.ensures) c.serve_next-p.ensures, search rules, search rules)
