-- Each count is raised by its own number, which is that of the steps of its kind.
-- Assumes nothing.
use mathlib.Core.Path.{ap, ◌∙◌}
use Rattle.panel.specs.declared.tally.Tally.{Tally}
use Rattle.panel.specs.Tally.{raised}
use Rattle.panel.proofs.TallyLaws.{Fits, fits, counted_at_once}
use borrow.Author.Rules.{rules}
use Rattle.host.proofs.step.drained.Goals as goal
use Rattle.host.proofs.step.drained.Goals.{Start}

in_bits : (c : Start) → Fits c.args.t
in_bits c = fits _ (search rules) (search rules) (search rules) (search rules) (search rules) (search rules) (search rules) (search rules)

pub returns : goal.returns
returns c ts d =
    let t : Tally = c.args.t in
    let n = c.args.c in
    c.raised-4.ensures
    ∙ ap (λ (u : Tally). raised u 3 n.finish) (c.raised-3.ensures ∙ ap (λ (u : Tally). raised u 2 n.moved) (c.raised-2.ensures ∙ ap (λ (u : Tally). raised u 1 n.realise) c.raised.ensures))
    ∙ (λ i. raised (raised (raised (raised t 0 (d.counts.admits i)) 1 (d.counts.realises i)) 2 (d.counts.moves i)) 3 (d.counts.finishes i))
    ∙ counted_at_once t ts (in_bits (goal.at.returns c).Start) d.works
