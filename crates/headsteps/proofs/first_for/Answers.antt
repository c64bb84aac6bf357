-- The loop's invariant: from h up to i stands none that the step looks for.
-- Assumes nothing.
use mathlib.Core.Path.{◌≡◌, refl, sym, ap, ◌∙◌}
use lib.ListN.{get_or}
use Rattle.graph.specs.Tasks.{includes}
use Rattle.flat.specs.Inner.FlatSteps.{no_op, sought_at}
use Rattle.state.specs.Inner.State.{flat_in}
use Rattle.headsteps.proofs.Parts.{found, passed, ended}
use native.Mathlib.Omega.{arith}
use Rattle.headsteps.proofs.first_for.Goals as goal
use Rattle.headsteps.proofs.first_for.Goals.{After-includes}

pub loop-i-init : goal.loop-i-init
loop-i-init c = (c.requires.1, omega arith, refl)

pub rule_at-rule-requires : goal.rule_at-rule-requires
rule_at-rule-requires c =
    let s = c.requires in
    (s.0, omega (arith, s.2), s.3 c.loop-i.i c.loop-i.invariant.1 (omega arith))

-- whether the operation at i is what the step looks for is what `includes` said
told : (r : After-includes)
    → sought_at r.args.sought r.args.k (get_or (flat_in r.args.image.now).queue r.loop-i.i no_op) ≡ r.includes.result
told r = sym (r.includes.ensures ∙ ap (includes r.args.sought) r.rule_at-rule.ensures)

pub returns-then-includes : goal.returns-then-includes
returns-then-includes c =
    found (sought_at c.args.sought c.args.k) (flat_in c.args.image.now).queue c.args.h c.args.e c.requires.2 c.loop-i.i c.loop-i.invariant.2 (omega arith) (told (goal.at.returns-then-includes c).After-includes ∙ c.if-includes.true)

pub loop-i-preserved : goal.loop-i-preserved
loop-i-preserved c =
    (omega arith, omega (arith, c.loop-i.invariant.1), passed (sought_at c.args.sought c.args.k) (flat_in c.args.image.now).queue c.args.h c.args.e c.requires.2 c.loop-i.i c.loop-i.invariant.2 (omega arith) (told (goal.at.loop-i-preserved c).After-includes ∙ c.if-includes.false))

pub returns : goal.returns
returns c =
    ended (sought_at c.args.sought c.args.k) (flat_in c.args.image.now).queue c.args.h c.args.e c.requires.2 c.loop-i.i c.loop-i.invariant.2 (omega arith)
