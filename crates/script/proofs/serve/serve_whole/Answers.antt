-- What is served raises the place, and the number no faster.
-- Assumes nothing.
use Rattle.std.proofs.Common.{rules, ◌≡◌, arith, subst, refl}
use Rattle.script.specs.Inner.Running.{LinesRun}
use Rattle.script.proofs.Running.{no_lines, then, rises, lines_run}
use Rattle.script.proofs.serve.serve_whole.Goals as goal

pub loop-rest-init : goal.loop-rest-init
loop-rest-init g c = (search rules, search rules, search rules, refl, refl, no_lines)

pub returns-then-p-rest : goal.returns-then-p-rest
returns-then-p-rest g c =
    let w = c.serve_lines-p.ensures.0 in
    let i = c.loop-rest.invariant in
    let r = lines_run w in
    let same : c.serve_lines-p.result.line ≡ c.loop-rest.rest.line = omega (arith, w.fewer, rises r, c.if-p-rest.true) in
    (record { within = i.1; few = omega (arith, i.1, i.2) }, then i.5 (subst (LinesRun _ _ _) same r))

pub loop-rest-preserved : goal.loop-rest-preserved
loop-rest-preserved g c =
    let w = c.serve_lines-p.ensures.0 in
    let i = c.loop-rest.invariant in
    (omega (arith, w.on, i.0), w.inside, omega (arith, w.fewer, i.2), search rules, search rules, then i.5 (lines_run w))
