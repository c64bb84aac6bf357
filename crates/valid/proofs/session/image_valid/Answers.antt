-- `session::image_valid` meets its contract.
-- Assumes nothing.
use mathlib.Core.Path.{◌≡◌, sym, ◌∙◌}
use Prim.Native.Nat.{ℕ, ◌+◌}
use mathlib.Core.Bool.{true, ◌&&◌}
use borrow.Author.Rules.{rules}
use borrow.Author.Tests.{le-leb, leb-true}
use lib.Dec.{leb}
use lib.ListN.{length}
use mathlib.Core.List.{List}
use Rattle.image.specs.Inner.Regions.{Sound, Canonical, view}
use Rattle.valid.specs.Inner.Tests.{nodes_ok, ops_ok, results_ok, adds_among}
use Rattle.valid.proofs.Exactness.{Passes, exactly, refused}
use Rattle.graph.proofs.Answers.{and_left, and_right}
use Rattle.valid.proofs.session.image_valid.Goals as goal

-- the answer for the queue, where the image passes
queued : (s : List ℕ) → Passes s → (ops_ok (length (view s).nodes) (view s).ops && leb (length (view s).nodes + adds_among (view s).ops) 64) ≡ true
queued s p = rw p.shown.ops (le-leb (length (view s).nodes + adds_among (view s).ops) 64 p.shown.room)

pub returns-then-results_ok : goal.returns-then-results_ok
returns-then-results_ok c =
    let s = c.args.image.now in
    let sound : Sound s = search rules in
    let canonical : Canonical s = search rules in
    let nodes : nodes_ok (view s).nodes ≡ true = search rules in
    let queue : (ops_ok (length (view s).nodes) (view s).ops && leb (length (view s).nodes + adds_among (view s).ops) 64) ≡ true = search rules in
    let results : results_ok (view s).results ≡ true = search rules in
    let ordered = ops_ok (length (view s).nodes) (view s).ops in
    exactly s c.labels_live.result (λ i. (c.type_inv.image i).fits)
    (λ e.
    record {
      sound = sound;
      canonical = canonical;
      shown = record { nodes = nodes; ops = and_left ordered _ queue; results = results; room = leb-true _ 64 (and_right ordered _ queue); live = sym c.labels_live.ensures ∙ e };
    })
    (λ p. c.labels_live.ensures ∙ p.shown.live)

pub returns-else-results_ok : goal.returns-else-results_ok
returns-else-results_ok c =
    let s = c.args.image.now in
    let one_fails : Sound s → Canonical s → nodes_ok (view s).nodes ≡ true → (ops_ok (length (view s).nodes) (view s).ops && leb (length (view s).nodes + adds_among (view s).ops) 64) ≡ true → results_ok (view s).results ≡ true → ⊥ = λ sound canonical nodes queue results. search rules in
    rw c.if-results_ok.false (refused s (λ p. one_fails p.sound p.canonical p.shown.nodes (queued s p) p.shown.results))
