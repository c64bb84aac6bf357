-- The function of a step's kind serves the step that the enum's value names.
-- Assumes nothing.
use mathlib.Core.Path.{◌≡◌, sym, subst}
use Prim.Native.Nat.{ℕ}
use mathlib.Core.List.{List}
use Rattle.graph.specs.Steps.{step}
use Rattle.lines.specs.declared.step.WorkStep.{WorkStep}
use Rattle.lines.specs.Inner.Answers.{step_named}
use Rattle.flat.specs.Inner.FlatSteps.{flat_step}
use Rattle.records.proofs.Codecs.{Bytes}
use Rattle.valid.specs.Inner.Decoded.{session_of}
use Rattle.state.specs.Inner.State.{flat_in}
use Rattle.state.specs.Inner.ValidImage.{ValidImage, Works, Serves}
use Rattle.state.proofs.Serving.{Served, step_served_law}

pub takes : (w v : WorkStep) → w ≡ v → (before after : List ℕ) (r : ℕ) → ValidImage before → Bytes after → Works (flat_step (step_named v) (flat_in before)) before after r → (Serves (step (step_named w) (session_of before)) before after r) × (ValidImage after)
takes w v e before after r l b h =
    let s : Served (step (step_named v) (session_of before)) before after r = step_served_law (step_named v) before after r l b h in
    (subst (λ (u : WorkStep). Serves (step (step_named u) (session_of before)) before after r) (sym e) s.serves, s.image_valid_law)
