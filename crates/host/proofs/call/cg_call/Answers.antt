-- The answer as a number.
-- Assumes nothing.
use Prim.Native.Nat.{ℕ}
use mathlib.Core.Path.{◌≡◌, ◌∙◌}
use mathlib.Core.List.{List}
use mir.Syntax.{w64}
use mir.Val.{to_z, of_z}
use Rattle.host.proofs.Entering.{entered_as}
use borrow.Author.Rules.{rules}
use Rattle.host.proofs.call.cg_call.Goals as goal

pub returns : goal.returns
returns c =
    let same : to_z w64 (of_z w64 c.returned_number.result) ≡ c.returned_number.result = search rules in
    let after : List ℕ = _ in
    entered_as (λ i. record { answer = (same ∙ c.returned_number.ensures) i; image = after }) c.call_at.ensures
