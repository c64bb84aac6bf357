-- The answer as a number.
-- Assumes nothing.
use Prim.Native.Nat.{ℕ}
use mathlib.Core.Path.{◌≡◌, sym, subst, ◌∙◌}
use mathlib.Core.List.{List}
use mir.Syntax.{w64}
use mir.Val.{to_z, of_z}
use Rattle.page.specs.Entries.{written, ReadsPage}
use Rattle.page.proofs.ByNumber.{reads_by_number}
use borrow.Author.Rules.{rules}
use Rattle.page.proofs.read.cg_page_nodes.Goals as goal

pub returns : goal.returns
returns c =
    let same : to_z w64 (of_z w64 c.returned_number.result) ≡ c.returned_number.result = search rules in
    let output : List ℕ = _ in
    let a = c.args in
    subst (ReadsPage written a.page.now a.out.now) (sym (λ i. record { answer = (same ∙ c.returned_number.ensures) i; output = output })) (reads_by_number c.page_nodes.ensures)
