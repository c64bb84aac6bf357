-- The verb is one of the three, or the arguments are no command.
-- Assumes nothing.
use Rattle.std.proofs.Common.{List, ℕ, ◌∙◌, sym, subst}
use Rattle.std.specs.Cmp.Lexicographic.{same_text, other_text}
use Rattle.text.specs.Text.{ascii}
use Rattle.cgtool.specs.Inner.Outputs.{AskedFor}
use Rattle.cgtool.proofs.Asking.{more_arguments, other_verb}
use Rattle.cgtool.proofs.commands.asked_for.Goals as goal

pub returns-then-eq : goal.returns-then-eq
unfolding ascii
returns-then-eq c =
    subst (λ (verb : List ℕ). AskedFor (record { given = c.args.given; verb = verb; first = c.args.first.now; second = c.args.second.now }) c.load_asked.result)
    (sym (same_text _ _ c.if-eq.ensures ∙ c.as_slice.ensures))
    c.load_asked.ensures

pub returns-then-given-ne2 : goal.returns-then-given-ne2
unfolding ascii
returns-then-given-ne2 c = more_arguments _ (λ e. other_text _ _ c.if-eq.ensures (e ∙ sym c.as_slice.ensures)) c.if-given-ne2.true

pub returns-then-eq-2 : goal.returns-then-eq-2
unfolding ascii
returns-then-eq-2 c = (c.if-given-ne2.false, same_text _ _ c.if-eq-2.ensures ∙ c.as_slice-2.ensures)

pub returns-then-eq-3 : goal.returns-then-eq-3
unfolding ascii
returns-then-eq-3 c = (c.if-given-ne2.false, same_text _ _ c.if-eq-3.ensures ∙ c.as_slice-else-eq-2.ensures)

pub returns-else-eq-3 : goal.returns-else-eq-3
unfolding ascii
returns-else-eq-3 c =
    other_verb _ (λ e. other_text _ _ c.if-eq.ensures (e ∙ sym c.as_slice.ensures))
    (λ e. other_text _ _ c.if-eq-2.ensures (e ∙ sym c.as_slice-2.ensures))
    (λ e. other_text _ _ c.if-eq-3.ensures (e ∙ sym c.as_slice-else-eq-2.ensures))
