-- What the line took tells of every tally; it is said of the one that is lent.
-- Assumes nothing.
use Rattle.std.proofs.Common.{rules, ◌≡◌, List, ℕ, ℤ, sym, subst, ap, ◌∙◌, refl}
use Rattle.std.specs.Prelude.{Result, Ok}
use Rattle.graph.specs.declared.refusal.Refusal.{Refusal}
use Rattle.panel.specs.declared.tally.Tally.{Tally}
use Rattle.panel.specs.Returned.{returned_number}
use Rattle.host.specs.declared.step.LineTaken.{LineTaken}
use Rattle.host.specs.Entries.{Steps}
use Rattle.host.specs.declared.step.LineTaken.TheVariants.{One, Drain}
use Rattle.host.specs.Inner.Taking.{taken_answer, Takes}
use Rattle.host.proofs.step.cg_step.Goals as goal

-- the answer and the tally in other words
stepped : {image line after : List ℕ} {t u v : Tally} {y z : ℤ} → Steps image line t (record { answer = y; image = after; tally = u }) → z ≡ y → v ≡ u → Steps image line t (record { answer = z; image = after; tally = v })
stepped {image} {line} {after} {t} k e f = subst (λ r. r) (λ i. Steps image line t (record { answer = sym e i; image = after; tally = sym f i })) k

-- what was taken, by its case
taken : (image line after : List ℕ) {s : Result LineTaken Refusal} {f g : LineTaken} → s ≡ Ok f → f ≡ g → Takes image line s after → Takes image line (Ok g) after
taken image line after e q k = subst (λ (r : Result LineTaken Refusal). Takes image line r after) (e ∙ ap Ok q) k

-- the number of the answer
abbrev number : Result LineTaken Refusal → ℤ
number s = returned_number (taken_answer s)

pub returns-in-Ok-One : goal.returns-in-Ok-One
returns-in-Ok-One c =
    let q : c.in-Ok-One.field-0 ≡ One c.in-Ok-One.place = rw c.in-Ok-One.is at c.in-Ok-One.field-0-is in
    let k = taken c.args.image.now _ _ c.in-Ok-One.is q c.step_at-s.ensures in
    stepped (k c.args.tally.now) (search rules ∙ c.returned_number-answer.ensures ∙ ap returned_number c.step_answer.ensures ∙ ap number c.in-Ok-One.is) c.raise.ensures

pub returns-in-Ok-Drain : goal.returns-in-Ok-Drain
returns-in-Ok-Drain c =
    let q : c.in-Ok-Drain.field-0 ≡ Drain c.in-Ok-Drain.counts = rw c.in-Ok-Drain.is at c.in-Ok-Drain.field-0-is in
    let k = taken c.args.image.now _ _ c.in-Ok-Drain.is q c.step_at-s.ensures in
    stepped (k.2 c.args.tally.now) (search rules ∙ c.returned_number-answer.ensures ∙ ap returned_number c.step_answer.ensures ∙ ap number c.in-Ok-Drain.is) (c.drained.ensures k.0 k.1)

pub returns-in-Err : goal.returns-in-Err
returns-in-Err c = stepped (c.in-Err.ensures c.args.tally.now) (search rules ∙ c.returned_number-answer.ensures ∙ ap returned_number c.step_answer.ensures ∙ ap number c.in-Err.is) refl
