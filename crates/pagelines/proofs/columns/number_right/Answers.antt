-- Past the blanks the field is a number's text, or no number stands there.
-- Assumes nothing.
use Rattle.std.proofs.Common.{◌≡◌, sym, ◌∙◌, arith, rules}
use Rattle.text.specs.Text.{decimal}
use Rattle.pagelines.specs.Inner.Columns.{past_blanks}
use Rattle.pagelines.proofs.FieldsRead.{field, number_missing, number_outside, number_stands}
use Rattle.pagelines.proofs.columns.number_right.Goals as goal
use Rattle.pagelines.proofs.columns.number_right.Goals.{In_ok-v}

-- what was read
number : (c : In_ok-v) → past_blanks (field c.args.s.now c.args.at c.args.columns c.requires) ≡ decimal c.in_ok-v.v
number c = sym c.past_blanks.ensures ∙ c.in_ok-v.ensures

pub returns-in_err-v : goal.returns-in_err-v
returns-in_err-v c =
    rw c.from_residual.ensures (number_missing _ _ _ c.requires c.args.least c.args.most (search rules) (rw c.past_blanks.ensures at c.in_err-v.ensures))

pub returns-then-v-least : goal.returns-then-v-least
returns-then-v-least c =
    number_outside _ _ _ c.requires c.args.least c.args.most _ (number (goal.at.returns-then-v-least c).In_ok-v) (λ lo hi. omega arith)

pub returns : goal.returns
returns c = number_stands _ _ _ c.requires c.args.least c.args.most _ (number (goal.at.returns c).In_ok-v) (omega arith) (omega arith)
