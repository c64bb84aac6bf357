-- `op::op_bytes` meets its contract.
-- Assumes nothing.
use mathlib.Core.Path.{refl, ◌∙◌}
use Rattle.records.specs.Records.{encode_op}
use Rattle.records.proofs.Codecs.{FitOp, op_encodes, written32}
use mir.Syntax.{w16}
use borrow.Author.Rules.{rules, elem_Fits}
use Rattle.records.proofs.op.op_bytes.Goals as goal
use Rattle.records.proofs.op.op_bytes.Goals.{Start}

fit : (c : Start) → FitOp c.args.o
fit c =
    let p = c.well_formed.0.1.1 in
    let l = p.1.1.1.1.1.1.1.0.1.1.1.0 in
    record {
      a = search rules;
      b = search rules;
      targets = record { places = search rules };
      labels = record { places = search rules; small = λ i h. (elem_Fits w16 w16 c.args.o.labels.label l.0 i l.1.1 tt).fits };
    }

pub returns : goal.returns
unfolding encode_op
returns c =
    let o = c.args.o in
    op_encodes o (fit (goal.at.returns c).Start) _
    (rw (c.copy_from_slice.ensures.after ∙ c.to_le_bytes.ensures ∙ written32 o.a, c.copy_from_slice-2.ensures.after ∙ c.to_le_bytes-2.ensures ∙ written32 o.b, c.copy_from_slice-3.ensures.after ∙ c.keys_bytes.ensures, c.copy_from_slice-4.ensures.after ∙ c.labels_bytes.ensures) refl)
