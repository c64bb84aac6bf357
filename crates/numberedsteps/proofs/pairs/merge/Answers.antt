-- The fields of the fused operation, one by one.
-- Assumes nothing.
use Rattle.std.proofs.Common.{◌≡◌, ◌++◌, refl, sym, ap, ◌∙◌}
use Rattle.graph.specs.declared.act.Act.TheVariants.{Map}
use Rattle.graph.specs.Acts.{affine_of}
use Rattle.graph.specs.Affine.{composed}
use Rattle.graph.specs.OneAtATime.{op_of}
use Rattle.graph.specs.Packed.{targets_in}
use Rattle.valid.specs.Inner.Decoded.{labels_of}
use Rattle.valid.specs.Values.{packed_labels}
use Rattle.numberedsteps.proofs.LabelLaws.{listed_labels}
use Rattle.numberedsteps.proofs.pairs.merge.Goals as goal

pub returns : goal.returns
returns c =
    let a = c.args.a in
    let b = c.args.b in
    let l = c.appended in
    let map : composed (affine_of a.act) (affine_of b.act) ≡ c.compose-map.result = (λ i. composed (sym c.affine_of.ensures i) (sym c.affine_of-2.ensures i)) ∙ sym c.compose-map.ensures in
    let labels : labels_of a.labels ++ labels_of b.labels ≡ labels_of l.result = sym (ap labels_of l.ensures ∙ listed_labels (labels_of a.labels ++ labels_of b.labels)) in
    record {
      is = λ i. op_of (record { act = Map (map i); held = 0; targets = targets_in a.targets; labels = labels i });
      normal = record { targets = c.requires.0.targets; names = l.ensures ∙ ap packed_labels labels; map_held = λ e. refl };
    }
