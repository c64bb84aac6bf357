-- The second's labels are put after the first's.
-- Assumes nothing.
use Rattle.std.proofs.Common.{◌≤◌, ◌+◌, take, ap, ◌∙◌, arith, rules}
use lib.ListN.{length-append}
use Rattle.valid.specs.Inner.Decoded.{labels_of}
use Rattle.state.proofs.ResultLaws.{labels_count}
use Rattle.numberedsteps.proofs.LabelLaws.{labels_put}
use Rattle.numberedsteps.proofs.pairs.appended.Goals as goal

pub slice_bounds-label-end : goal.slice_bounds-label-end
slice_bounds-label-end c =
    let few : c.from-n.result + c.from-m.result ≤ 4 = omega (arith, c.from-n.ensures, c.from-m.ensures, labels_count c.args.a c.requires.0, labels_count c.args.b c.requires.1, length-append (labels_of c.args.a) (labels_of c.args.b), c.requires.2) in
    search rules

pub returns : goal.returns
returns c =
    labels_put c.args.a c.args.b c.requires.0 c.requires.1 c.requires.2 _ _ _ c.from-n.ensures c.from-m.ensures (c.copy_from_slice.ensures.after ∙ ap (λ n. take n c.args.b.label) c.from-m.ensures)
