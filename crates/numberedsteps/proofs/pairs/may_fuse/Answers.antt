-- The labels of both are counted, where all else holds.
-- Assumes nothing.
use Rattle.std.proofs.Common.{◌≡◌, ◌++◌, ◌+◌, length, ap, ◌∙◌, arith}
use lib.Dec.{leb}
use lib.ListN.{length-append}
use Rattle.valid.specs.Inner.Decoded.{labels_of}
use Rattle.state.proofs.ResultLaws.{labels_count}
use Rattle.numberedsteps.proofs.pairs.may_fuse.Goals as goal

pub returns-then-same : goal.returns-then-same
returns-then-same c =
    let l = c.args.a.labels in
    let m = c.args.b.labels in
    let e : c.from.result + c.from-then-same.result ≡ length (labels_of l ++ labels_of m) = omega (arith, labels_count l c.requires.0.names, labels_count m c.requires.1.names, length-append (labels_of l) (labels_of m), c.from.ensures, c.from-then-same.ensures) in
    ap (λ n. leb n 4) e ∙ grind arith
