-- The four places, of which those after the labels are zero.
-- Assumes nothing.
use Rattle.std.proofs.Common.{◌≡◌, length, rules}
use Rattle.waiting.proofs.Naming.{named_in}
use Rattle.waiting.proofs.has.Goals as goal

pub returns : goal.returns
returns c =
    let four : length c.args.labels.label ≡ 4 = search rules in
    named_in c.args.labels c.requires.0 four c.args.label c.requires.1
