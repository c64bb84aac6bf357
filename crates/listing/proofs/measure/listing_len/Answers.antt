-- The head and the rows, added up.
-- Assumes nothing.
use Rattle.std.proofs.Common.{arith, length, length-append, ap}
use Rattle.state.specs.Inner.State.{flat_in}
use Rattle.listing.specs.Inner.Rows.{head_line, rows_of, joined}
use Rattle.listing.proofs.Counted.{listing_held}
use Rattle.listing.proofs.measure.listing_len.Goals as goal

pub returns : goal.returns
returns c =
    let f = flat_in c.args.image.now in
    record {
      text = omega (arith, ap length (listing_held c.args.image.now c.requires), length-append (head_line f) (joined (rows_of f)));
      few = omega arith;
    }
