-- Two texts, one after the other.
-- Assumes nothing.
use native.Mathlib.Omega.{arith}
use Rattle.text.proofs.Pasting.{written_room, written_then, front_fits}
use Rattle.state.specs.Inner.State.{flat_in}
use Rattle.listing.specs.Inner.Rows.{head_line, rows_of, joined}
use Rattle.listing.proofs.Counted.{listing_held, fitting}
use Rattle.listing.proofs.Joined.{written_as}
use Rattle.listing.proofs.write.put_listing.Goals as goal

pub put_counts-p-requires : goal.put_counts-p-requires
put_counts-p-requires c =
    let f = flat_in c.args.image.now in
    (c.requires.0.proper, omega (arith, front_fits 0 (head_line f) (joined (rows_of f)) (fitting c.args.image.now c.requires.0 c.requires.1)))

pub put_rows-requires : goal.put_rows-requires
put_rows-requires c =
    (c.requires.0.proper, written_room c.put_counts-p.ensures (joined (rows_of (flat_in c.args.image.now))) (fitting c.args.image.now c.requires.0 c.requires.1))

pub returns : goal.returns
returns c =
    written_as (listing_held c.args.image.now c.requires.0) (written_then c.put_counts-p.ensures c.put_rows.ensures (fitting c.args.image.now c.requires.0 c.requires.1))
