-- `results::store_one` meets its contract.
-- Assumes nothing.
use native.Mathlib.Omega.{arith}
use Rattle.state.specs.Inner.State.{flat_in}
use Rattle.state.specs.Inner.Results.{is_above}
use Rattle.state.proofs.ResultLaws.{result_count, result_put}
use Rattle.flat.proofs.Places.{find_within}
use Rattle.state.proofs.results.store_one.Goals as goal

pub insert_result-requires : goal.insert_result-requires
insert_result-requires c =
    let s = c.args.image.now in
    let e = result_count s c.requires.0 in
    (c.requires.0.sound, omega (arith, e, c.place_of-p.ensures, find_within (is_above c.args.label) (flat_in s).results), omega (arith, e))

pub returns : goal.returns
returns c =
    let p = c.place_of-p in
    result_put c.args.image.now c.requires.0 _ p.result c.args.label c.args.value c.args.left p.ensures c.requires.2 c.insert_result.ensures
