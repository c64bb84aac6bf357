-- `read::result_at` meets its contract.
-- Assumes nothing.
use mathlib.Core.Path.{ap, ◌∙◌}
use Rattle.records.specs.Inner.Decoded.{decode_result}
use Rattle.image.specs.Inner.Regions.{record_at, result_region}
use Rattle.image.proofs.Regions.{record_of}
use Rattle.image.proofs.read.result_at.Goals as goal

pub returns : goal.returns
unfolding record_at
returns c = c.read_result.ensures ∙ ap decode_result c.record_bytes.ensures.bytes ∙ record_of result_region c.args.image.now c.args.i c.requires.1
