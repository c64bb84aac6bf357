-- `result::result_bytes` meets its contract.
-- Assumes nothing.
use Rattle.records.specs.Records.{encode_result}
use Rattle.records.proofs.Codecs.{FitResult, result_encodes}
use borrow.Author.Rules.{rules}
use Rattle.records.proofs.result.result_bytes.Goals as goal
use Rattle.records.proofs.result.result_bytes.Goals.{Start}

fit : (c : Start) → FitResult c.args.r
fit c = record { label = search rules; value = search rules; left = record { places = search rules } }

pub returns : goal.returns
unfolding encode_result
returns c = result_encodes c.args.r (fit (goal.at.returns c).Start) _ (search rules)
