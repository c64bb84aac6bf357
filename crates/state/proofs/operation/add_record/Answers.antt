-- The record that an add has.
-- Assumes nothing.
use Rattle.graph.specs.Packed.{packed}
use Rattle.valid.specs.Values.{packed_labels}
use borrow.Author.Rules.{rules}
use Rattle.state.proofs.operation.add_record.Goals as goal

pub returns : goal.returns
unfolding packed packed_labels
returns c = search rules
