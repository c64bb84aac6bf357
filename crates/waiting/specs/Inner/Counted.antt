-- What the functions on the queue's labels and adds state.
-- Assumes nothing.
use Rattle.std.specs.Prelude.{◌≡◌, ℕ, List}
use Rattle.records.specs.declared.labels.Labels.{Labels}
use Rattle.valid.specs.Inner.Decoded.{labels_of}
use Rattle.valid.specs.Values.{packed_labels}

-- a list of labels, zeros after them
pub record Names (ls : List ℕ) (r : Labels) : Type 0 where
  pub is : labels_of r ≡ ls
  pub normal : r ≡ packed_labels (labels_of r)
