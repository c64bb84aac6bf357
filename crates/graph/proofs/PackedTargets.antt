-- Laws of the enum that holds an operation's targets.
-- Assumes nothing.
use mathlib.Core.Path.{◌≡◌, refl, sym, ◌∙◌, ap}
use Rattle.graph.specs.declared.remaining.Remaining.{Remaining}
use Rattle.graph.specs.Targets.{Targets, these, all}
use Rattle.graph.specs.Packed.{targets_in, packed_targets}
use Rattle.graph.proofs.KeyLaws.{listed_packed}

pub targets_packed : (t : Targets) → targets_in (packed_targets t) ≡ t
targets_packed (these ts) = ap these (listed_packed ts)
targets_packed (all mark) = refl

-- the enum of some targets is in the normal form
pub normal_targets : {r : Remaining} (t : Targets) → r ≡ packed_targets t → r ≡ packed_targets (targets_in r)
normal_targets t e = e ∙ ap packed_targets (sym (ap targets_in e ∙ targets_packed t))
