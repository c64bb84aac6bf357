-- The length is tested first, then the bytes.
-- Assumes nothing.
use mathlib.Core.Path.{refl}
use borrow.Author.Tests.{not-true, not-false}
use Rattle.host.specs.Entries.{other_length, other_bytes, served}
use Rattle.host.proofs.Entering.{exact_none, exact_session}
use mathlib.Core.Path.{ap}
use mathlib.Core.Bool.{not}
use Rattle.host.proofs.lent.image_refusal.Goals as goal

pub returns-then-image-ne4112 : goal.returns-then-image-ne4112
returns-then-image-ne4112 c = other_length c.if-image-ne4112.true refl

pub returns-then-not-image_valid : goal.returns-then-not-image_valid
returns-then-not-image_valid c = other_bytes c.if-image-ne4112.false (exact_none c.image_valid.ensures (not-true _ (ap not c.if-not-image_valid.true))) refl

pub returns : goal.returns
returns c = served _ (exact_session c.image_valid.ensures (not-false _ (ap not c.if-not-image_valid.false))) tt tt refl
