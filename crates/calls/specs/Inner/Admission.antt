-- The call that is admitted.
-- Assumes nothing.
use Rattle.std.specs.Prelude.{ℕ, get_or}
use Rattle.flat.specs.Flat.{Flat}
use Rattle.flat.specs.Inner.FlatSteps.{no_op, admit_call}

-- the call at w admitted
abbrev pub admitted_at : ℕ → Flat → Flat
admitted_at w f = admit_call w (get_or f.queue w no_op).call f
