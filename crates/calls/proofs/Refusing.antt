-- No refusal has the number 0.
-- Assumes nothing.
use mathlib.Core.Path.{◌≡◌}
use native.Mathlib.Omega.{arith}
use Rattle.graph.specs.Refused.{refusal_number}
use Rattle.graph.specs.declared.refusal.Refusal.{Refusal}
use Rattle.graph.specs.declared.refusal.Refusal.TheVariants.{WrongLength, NotAnImage, NotALine, NotAKey, BadTargets, NoMoreAdds, TooManyLive, NoMoreLabels, NoNode, NoUnit, NotAllowed, NeverGiven, StillPending, AlreadyClaimed, ShortOutput, ShortForPage, NotAPage, EvenMultiplier, LoadTooLong, ShortForLoad}

pub refusal_some : (r : Refusal) → refusal_number r ≡ 0 → ⊥
refusal_some WrongLength e = omega arith
refusal_some NotAnImage e = omega arith
refusal_some NotALine e = omega arith
refusal_some NotAKey e = omega arith
refusal_some BadTargets e = omega arith
refusal_some NoMoreAdds e = omega arith
refusal_some TooManyLive e = omega arith
refusal_some NoMoreLabels e = omega arith
refusal_some NoNode e = omega arith
refusal_some NoUnit e = omega arith
refusal_some NotAllowed e = omega arith
refusal_some NeverGiven e = omega arith
refusal_some StillPending e = omega arith
refusal_some AlreadyClaimed e = omega arith
refusal_some ShortOutput e = omega arith
refusal_some ShortForPage e = omega arith
refusal_some NotAPage e = omega arith
refusal_some EvenMultiplier e = omega arith
refusal_some LoadTooLong e = omega arith
refusal_some ShortForLoad e = omega arith
