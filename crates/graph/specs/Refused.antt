-- The refusals of src/refusal.rt by their numbers (docs/RULES.md, section 5), and results that may be one.
-- Assumes nothing.
use Rattle.std.specs.Prelude.{ℕ, Result, Ok, Err}
use Rattle.graph.specs.Refusals.{Answer, refused, done}
use Rattle.graph.specs.declared.refusal.Refusal.{Refusal}
use Rattle.graph.specs.declared.refusal.Refusal.TheVariants.{WrongLength, NotAnImage, NotALine, NotAKey, BadTargets, NoMoreAdds, TooManyLive, NoMoreLabels, NoNode, NoUnit, NotAllowed, NeverGiven, StillPending, AlreadyClaimed, ShortOutput, ShortForPage, NotAPage, EvenMultiplier, LoadTooLong, ShortForLoad}

abbrev pub refusal_number : Refusal → ℕ
refusal_number WrongLength = 1
refusal_number NotAnImage = 2
refusal_number NotALine = 10
refusal_number NotAKey = 11
refusal_number BadTargets = 12
refusal_number NoMoreAdds = 13
refusal_number TooManyLive = 14
refusal_number NoMoreLabels = 15
refusal_number NoNode = 20
refusal_number NoUnit = 21
refusal_number NotAllowed = 22
refusal_number NeverGiven = 30
refusal_number StillPending = 31
refusal_number AlreadyClaimed = 32
refusal_number ShortOutput = 33
refusal_number ShortForPage = 34
refusal_number NotAPage = 35
refusal_number EvenMultiplier = 40
refusal_number LoadTooLong = 46
refusal_number ShortForLoad = 47

module _ {A : Type 0} where
  -- the refusal's number, or 0 where nothing was refused
  abbrev pub number_in : Result A Refusal → ℕ
  number_in (Ok a) = 0
  number_in (Err r) = refusal_number r

-- what was done, in the terms of the rules, or the refusal's number
module _ {A B : Type 0} where
  abbrev pub answered : (A → B) → Result A Refusal → Answer B
  answered f (Ok a) = done (f a)
  answered f (Err r) = refused (refusal_number r)
