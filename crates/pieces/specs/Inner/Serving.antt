-- What a line that is served in place of its bytes is kept as.
-- Assumes nothing.
use Rattle.std.specs.Prelude.{ℕ, List}
use Rattle.longlines.specs.Inner.LongLines.{LongOf}
use Rattle.longlines.specs.declared.longline.LongLine.{LongLine}

-- this is kept of some line
abbrev pub LongOfSome : LongLine → Type 0
LongOfSome l = (line : List ℕ) × LongOf line l
