-- What the test of the lent image says.
-- Assumes nothing.
use Rattle.std.specs.Prelude.{ℕ, List}
use Rattle.host.specs.Entries.{Enters}

-- refusal 1 or 2, or 0 where the image holds a session. There is no line, and so one form
abbrev pub Tested : (image : List ℕ) → ℕ → Type 0
Tested image r = Enters image (λ (f : Unit {0}). Unit {0}) (λ n. n) (λ s f. 0) r
