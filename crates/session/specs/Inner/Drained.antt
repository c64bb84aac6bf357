-- What drain states: the session that it ends with, and how many steps of each kind it takes.
-- Assumes nothing.
use Rattle.std.specs.Prelude.{ℕ, ◌≡◌, List}
use Rattle.graph.specs.Steps.{Step}
use Rattle.graph.specs.Drain.{drain}
use Rattle.graph.specs.Counts.{of_kind}
use Rattle.valid.specs.Values.{encode}
use Rattle.valid.specs.Inner.Decoded.{session_of}
use Rattle.session.specs.declared.drain.Counts.{Counts}

-- how many steps of each of the four kinds
pub record Counted (ts : List Step) (c : Counts) : Type 0 where
  pub admits : c.admit ≡ of_kind 0 ts
  pub realises : c.realise ≡ of_kind 1 ts
  pub moves : c.moved ≡ of_kind 2 ts
  pub finishes : c.finish ≡ of_kind 3 ts

-- the image after is that of the session that drain ends with, and the counts are those of the steps that it takes
pub record Drains (before after : List ℕ) (c : Counts) : Type 0 where
  pub image : after ≡ encode (drain (session_of before)).end
  pub counts : Counted (drain (session_of before)).took c
