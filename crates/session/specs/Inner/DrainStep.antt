-- What the functions inside drain state: one of its steps, of the flat session that the image holds, and the counts.
-- Assumes nothing.
use Rattle.std.specs.Prelude.{ℕ, ◌+◌, ◌<◌, ◌≡◌, false, List, eqb, length, get_or}
use Rattle.graph.specs.Refusals.{Answer, done}
use Rattle.graph.specs.Steps.{Step, admit, realise, move, finish, join, split, swap, fuse}
use Rattle.flat.specs.Inner.FlatSteps.{no_op}
use Rattle.flat.specs.Inner.FlatEvents.{FlatTaken}
use Rattle.state.specs.Inner.State.{flat_in, Shows}
use Rattle.session.specs.declared.drain.Counts.{Counts}
use Rattle.session.specs.declared.drain.StepTaken.{StepTaken}
use Rattle.session.specs.declared.drain.StepTaken.TheVariants.{Admit, Realise, Move, Finish}

-- r is the step's kind; drain takes none of the others
abbrev pub IsKind : Step → StepTaken → Type 0
IsKind admit r = r ≡ Admit
IsKind (realise k) r = r ≡ Realise
IsKind (move k) r = r ≡ Move
IsKind (finish k) r = r ≡ Finish
IsKind (join k i) r = ⊥
IsKind (split k i j) r = ⊥
IsKind (swap k i) r = ⊥
IsKind (fuse k i) r = ⊥

-- x, which is a flat session's drain step, took a step: its kind is r, and the image after it shows the session after it
pub record DrainsOne (x : Answer FlatTaken) (after : List ℕ) (r : StepTaken) : Type 0 where
  pub taken : FlatTaken
  pub did : x ≡ done taken
  pub kind : IsKind taken.what r
  pub shows : Shows taken.to after

-- the queue's first operation stands at the station with key k
pub record Begins (image : List ℕ) (k : ℕ) : Type 0 where
  pub inside : 0 < length (flat_in image).queue
  pub place : (get_or (flat_in image).queue 0 no_op).place ≡ k
  pub station : eqb k 65 ≡ false

-- the counts with one more of this kind
abbrev pub raised_counts : Counts → StepTaken → Counts
raised_counts c Admit = record { admit = c.admit + 1; realise = c.realise; moved = c.moved; finish = c.finish }
raised_counts c Realise = record { admit = c.admit; realise = c.realise + 1; moved = c.moved; finish = c.finish }
raised_counts c Move = record { admit = c.admit; realise = c.realise; moved = c.moved + 1; finish = c.finish }
raised_counts c Finish = record { admit = c.admit; realise = c.realise; moved = c.moved; finish = c.finish + 1 }
