-- No call waits; or an add does; or another call.
-- Assumes nothing.
use mathlib.Core.Path.{◌≡◌, refl, sym, ◌∙◌}
use Prim.Native.Nat.{ℕ, ◌<◌}
use lib.ListN.{length}
use borrow.Author.Tests.{not-true}
use Rattle.graph.specs.Refusals.{done}
use Rattle.graph.specs.Steps.{admit}
use Rattle.flat.specs.Flat.{Flat}
use Rattle.flat.specs.Inner.FlatSteps.{flat_step}
use Rattle.state.specs.Inner.State.{flat_in}
use Rattle.calls.specs.Inner.Admission.{admitted_at}
use Rattle.calls.proofs.Admitting.{admit_refused, admit_done, first_in_law}
use Rattle.calls.proofs.Room.{node_room, result_room}
use Rattle.state.proofs.Working.{works_refused, works_done}
use Rattle.calls.proofs.admit.admit.Goals as goal
use Rattle.calls.proofs.admit.admit.Goals.{Else-w-total, Start}

pub returns-then-w-total : goal.returns-then-w-total
returns-then-w-total c = works_refused (admit_refused (flat_in c.args.image.now) (sym c.first_at-w.ensures ∙ c.if-w-total.true ∙ c.total.ensures.is)) refl

-- a call waits: the first one, at w
module _ (e : Else-w-total) where
  abbrev f : Flat
  f = flat_in e.args.image.now

  abbrev w : ℕ
  w = e.first_at-w.result

  waits : w < length f.queue
  waits = first_in_law f w e.total.result e.first_at-w.ensures e.total.ensures.is e.if-w-total.false

  admits : flat_step admit f ≡ done (admitted_at w f)
  admits = admit_done f w e.first_at-w.ensures waits

pub is_add_at-requires : goal.is_add_at-requires
is_add_at-requires c = (c.requires.proper, waits (goal.at.is_add_at-requires c).Else-w-total)

pub admit_add-requires : goal.admit_add-requires
admit_add-requires c =
    let s = (goal.at.admit_add-requires c).Else-w-total in
    let add = not-true _ (sym c.is_add_at.ensures ∙ c.if-is_add_at.true) in
    (s.requires.proper, waits (goal.at.admit_add-requires c).Else-w-total, add, node_room s.args.image.now s.requires (w (goal.at.admit_add-requires c).Else-w-total) add (admits (goal.at.admit_add-requires c).Else-w-total), result_room s.args.image.now s.requires (w (goal.at.admit_add-requires c).Else-w-total) (waits (goal.at.admit_add-requires c).Else-w-total) add)

pub returns-then-is_add_at : goal.returns-then-is_add_at
returns-then-is_add_at c = works_done (admits (goal.at.returns-then-is_add_at c).Else-w-total) c.admit_add.ensures

pub returns : goal.returns
returns c = works_done (admits (goal.at.returns c).Else-w-total) c.admit_operation.ensures
