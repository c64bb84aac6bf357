-- The first of realise, finish and move that the head unit allows.
-- Assumes nothing.
use mathlib.Core.Bool.{true}
use mathlib.Core.List.{List}
use mathlib.Core.Path.{◌≡◌, refl}
use Prim.Native.Nat.{ℕ, ◌<◌}
use lib.ListN.{length, get_or}
use Rattle.graph.specs.OneAtATime.{is_op}
use Rattle.flat.specs.Inner.FlatSteps.{no_op}
use Rattle.state.specs.Inner.State.{flat_in}
use Rattle.headsteps.proofs.Heads.{in_nodes}
use Rattle.session.proofs.DrainSteps.{drains_done, HeadUnit, begins_head, begins_op, takes_realise, takes_finish, takes_move}
use native.Mathlib.Omega.{arith}
use Rattle.session.proofs.drain.drain_at.Goals as goal
use Rattle.session.proofs.drain.drain_at.Goals.{After-unit_end-e, Start}

-- the head unit, whose end is known
module _ (u : After-unit_end-e) where
  abbrev image : List ℕ
  image = u.args.image.now

  head : HeadUnit image u.args.k u.unit_end-e.result
  head = begins_head image u.requires.0 u.args.k u.requires.1 u.unit_end-e.result u.unit_end-e.ensures.is u.unit_end-e.ensures.within

  -- what a search found in it is an operation of the queue
  found : {p : ℕ} → p < u.unit_end-e.result → p < length (flat_in image).queue
  found h = omega (arith, u.unit_end-e.ensures.within)

  found_op : {p : ℕ} → p < u.unit_end-e.result → is_op (get_or (flat_in image).queue p no_op).call ≡ true
  found_op h = begins_op image u.requires.0 u.args.k u.requires.1 head h

pub first_for-p-requires : goal.first_for-p-requires
first_for-p-requires c =
    (c.requires.0.proper, omega arith, c.unit_end-e.ensures.within, λ i lo hi. found_op (goal.at.first_for-p-requires c).After-unit_end-e hi)

pub act_at-requires : goal.act_at-requires
act_at-requires c =
    (c.requires.0.proper, (head (goal.at.act_at-requires c).After-unit_end-e).node, found (goal.at.act_at-requires c).After-unit_end-e c.if-p-e.true, found_op (goal.at.act_at-requires c).After-unit_end-e c.if-p-e.true)

pub returns-then-p-e : goal.returns-then-p-e
returns-then-p-e c =
    drains_done (takes_realise (image (goal.at.returns-then-p-e c).After-unit_end-e) c.requires.0 c.args.k c.requires.1 (head (goal.at.returns-then-p-e c).After-unit_end-e) c.first_for-p.ensures.is c.if-p-e.true) refl c.act_at.ensures

pub first_for-q-requires : goal.first_for-q-requires
first_for-q-requires c =
    (c.requires.0.proper, omega arith, c.unit_end-e.ensures.within, λ i lo hi. found_op (goal.at.first_for-q-requires c).After-unit_end-e hi)

pub finish_at-requires : goal.finish_at-requires
finish_at-requires c =
    (c.requires.0, c.if-q-e.true, c.unit_end-e.ensures.within, found_op (goal.at.finish_at-requires c).After-unit_end-e c.if-q-e.true)

pub returns-then-q-e : goal.returns-then-q-e
returns-then-q-e c =
    drains_done (takes_finish (image (goal.at.returns-then-q-e c).After-unit_end-e) c.requires.0 c.args.k c.requires.1 (head (goal.at.returns-then-q-e c).After-unit_end-e) c.first_for-p.ensures.is (omega (arith, c.if-p-e.false)) c.first_for-q.ensures.is c.if-q-e.true) refl c.finish_at.ensures

pub move_unit-requires : goal.move_unit-requires
move_unit-requires c =
    (c.requires.0.proper, (in_nodes c.args.k (flat_in (image (goal.at.move_unit-requires c).After-unit_end-e)) (head (goal.at.move_unit-requires c).After-unit_end-e).node).low, omega arith, c.unit_end-e.ensures.within)

pub returns : goal.returns
returns c =
    drains_done (takes_move (image (goal.at.returns c).After-unit_end-e) c.requires.0 c.args.k c.requires.1 (head (goal.at.returns c).After-unit_end-e) c.first_for-p.ensures.is (omega (arith, c.if-p-e.false)) c.first_for-q.ensures.is (omega (arith, c.if-q-e.false))) refl c.move_unit.ensures
