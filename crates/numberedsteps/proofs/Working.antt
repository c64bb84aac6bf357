-- The steps on an image that holds a valid session: the operations that stand at a station, and the answers that are given.
-- Assumes nothing.
use mathlib.Core.Path.{◌≡◌, sym, ◌∙◌, ap, subst}
use Prim.Native.Nat.{ℕ, ◌<◌}
use mathlib.Core.Bool.{Bool, true, cond}
use mathlib.Core.List.{List}
use lib.ListN.{length, get_or, set}
use Rattle.graph.specs.Refusals.{Answer, refused, done, map_done}
use Rattle.graph.specs.Steps.{swap, fuse, may_swap, may_fuse, fused}
use Rattle.graph.specs.OneAtATime.{op_of, is_op}
use Rattle.graph.specs.Nodes.{Op}
use Rattle.flat.specs.Flat.{Tagged, Flat}
use Rattle.flat.specs.Inner.Nested.{of_op}
use Rattle.flat.specs.Inner.Queues.{remove_at}
use Rattle.flat.specs.Inner.FlatSteps.{no_op, with_op, with_queue, of_both, swap_flat, fuse_flat, flat_step}
use Rattle.state.specs.Inner.Operations.{op_value, Carries}
use Rattle.state.specs.declared.operation.Operation.{Operation}
use Rattle.state.specs.Inner.State.{flat_in, Shows}
use Rattle.state.specs.Inner.ValidImage.{ValidImage}
use Rattle.units.specs.Inner.Numbered.{Span, locate_two}
use Rattle.units.proofs.Located.{at_within, both, two_yes}
use Rattle.units.proofs.Standing.{op_at_law}

-- THE STEPS ON TWO OPERATIONS, where two were found
pub record Two (f : Flat) (u : Span) : Type 0 where
  pub first : u.start < length f.queue
  pub second : u.end < length f.queue
  pub first_op_law : is_op (get_or f.queue u.start no_op).call ≡ true
  pub second_op : is_op (get_or f.queue u.end no_op).call ≡ true

pub two_found : (image : List ℕ) (holds-valid : ValidImage image) (k i : ℕ) (u : Span) → locate_two k i (flat_in image) ≡ done u → Two (flat_in image) u
two_found image holds-valid k i u e =
    let w = both k i (flat_in image) u e in
    record {
      first = at_within k (flat_in image).queue u.start w.first;
      second = at_within k (flat_in image).queue u.end w.second;
      first_op_law = op_at_law image holds-valid k u.start w.node w.first;
      second_op = op_at_law image holds-valid k u.end w.node w.second;
    }

-- the first is a, the second b, and t is the answer of the test
module _ (k i : ℕ) (f : Flat) (u : Span) (e : locate_two k i f ≡ done u) where
  abbrev x : Tagged
  x = get_or f.queue u.start no_op

  abbrev y : Tagged
  y = get_or f.queue u.end no_op

  module _ (a b : Operation) (is : Carries x.call a) (next : Carries y.call b) (t : Bool) where
    both_ops : (g : Op → Op → Answer (List Tagged)) → of_both g x y ≡ g (op_value a) (op_value b)
    both_ops g j = of_op (refused 22) (λ c. of_op (refused 22) (g c) (next.is j)) (is.is j)

    pub swap_found : t ≡ may_swap (op_value a) (op_value b) → flat_step (swap k i) f ≡ map_done (with_queue f) (cond t (done (set (set f.queue u.start y) u.end x)) (refused 22))
    swap_found d =
        two_yes k i f swap_flat e
        ∙ ap (map_done (with_queue f)) (both_ops (λ c d. cond (may_swap c d) (done (set (set f.queue u.start y) u.end x)) (refused 22)))
        ∙ ap (λ (c : Bool). map_done (with_queue f) (cond c (done (set (set f.queue u.start y) u.end x)) (refused 22))) (sym d)

    pub fuse_found : (o : Op) → t ≡ may_fuse (op_value a) (op_value b) → op_of (fused (op_value a) (op_value b)) ≡ op_of o
        → flat_step (fuse k i) f ≡ map_done (with_queue f) (cond t (done (remove_at u.end (set f.queue u.start (with_op x o)))) (refused 22))
    fuse_found o d m =
        let made : fused (op_value a) (op_value b) ≡ o = ap (of_op o (λ q. q)) m in
        two_yes k i f fuse_flat e
        ∙ ap (map_done (with_queue f)) (both_ops (λ c d. cond (may_fuse c d) (done (remove_at u.end (set f.queue u.start (with_op x (fused c d))))) (refused 22)))
        ∙ (λ j. map_done (with_queue f) (cond (sym d j) (done (remove_at u.end (set f.queue u.start (with_op x (made j))))) (refused 22)))

-- the queue q is shown by t, and without the element at e by u
pub removed_after : (f : Flat) (q : List Tagged) (t u : List ℕ) (e : ℕ) → Shows (with_queue f q) t → Shows (with_queue (flat_in t) (remove_at e (flat_in t).queue)) u → Shows (with_queue f (remove_at e q)) u
removed_after f q t u e first then = subst (λ (g : Flat). Shows (with_queue g (remove_at e g.queue)) u) first.shows then
