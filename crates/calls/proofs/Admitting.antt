-- Admit by what the image shows after each write.
-- Assumes nothing.
use mathlib.Core.Path.{◌≡◌, sym, ap, ◌∙◌}
use Prim.Native.Nat.{ℕ, suc, ◌<◌}
use native.Mathlib.Omega.{arith}
use mathlib.Core.Bool.{Bool, cond}
use mathlib.Core.List.{List, [], ◌∷◌, ◌++◌}
use lib.ListN.{length, get_or}
use borrow.Author.Tests.{lt-ltb, le-ltb}
use Rattle.graph.specs.Nodes.{new_node}
use Rattle.graph.specs.OneAtATime.{Labelled, add_of}
use Rattle.graph.specs.Refusals.{refused, done}
use Rattle.graph.specs.Sessions.{insert}
use Rattle.graph.specs.Steps.{admit}
use Rattle.flat.specs.Flat.{Flat}
use Rattle.flat.specs.Inner.Nested.{at_place}
use Rattle.flat.specs.Inner.Queues.{first_index, remove_at}
use Rattle.flat.proofs.Places.{find_within}
use Rattle.flat.specs.Inner.FlatSteps.{no_op, with_queue, admit_call, flat_step}
use Rattle.flat.proofs.Facts.{here_find}
use Rattle.state.specs.Inner.Results.{result_with}
use Rattle.state.specs.Inner.State.{flat_in, Shows, with_nodes, with_results}
use Rattle.calls.specs.Inner.Admission.{admitted_at}

-- THE STEP, by where the first waiting call stands
module _ (f : Flat) where
  pub admit_refused : first_index (at_place 65) f.queue ≡ length f.queue → flat_step admit f ≡ refused 21
  admit_refused e =
      ap (λ (b : Bool). cond b (done (admitted_at (first_index (at_place 65) f.queue) f)) (refused 21))
      (here_find (at_place 65) f.queue ∙ le-ltb (first_index (at_place 65) f.queue) (length f.queue) (omega arith))

  pub admit_done : (w : ℕ) → w ≡ first_index (at_place 65) f.queue → w < length f.queue → flat_step admit f ≡ done (admitted_at w f)
  admit_done w e h =
      ap (λ (b : Bool). cond b (done (admitted_at (first_index (at_place 65) f.queue) f)) (refused 21))
      (here_find (at_place 65) f.queue ∙ lt-ltb (first_index (at_place 65) f.queue) (length f.queue) (omega arith))
      ∙ ap (λ (p : ℕ). done (admitted_at p f)) (sym e)

  pub first_in_law : (w n : ℕ) → w ≡ first_index (at_place 65) f.queue → n ≡ length f.queue → (w ≡ n → ⊥) → w < length f.queue
  first_in_law w n e en h = omega (arith, find_within (at_place 65) f.queue, h)

-- THE WRITES
-- an add: its node, its call, its result
pub add_shown : (s t u x : List ℕ) (w l v n : ℕ) (ks : List ℕ) → (get_or (flat_in s).queue w no_op).call ≡ add_of l v → n ≡ suc (length (flat_in s).nodes) → ks ≡ []
    → Shows (with_nodes (flat_in s) ((flat_in s).nodes ++ (new_node (length (flat_in s).nodes) v ∷ []))) t
    → Shows (with_queue (flat_in t) (remove_at w (flat_in t).queue)) u
    → Shows (with_results (flat_in u) (insert (result_with l n ks) (flat_in u).results)) x
    → Shows (admitted_at w (flat_in s)) x
add_shown s t u x w l v n ks e en ek a b d =
    let f : Flat = with_queue (with_nodes (flat_in s) ((flat_in s).nodes ++ (new_node (length (flat_in s).nodes) v ∷ []))) (remove_at w (flat_in s).queue) in
    let u_held : flat_in u ≡ f = b.shows ∙ ap (λ (g : Flat). with_queue g (remove_at w g.queue)) a.shows in
    record {
      proper = d.proper;
      shows =
          d.shows
          ∙ ap (λ (g : Flat). with_results g (insert (result_with l n ks) g.results)) u_held
          ∙ (λ i. with_results f (insert (result_with l (en i) (ek i)) (flat_in s).results))
          ∙ sym (ap (λ (c : Labelled). admit_call w c (flat_in s)) e);
    }
