-- Room in an image that holds a valid session: for the node of an add that waits, for the results of a call, and for one call more.
-- Assumes nothing.
use mathlib.Core.Path.{◌≡◌, refl, ap, ◌∙◌, subst}
use Prim.Native.Nat.{ℕ, suc, ◌+◌, ◌≤◌, ◌<◌}
use native.Mathlib.Omega.{arith}
use mathlib.Core.Bool.{false, true≢false}
use mathlib.Core.List.{List, [], ◌∷◌}
use lib.Dec.{leb}
use lib.ListN.{length, get_or, length-append}
use borrow.Author.Tests.{leb-false}
use Rattle.graph.specs.Nodes.{new_node}
use Rattle.graph.specs.OneAtATime.{Labelled, add_of, op_of, is_op}
use Rattle.graph.specs.Refusals.{done}
use Rattle.graph.specs.Sessions.{labels_of_results}
use Rattle.graph.specs.Steps.{admit}
use Rattle.graph.proofs.Answers.{Holds, holds_map, holds_at}
use Rattle.graph.proofs.Labels.{length_labels}
use Rattle.graph.proofs.Validity.{step_valid}
use Rattle.flat.specs.Flat.{Flat, flat}
use Rattle.flat.specs.Inner.Nested.{nest}
use Rattle.flat.specs.Inner.Queues.{labels_in, queued, live_in}
use Rattle.flat.proofs.Places.{length_nodes}
use Rattle.flat.proofs.Elements.{each_queued}
use Rattle.flat.proofs.Labels.{labels_some, labels_many}
use Rattle.flat.specs.Inner.FlatSteps.{no_op, admit_call, flat_step}
use Rattle.flat.proofs.Events.{valid_room, step_valid_flat}
use Rattle.flat.proofs.Facts.{labels_room}
use Rattle.state.specs.Inner.State.{flat_in}
use Rattle.state.specs.Inner.ValidImage.{ValidImage}
use Rattle.calls.specs.Inner.Admission.{admitted_at}

-- the live labels wait in the queue or among the results
pub live_parts : (f : Flat) → length (live_in f) ≡ length (queued f.queue) + length f.results
live_parts f = length-append (queued f.queue) (labels_of_results f.results) ∙ ap (λ (n : ℕ). length (queued f.queue) + n) (length_labels f.results)

-- an add has one label, and its node is one more
one_name : (c : Labelled) → is_op c ≡ false → length (labels_in c) ≡ 1
one_name (add_of l v) e = refl
one_name (op_of o) e = absurd (true≢false e)

grown : (w : ℕ) (f : Flat) (c : Labelled) → is_op c ≡ false → length (admit_call w c f).nodes ≡ suc (length f.nodes)
grown w f (add_of l v) e = omega (arith, length-append f.nodes (new_node (length f.nodes) v ∷ []))
grown w f (op_of o) e = absurd (true≢false e)

module _ (s : List ℕ) (g : ValidImage s) where
  results_room : (i : ℕ) → i < length (flat_in s).queue → length (flat_in s).results + length (labels_in (get_or (flat_in s).queue i no_op).call) ≤ 64
  results_room i =
      subst (λ (f : Flat). i < length f.queue → length f.results + length (labels_in (get_or f.queue i no_op).call) ≤ 64) g.flat
      (labels_room (nest (flat_in s)) g.valid i)

  pub queue_room : leb 64 (length (live_in (flat_in s))) ≡ false → length (flat_in s).queue < 64
  queue_room e =
      let many : length (flat_in s).queue ≤ length (queued (flat_in s).queue) =
      subst (λ (f : Flat). length f.queue ≤ length (queued f.queue)) g.flat
      (labels_many (flat (nest (flat_in s))).queue (each_queued (λ x. 1 ≤ length (labels_in x.call)) labels_some (nest (flat_in s)) g.valid (λ k b o l h w. w.named))) in
      omega (arith, many, live_parts (flat_in s), leb-false 64 (length (live_in (flat_in s))) e)

  -- a step leaves a valid session, so an add that waits has room for its node
  few_after : Holds (λ (f : Flat). length f.nodes ≤ 64) (flat_step admit (flat_in s))
  few_after =
      subst (λ (f : Flat). Holds (λ (f : Flat). length f.nodes ≤ 64) (flat_step admit f)) g.flat
      (rw (step_valid_flat admit (nest (flat_in s)) g.valid)
      (holds_map flat (λ u w. omega (arith, valid_room u w.valid, length_nodes u.stations)) (step_valid admit (nest (flat_in s)) g.valid)))

  pub node_room : (w : ℕ) → is_op (get_or (flat_in s).queue w no_op).call ≡ false → flat_step admit (flat_in s) ≡ done (admitted_at w (flat_in s)) → length (flat_in s).nodes < 64
  node_room w e d =
      let few : length (admitted_at w (flat_in s)).nodes ≤ 64 = holds_at (rw d at few_after) in
      omega (arith, few, grown w (flat_in s) (get_or (flat_in s).queue w no_op).call e)

  -- and for its result
  pub result_room : (w : ℕ) → w < length (flat_in s).queue → is_op (get_or (flat_in s).queue w no_op).call ≡ false → length (flat_in s).results < 64
  result_room w h e = omega (arith, results_room w h, one_name (get_or (flat_in s).queue w no_op).call e)
