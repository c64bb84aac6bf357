-- A turn of drain's loop: one step on an image that holds a valid session takes the first of the steps that drain takes.
-- Assumes nothing.
use mathlib.Core.Path.{◌≡◌, refl, sym, ◌∙◌, ap, subst}
use Prim.Native.Nat.{ℕ, ◌<◌}
use native.Mathlib.Omega.{arith}
use mathlib.Core.List.{List, [], ◌∷◌}
use Rattle.graph.specs.Refusals.{Answer, refused, done, map_done}
use Rattle.graph.specs.Sessions.{Session}
use Rattle.graph.specs.Steps.{Step}
use Rattle.graph.specs.Drain.{AfterStep, drain_step, Drained, drain}
use Rattle.graph.proofs.Answers.{Holds, holds_at}
use Rattle.graph.proofs.Weights.{weight_of}
use Rattle.graph.proofs.Drains.{Took, drain_took, Next, next, drain_next, drain_rests}
use Rattle.flat.specs.Flat.{Flat, flat}
use Rattle.flat.specs.Inner.Nested.{nest}
use Rattle.flat.specs.Inner.FlatEvents.{FlatTaken, flat_drain_step}
use Rattle.flat.proofs.Events.{taken_flat, drain_bridge}
use Rattle.valid.specs.Inner.Decoded.{session_of}
use Rattle.state.specs.Inner.State.{flat_in, Shows}
use Rattle.state.specs.Inner.ValidImage.{ValidImage}
use Rattle.state.proofs.Serving.{shows_valid, session_held, nest_shown}

-- the session's own drain step, where the flat one is done
record Same (s : Session) (x : FlatTaken) : Type 0 where
  taken : AfterStep
  did : drain_step s ≡ done taken
  what : taken.what ≡ x.what
  to : flat taken.to ≡ x.to

same_of : (s : Session) (y : Answer AfterStep) (x : FlatTaken) → drain_step s ≡ y → map_done taken_flat y ≡ done x → Same s x
same_of s (refused r) x e q = absurd (let z : ◌≡◌ {A = ℕ} 0 1 = cc in omega arith)
same_of s (done t) x e q =
    let p : taken_flat t ≡ x = cc in
    record { taken = t; did = e; what = ap (λ (z : FlatTaken). z.what) p; to = ap (λ (z : FlatTaken). z.to) p }

pub record Turn (before after : List ℕ) (t : Step) : Type 0 where
  pub image_valid_law : ValidImage after
  pub end : (drain (session_of before)).end ≡ (drain (session_of after)).end
  pub took : (drain (session_of before)).took ≡ t ∷ (drain (session_of after)).took
  pub lighter : weight_of (session_of after) < weight_of (session_of before)

pub drain_turn : (before after : List ℕ) (t : Step) (f : Flat) → ValidImage before → flat_drain_step (flat_in before) ≡ done (record { what = t; to = f }) → Shows f after → Turn before after t
drain_turn before after t f l e h =
    let s : Session = nest (flat_in before) in
    let x : FlatTaken = record { what = t; to = f } in
    let y : Same s x = same_of s (drain_step s) x refl (sym (drain_bridge s l.valid) ∙ ap flat_drain_step l.flat ∙ e) in
    let u : Session = y.taken.to in
    let n : Next s u = next s l.valid y.taken (holds_at (subst (λ (z : Answer AfterStep). Holds (Took s) z) y.did (drain_took s))) in
    let shown : Shows (flat u) after = subst (λ (g : Flat). Shows g after) (sym y.to) h in
    let is : session_of after ≡ u = session_held after ∙ nest_shown u after n.valid shown.shows in
    let d : drain s ≡ record { end = (drain u).end; took = y.taken.what ∷ (drain u).took } = drain_next s l.valid y.taken y.did in
    let less : weight_of u < weight_of s = omega (arith, n.lighter) in
    record {
      image_valid_law = shows_valid u after n.valid shown;
      end = rw (session_held before, is) (ap (λ (z : Drained). z.end) d);
      took = rw (session_held before, is) (ap (λ (z : Drained). z.took) d ∙ ap (λ (z : Step). z ∷ (drain u).took) y.what);
      lighter = subst (λ (z : Session). weight_of (session_of after) < weight_of z) (sym (session_held before)) (subst (λ (z : Session). weight_of z < weight_of s) (sym is) less);
    }

-- where nothing waits drain takes no step
pub record Rests (image : List ℕ) : Type 0 where
  pub end : (drain (session_of image)).end ≡ session_of image
  pub took : (drain (session_of image)).took ≡ []

rest_of : (s : Session) (y : Answer AfterStep) (r : ℕ) → map_done taken_flat y ≡ refused r → y ≡ refused r
rest_of s (refused n) r e = cc
rest_of s (done t) r e = absurd (let z : ◌≡◌ {A = ℕ} 0 1 = cc in omega arith)

pub drain_stops : (image : List ℕ) (r : ℕ) → ValidImage image → flat_drain_step (flat_in image) ≡ refused r → Rests image
drain_stops image r l e =
    let s : Session = nest (flat_in image) in
    let q : drain_step s ≡ refused r = rest_of s (drain_step s) r (sym (drain_bridge s l.valid) ∙ ap flat_drain_step l.flat ∙ e) in
    let d : drain s ≡ record { end = s; took = [] } = drain_rests s r q in
    record { end = rw (session_held image) (ap (λ (z : Drained). z.end) d); took = rw (session_held image) (ap (λ (z : Drained). z.took) d) }
