-- From the flat session to the session and its bytes: a function that does the flat step on an image that holds a valid session serves the session's.
-- Assumes nothing.
use Prim.Native.Nat.{ℕ}
use mathlib.Core.Path.{◌≡◌, refl, sym, ◌∙◌, ap, subst}
use mathlib.Core.List.{List}
use Rattle.graph.specs.Refusals.{Answer, refused, done, map_done}
use Rattle.graph.specs.Calls.{Call}
use Rattle.graph.specs.Sessions.{Session}
use Rattle.graph.specs.Steps.{Step, step}
use Rattle.graph.specs.Acceptance.{accept}
use Rattle.graph.specs.Valid.{Valid}
use Rattle.graph.proofs.Answers.{Holds, refuses, holds}
use Rattle.graph.proofs.Validity.{step_valid, accept_valid}
use Rattle.flat.specs.Flat.{Flat, flat}
use Rattle.flat.specs.Inner.Nested.{nest}
use Rattle.flat.proofs.Nesting.{nest_flat}
use Rattle.flat.specs.Inner.FlatSteps.{flat_step}
use Rattle.flat.specs.Inner.FlatEvents.{flat_accept}
use Rattle.flat.proofs.Events.{valid_keyed, valid_room, step_valid_flat, accept_bridge}
use Rattle.records.proofs.Codecs.{Bytes}
use Rattle.image.specs.Layout.{View, image_of}
use Rattle.image.specs.Inner.Regions.{view}
use Rattle.image.proofs.Whole.{view_is, image_sound, image_canonical, image_is}
use Rattle.valid.specs.Inner.Decoded.{flat_of, session_of}
use Rattle.valid.specs.Values.{view_of, encode}
use Rattle.valid.proofs.Facts.{flat_valid}
use Rattle.valid.proofs.Exactness.{back, fit}
use Rattle.state.specs.Inner.State.{flat_in, Shows}
use Rattle.state.specs.Inner.ValidImage.{ValidImage, Works, Serves}

-- an image that shows a valid session's flat view holds that session, and is its image
pub nest_shown : (s : Session) (image : List ℕ) → Valid s → flat_in image ≡ flat s → nest (flat_in image) ≡ s
nest_shown s image v e = ap nest e ∙ nest_flat s (valid_keyed s v) (valid_room s v)

pub shows_valid : (s : Session) (image : List ℕ) → Valid s → Shows (flat s) image → ValidImage image
shows_valid s image v h =
    let e : nest (flat_in image) ≡ s = nest_shown s image v h.shows in
    record { proper = h.proper; valid = subst Valid (sym e) v; flat = ap flat e ∙ sym h.shows }

pub shows_encode : (s : Session) (image : List ℕ) → Bytes image → Shows (flat s) image → image ≡ encode s
unfolding encode
shows_encode s image b h =
    sym (image_is image b h.proper.sound h.proper.canonical) ∙ ap image_of h.proper.clean ∙ ap (λ (f : Flat). image_of (view_of f)) h.shows

-- the image of a valid session holds it
encode_view : (s : Session) → Valid s → view (encode s) ≡ view_of (flat s)
unfolding encode
encode_view s v = view_is (view_of (flat s)) (fit (flat s) (flat_valid s v))

encode_held : (s : Session) → Valid s → flat_in (encode s) ≡ flat s
unfolding flat_in
encode_held s v = ap flat_of (encode_view s v) ∙ back (flat s) (flat_valid s v)

pub encode_shows : (s : Session) → Valid s → Shows (flat s) (encode s)
unfolding encode
encode_shows s v =
    let w : View = view_of (flat s) in
    record {
      proper = record {
        sound = image_sound w (fit (flat s) (flat_valid s v));
        canonical = image_canonical w (fit (flat s) (flat_valid s v));
        clean = encode_view s v ∙ ap view_of (sym (encode_held s v));
      };
      shows = encode_held s v;
    }

pub valid_image : (image : List ℕ) → Valid (session_of image) → encode (session_of image) ≡ image → ValidImage image
valid_image image v e = subst ValidImage e (shows_valid (session_of image) (encode (session_of image)) v (encode_shows (session_of image) v))

pub session_held : (image : List ℕ) → session_of image ≡ nest (flat_in image)
unfolding session_of flat_in
session_held image = refl

-- what is left of an image that holds a valid session: another such image, that of the session after
pub record Served (x : Answer Session) (before after : List ℕ) (r : ℕ) : Type 0 where
  pub serves : Serves x before after r
  pub image_valid_law : ValidImage after

weaken : {P Q : Session → Type 0} {x : Answer Session} → ((s : Session) → P s → Q s) → Holds P x → Holds Q x
weaken f refuses = refuses
weaken f (holds {a} h) = holds (f a h)

-- flat work that is the session's, on an image that holds a valid session
serve : (y : Answer Session) (before after : List ℕ) (r : ℕ) → ValidImage before → Bytes after → Holds Valid y → Works (map_done flat y) before after r → Served y before after r
serve (refused n) before after r l b v w = record { serves = record { number = w.number; image = w.leaves }; image_valid_law = subst ValidImage (sym w.leaves) l }
serve (done s) before after r l b (holds v) w =
    record { serves = record { number = w.number; image = shows_encode s after b w.leaves }; image_valid_law = shows_valid s after v w.leaves }

pub step_served_law : (t : Step) (before after : List ℕ) (r : ℕ) → ValidImage before → Bytes after → Works (flat_step t (flat_in before)) before after r → Served (step t (session_of before)) before after r
step_served_law t before after r l b w =
    let s : Session = nest (flat_in before) in
    let e : flat_step t (flat_in before) ≡ map_done flat (step t s) = ap (flat_step t) (sym l.flat) ∙ step_valid_flat t s l.valid in
    subst (λ (u : Session). Served (step t u) before after r) (sym (session_held before))
    (serve (step t s) before after r l b (weaken (λ u h. h.valid) (step_valid t s l.valid)) (subst (λ (x : Answer Flat). Works x before after r) e w))

pub accept_served : (c : Call) (before after : List ℕ) (r : ℕ) → ValidImage before → Bytes after → Works (flat_accept c (flat_in before)) before after r → Served (accept c (session_of before)) before after r
accept_served c before after r l b w =
    let s : Session = nest (flat_in before) in
    let e : flat_accept c (flat_in before) ≡ map_done flat (accept c s) = ap (flat_accept c) (sym l.flat) ∙ accept_bridge c s in
    subst (λ (u : Session). Served (accept c u) before after r) (sym (session_held before))
    (serve (accept c s) before after r l b (weaken (λ u h. h.valid) (accept_valid c s l.valid)) (subst (λ (x : Answer Flat). Works x before after r) e w))
