-- A call line: refused in reading, or the call that the session is asked to accept.
-- Assumes nothing.
use mathlib.Core.Path.{◌≡◌, refl, sym, ap, ◌∙◌}
use Prim.Native.Nat.{ℕ}
use native.Mathlib.Omega.{arith}
use mathlib.Core.List.{List}
use Rattle.graph.specs.Calls.{Call, add, map, link, unlink, sum, top, pick, near, unmap, to_of, form_tests}
use Rattle.graph.specs.OneAtATime.{is_add}
use Rattle.graph.specs.declared.remaining.Remaining.{Remaining}
use Rattle.graph.specs.Targets.{To, untouched}
use Rattle.std.specs.Prelude.{Result, Ok, Err}
use mathlib.Core.Bool.{true≢false}
use Rattle.graph.specs.Refusals.{Answer, refused, done, map_done, unless}
use Rattle.graph.specs.Refused.{refusal_number, answered}
use Rattle.graph.specs.declared.refusal.Refusal.{Refusal}
use Rattle.graph.specs.RefusalOrder.{number_of}
use Rattle.graph.specs.Sessions.{Session}
use Rattle.graph.specs.Packed.{packed_targets}
use Rattle.graph.specs.Acceptance.{room_tests, room_of, accept, call_tests, accepted}
use Rattle.graph.proofs.Answers.{Holds, holds, is_done}
use Rattle.graph.proofs.Validity.{Accepts, accept_valid}
use Rattle.flat.specs.Flat.{Flat}
use Rattle.lines.specs.declared.call.Call.{Call as CallLine}
use Rattle.lines.specs.Inner.Answers.{form, other, call_read, CallRead}
use Rattle.lines.specs.Forms.{IsCall}
use Rattle.panel.specs.Returned.{answer_number}
use Rattle.valid.specs.Inner.Decoded.{session_of}
use Rattle.state.specs.Inner.State.{flat_in}
use Rattle.state.specs.Inner.ValidImage.{image_after, Serves}
use Rattle.state.proofs.Serving.{encode_shows}
use Rattle.calls.specs.Inner.Accepting.{named_in}
use Rattle.calls.proofs.Accepted.{named_back}
use Rattle.session.specs.Inner.Accepts.{Good, call_of}
use Rattle.host.specs.Entries.{ImageOf, served, Called, call_refused, call_served, Calls}
use Rattle.graph.proofs.Sequences.{calls_positive}
use Rattle.host.proofs.Entering.{unless_refused, unless_number}
use Rattle.host.proofs.Reading.{AnsweredBy, refused_by_tests, Passed, passed}

-- a call's value holds the call, and its targets
read_back : (f : Call) → (call_of (call_read f) ≡ f) × ((call_read f).to ≡ packed_targets (untouched (to_of f)))
read_back (add value) = (refl, refl)
read_back (map a b to) = (ap (λ (t : To). map a b t) (named_back to), refl)
read_back (link key to) = (ap (λ (t : To). link key t) (named_back to), refl)
read_back (unlink key to) = (ap (λ (t : To). unlink key t) (named_back to), refl)
read_back (sum start to) = (ap (λ (t : To). sum start t) (named_back to), refl)
read_back (top start to) = (ap (λ (t : To). top start t) (named_back to), refl)
read_back (pick start to) = (ap (λ (t : To). pick start t) (named_back to), refl)
read_back (near key start to) = (ap (λ (t : To). near key start t) (named_back to), refl)
read_back (unmap a b to) = (ap (λ (t : To). unmap a b t) (named_back to), refl)

answer_back : (x : Answer Call) → map_done call_of (map_done call_read x) ≡ x
answer_back (refused n) = refl
answer_back (done f) = ap done (read_back f).0

named_to : (c : CallLine) (to : To) → c.to ≡ packed_targets (untouched to) → c.to ≡ packed_targets (untouched (named_in c.to))
named_to c to e = e ∙ ap (λ (t : To). packed_targets (untouched t)) (sym (named_back to)) ∙ ap (λ (r : Remaining). packed_targets (untouched (named_in r))) (sym e)

answer_to : (c : CallLine) (x : Answer Call) → done c ≡ map_done call_read x → c.to ≡ packed_targets (untouched (named_in c.to))
answer_to c (refused n) e = absurd (true≢false (ap is_done e))
answer_to c (done f) e =
    let q : c ≡ call_read f = cc in
    named_to c (to_of f) (ap (λ (x : CallLine). x.to) q ∙ (read_back f).1)

-- what the form's own tests refuse is not accepted
form_refused : (f : Call) (s : Session) {n : ℕ} → unless (form_tests f) f ≡ refused n → accept f s ≡ refused n
form_refused f s q = unless_refused (form_tests f) (room_tests (is_add f) (room_of s)) f (accepted f s) q

-- what a line was read as, in the terms of the rules
answers : (line : List ℕ) (r : Result CallLine Refusal) → CallRead line r → AnsweredBy form_tests (IsCall line) (map_done call_of (answered (λ c. c) r))
answers line r (form f i e) = form f i (ap (map_done call_of) e ∙ answer_back (unless (form_tests f) f))
answers line r (other never e) = other never (ap (map_done call_of) e)

pub line_refused : (line image : List ℕ) (r : Refusal) → ImageOf image (session_of image) → CallRead line (Err r) → Calls image line (call_refused image (refusal_number r))
line_refused line image r h k =
    refused_by_tests form_tests (IsCall line) h (λ f m q. ap (call_served image) (form_refused f (session_of image) q)) (refusal_number r) (answers line (Err r) k)

-- a line that is not refused in reading is the text of the call that was read, whose form is good
module _ (line : List ℕ) (c : CallLine) (k : CallRead line (Ok c)) where
  read : Passed form_tests (IsCall line) (call_of c)
  read = passed form_tests (IsCall line) (call_of c) (answers line (Ok c) k)

  targets : c.to ≡ packed_targets (untouched (named_in c.to))
  targets = go k
    where
      go : CallRead line (Ok c) → c.to ≡ packed_targets (untouched (named_in c.to))
      go (form f i e) = answer_to c (unless (form_tests f) f) e
      go (other never e) = absurd (true≢false (ap is_done e))

  pub line_good : Good (call_of c) c.to
  line_good = record { form = read.fine; targets = targets }

  pub line_accepts : (image : List ℕ) (r : Called) → ImageOf image (session_of image) → r ≡ call_served image (accept (call_of c) (session_of image)) → Calls image line r
  line_accepts image r h q = served (session_of image) h (call_of c) read.text q

-- what the session does with it
module _ (image after : List ℕ) (f : Call) (n : ℕ) (s : Serves (accept f (session_of image)) image after n) where
  pub not_accepted : (n ≡ 0 → ⊥) → record { answer = answer_number (refused n); image = after } ≡ call_served image (accept f (session_of image))
  not_accepted ne = go (accept f (session_of image)) s.number s.image
    where
      go : (x : Answer Session) → n ≡ number_of x → after ≡ image_after x image → record { answer = answer_number (refused n); image = after } ≡ call_served image x
      go (refused m) e q = λ i. record { answer = answer_number (refused (e i)); image = q i }
      go (done u) e q = absurd (ne e)

  -- the label is the last that the session has given
  pub is_accepted : (last : ℕ) → ImageOf image (session_of image) → n ≡ 0 → last ≡ (flat_in after).last → record { answer = answer_number (done last); image = after } ≡ call_served image (accept f (session_of image))
  is_accepted last h z l = go (accept f (session_of image)) refl (accept_valid f (session_of image) h.valid) s.number s.image
    where
      go : (x : Answer Session) → accept f (session_of image) ≡ x → Holds (Accepts f (session_of image)) x → n ≡ number_of x → after ≡ image_after x image
          → record { answer = answer_number (done last); image = after } ≡ call_served image x
      go (refused m) d v e q = absurd (omega (arith, unless_number (call_tests f (session_of image)) _ (calls_positive f (session_of image)) d))
      go (done u) d (holds v) e q =
          let same : last ≡ u.last = l ∙ ap (λ (x : List ℕ). (flat_in x).last) q ∙ ap (λ (f : Flat). f.last) (encode_shows u v.valid).shows in
          λ i. record { answer = answer_number (done (same i)); image = q i }
