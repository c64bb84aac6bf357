-- A claim line: refused in reading, or the claim that the session is asked for; and the result's line, where there is room.
-- Assumes nothing.
use mathlib.Core.Path.{◌≡◌, sym, ap, ◌∙◌}
use Prim.Native.Nat.{ℕ, ◌≤◌, ◌<◌}
use native.Mathlib.Omega.{arith}
use mathlib.Core.Bool.{Bool, true, false, cond, true≢false}
use mathlib.Core.List.{List, []}
use lib.Dec.{leb}
use lib.ListN.{length, get_or}
use borrow.Author.Tests.{le-leb, lt-leb}
use Rattle.graph.specs.Nodes.{Result}
use Rattle.graph.specs.Refusals.{Answer, done}
use Rattle.graph.specs.Acceptance.{Claimed, claim, keeping}
use Rattle.graph.proofs.Answers.{is_done}
use Rattle.text.specs.Text.{pasted}
use Rattle.text.specs.Inner.Put.{TextPut}
use Rattle.std.specs.Prelude.{Ok, Err}
use Rattle.graph.specs.Refused.{refusal_number}
use Rattle.graph.specs.declared.refusal.Refusal.{Refusal}
use Rattle.lines.specs.Forms.{IsClaim}
use Rattle.lines.specs.Inner.Answers.{ClaimRead}
use Rattle.print.specs.Printed.{result_text}
use Rattle.print.specs.Inner.Values.{result_by_value}
use Rattle.print.specs.Inner.Lengths.{LineLength}
use Rattle.panel.specs.Returned.{answer_number}
use Rattle.valid.specs.Values.{encode}
use Rattle.valid.specs.Inner.Decoded.{session_of}
use Rattle.state.specs.declared.results.CallResult.{CallResult}
use Rattle.state.specs.Inner.State.{flat_in}
use Rattle.state.specs.Inner.Results.{IsCallResult, no_result, taken_at}
use Rattle.host.specs.Entries.{ImageOf, served, ClaimMade, claim_refused, claim_written, claim_served, Claims}
use Rattle.host.proofs.Reading.{refused_by_tests, passed}

-- the text of what was found
result_is : (x : Result) (o : CallResult) → IsCallResult x o → result_by_value o.label o.value o.left ≡ x
result_is x o h = λ i. record { label = h.label i; value = h.value i; left = h.left.is i }

module _ (image line out : List ℕ) (h : ImageOf image (session_of image)) where
  -- a claim's form has no tests of its own
  pub line_refused : (r : Refusal) → ClaimRead line (Err r) → Claims image line out (claim_refused image out (refusal_number r))
  line_refused r k = refused_by_tests (λ l. []) (IsClaim line) h (λ l m q. absurd (true≢false (ap is_done q))) (refusal_number r) k

  pub line_claims : (l : ℕ) (r : ClaimMade) → ClaimRead line (Ok l) → r ≡ claim_served image out (session_of image) (claim l (session_of image)) → Claims image line out r
  line_claims l r k e = served (session_of image) h l (passed (λ l. []) (IsClaim line) l k).text e

-- what is done with what the session makes of a claim
pub claim_served_law : (image out : List ℕ) (l : ℕ) {x : Answer Claimed} → claim l (session_of image) ≡ x → {r : ClaimMade} → claim_served image out (session_of image) x ≡ r
    → r ≡ claim_served image out (session_of image) (claim l (session_of image))
claim_served_law image out l e q = sym (ap (claim_served image out (session_of image)) e ∙ q)

-- the result at p is o
module _ (image out : List ℕ) (p : ℕ) (o : CallResult) (is : IsCallResult (get_or (flat_in image).results p no_result) o) where
  abbrev taken : Claimed
  taken = taken_at p (flat_in image).results

  text : result_text (result_by_value o.label o.value o.left) ≡ result_text taken.result
  text = ap result_text (result_is taken.result o is)

  module _ (n : ℕ) (m : LineLength (result_text (result_by_value o.label o.value o.left)) n) where
    size : n ≡ length (result_text taken.result)
    size = m.text ∙ ap length text

    -- by whether the line has room
    by_room : (b : Bool) → leb (length (result_text taken.result)) (length out) ≡ b → claim_served image out (session_of image) (done taken) ≡ cond b (claim_written out (session_of image) taken) (claim_refused image out 33)
    by_room b e = ap (λ (x : Bool). cond x (claim_written out (session_of image) taken) (claim_refused image out 33)) e

    pub no_room : length out < n → claim_served image out (session_of image) (done taken) ≡ claim_refused image out 33
    no_room short = by_room false (lt-leb (length (result_text taken.result)) (length out) (omega (arith, size)))

    pub is_claimed : (after output : List ℕ) (end : ℕ) → n ≤ length out → TextPut out 0 (result_text (result_by_value o.label o.value o.left)) output end
        → after ≡ encode (keeping (session_of image) taken.others) → claim_served image out (session_of image) (done taken) ≡ record { answer = answer_number (done n); image = after; output = output }
    is_claimed after output end room w e =
        by_room true (le-leb (length (result_text taken.result)) (length out) (omega (arith, size)))
        ∙ sym (λ i. record { answer = answer_number (done (size i)); image = e i; output = (w.bytes ∙ ap (pasted out 0) text) i })
