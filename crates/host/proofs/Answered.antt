-- Every input has an answer: for every image, line, tally and output there is what the function gives and leaves.
-- Assumes nothing.
use mathlib.Core.Path.{◌≡◌, refl}
use Prim.Native.Nat.{ℕ}
use mathlib.Core.Bool.{Bool, true, false}
use mathlib.Core.List.{List}
use lib.Dec.{eqb}
use lib.ListN.{length}
use borrow.Author.Tests.{eqb-true, eqb-false}
use Rattle.graph.specs.Acceptance.{accept, claim}
use Rattle.graph.specs.Sessions.{Session}
use Rattle.lines.proofs.Decided.{Decided, one, none, call_decided, step_decided, claim_decided}
use Rattle.panel.specs.declared.tally.Tally.{Tally}
use Rattle.host.specs.Entries.{ImageOf, Enters, other_length, other_bytes, other_line, served, Called, call_refused, call_served, Calls, Stepped, step_refused, step_made, Steps, ClaimMade, claim_refused, claim_served, Claims, Listed, list_refused, list_served, Lists}
use Rattle.host.proofs.Decided.{image_decided}

module _ {F R : Type 0} (image : List ℕ) {Is : F → Type 0} (refuse : ℕ → R) (serve : Session → F → R) (d : Decided Is) where
  by_session : length image ≡ 4112 → Decided (ImageOf image) → Decided Is → (r : R) × Enters image Is refuse serve r
  by_session l (none n) e = (refuse 2, other_bytes l n refl)
  by_session l (one s i) (none n) = (refuse 10, other_line s i n refl)
  by_session l (one s i) (one f h) = (serve s f, served s i f h refl)

  by_length : (b : Bool) → eqb (length image) 4112 ≡ b → (r : R) × Enters image Is refuse serve r
  by_length true e = by_session (eqb-true (length image) 4112 e) (image_decided image) d
  by_length false e = (refuse 1, other_length (eqb-false (length image) 4112 e) refl)

  answered : (r : R) × Enters image Is refuse serve r
  answered = by_length (eqb (length image) 4112) refl

-- AN ANSWER
pub call_answered : (image line : List ℕ) → (r : Called) × Calls image line r
call_answered image line = answered image (call_refused image) (λ s f. call_served image (accept f s)) (call_decided line)

pub step_answered_law : (image line : List ℕ) (t : Tally) → (r : Stepped) × Steps image line t r
step_answered_law image line t = answered image (step_refused image t) (step_made image t) (step_decided line)

pub claim_answered_law : (image line out : List ℕ) → (r : ClaimMade) × Claims image line out r
claim_answered_law image line out = answered image (claim_refused image out) (λ s l. claim_served image out s (claim l s)) (claim_decided line)

pub list_answered : (image out : List ℕ) → (r : Listed) × Lists image out r
list_answered image out = answered image (list_refused out) (λ s f. list_served out s) (one tt tt)
