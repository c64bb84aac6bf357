-- What the host's functions give and leave, for every image, line, tally and output, served or refused: document 01, sections
-- 'Host, panel and program' and 'Who can be turned down, and why'.
-- Assumes nothing.
use Rattle.std.specs.Prelude.{ℕ, ◌≡◌, cond, List, [], ◌∷◌, eqb, leb, ℤ, length}
use Rattle.graph.specs.Refusals.{Answer, refused, done, and_then, unless}
use Rattle.graph.specs.Sessions.{Session, fresh}
use Rattle.graph.specs.Steps.{Step, step}
use Rattle.graph.specs.Acceptance.{accept, Claimed, claim, keeping}
use Rattle.graph.specs.Drain.{drain}
use Rattle.graph.specs.Valid.{Valid}
use Rattle.text.specs.Text.{pasted}
use Rattle.lines.specs.Forms.{StepForm, work, drain_form, IsCall, IsStep, IsClaim, step_form_tests}
use Rattle.print.specs.Printed.{result_text}
use Rattle.panel.specs.declared.tally.Tally.{Tally}
use Rattle.panel.specs.Returned.{answer_number}
use Rattle.panel.specs.Tally.{counted}
use Rattle.valid.specs.Values.{encode}
use Rattle.listing.specs.Listed.{listing_of}

-- the bytes are the image of the session
pub record ImageOf (image : List ℕ) (s : Session) : Type 0 where
  pub valid : Valid s
  pub same : encode s ≡ image

-- r is what a function gives and leaves: "1 image of another length; 2 .. bytes that are not the image of such a session"; 10
-- where the line is the text of none of the function's forms; else what the session makes of the form
pub data Enters {F R : Type 0} (image : List ℕ) (Is : F → Type 0) (refuse : ℕ → R) (serve : Session → F → R) (r : R) : Type 0 where
  other_length : (length image ≡ 4112 → ⊥) → r ≡ refuse 1 → Enters image Is refuse serve r
  other_bytes : length image ≡ 4112 → ((s : Session) → ImageOf image s → ⊥) → r ≡ refuse 2 → Enters image Is refuse serve r
  other_line : (s : Session) → ImageOf image s → ((f : F) → Is f → ⊥) → r ≡ refuse 10 → Enters image Is refuse serve r
  served : (s : Session) → ImageOf image s → (f : F) → Is f → r ≡ serve s f → Enters image Is refuse serve r

-- ---- opening, and calls: an answer and an image

pub record Called : Type 0 where
  pub answer : ℤ
  pub image : List ℕ

-- a refusal leaves the image as it was
abbrev pub call_refused : List ℕ → ℕ → Called
call_refused image n = record { answer = answer_number (refused n); image = image }

-- "Opening writes the fresh one"; it tests the length only
abbrev pub opened : List ℕ → Called
opened image = cond (eqb (length image) 4112) (record { answer = answer_number (done 0); image = encode fresh }) (call_refused image 1)

-- "Acceptance returns the label for a call"
abbrev pub call_served : List ℕ → Answer Session → Called
call_served image (refused n) = call_refused image n
call_served image (done s) = record { answer = answer_number (done s.last); image = encode s }

abbrev pub Calls : (image line : List ℕ) → Called → Type 0
Calls image line r = Enters image (IsCall line) (call_refused image) (λ s f. call_served image (accept f s)) r

-- ---- steps: an answer, an image and a tally

pub record Stepped : Type 0 where
  pub answer : ℤ
  pub image : List ℕ
  pub tally : Tally

abbrev pub step_refused : List ℕ → Tally → ℕ → Stepped
step_refused image t n = record { answer = answer_number (refused n); image = image; tally = t }

-- 0, and the steps that were taken are counted
abbrev pub step_served : List ℕ → Tally → List Step → Answer Session → Stepped
step_served image t took (refused n) = step_refused image t n
step_served image t took (done s) = record { answer = answer_number (done 0); image = encode s; tally = counted t took }

-- a work step, after the tests of its form; or drain, which "counts the steps it takes"
abbrev pub step_made : List ℕ → Tally → Session → StepForm → Stepped
step_made image t s (work w) = step_served image t (w ∷ []) (and_then (unless (step_form_tests (work w)) s) (step w))
step_made image t s drain_form = step_served image t (drain s).took (done (drain s).end)

abbrev pub Steps : (image line : List ℕ) → Tally → Stepped → Type 0
Steps image line t r = Enters image (IsStep line) (step_refused image t) (step_made image t) r

-- ---- claims: an answer, an image and an output

pub record ClaimMade : Type 0 where
  pub answer : ℤ
  pub image : List ℕ
  pub output : List ℕ

abbrev pub claim_refused : List ℕ → List ℕ → ℕ → ClaimMade
claim_refused image out n = record { answer = answer_number (refused n); image = image; output = out }

-- the result's line is written at the start of the output, its length is given, and the session holds the result no more.
-- "Bytes after a written line stay."
abbrev pub claim_written : List ℕ → Session → Claimed → ClaimMade
claim_written out s c =
    record {
      answer = answer_number (done (length (result_text c.result)));
      image = encode (keeping s c.others);
      output = pasted out 0 (result_text c.result);
    }

-- "33 output shorter than the result line .. with newlines"
abbrev pub claim_served : List ℕ → List ℕ → Session → Answer Claimed → ClaimMade
claim_served image out s (refused n) = claim_refused image out n
claim_served image out s (done c) =
    cond (leb (length (result_text c.result)) (length out))
    (claim_written out s c)
    (claim_refused image out 33)

abbrev pub Claims : (image line out : List ℕ) → ClaimMade → Type 0
Claims image line out r = Enters image (IsClaim line) (claim_refused image out) (λ s l. claim_served image out s (claim l s)) r

-- ---- the listing: an answer and an output

pub record Listed : Type 0 where
  pub answer : ℤ
  pub output : List ℕ

abbrev pub list_refused : List ℕ → ℕ → Listed
list_refused out n = record { answer = answer_number (refused n); output = out }

-- "33 output shorter than the .. listing with newlines"
abbrev pub list_served : List ℕ → Session → Listed
list_served out s =
    cond (leb (length (listing_of s)) (length out))
    (record { answer = answer_number (done (length (listing_of s))); output = pasted out 0 (listing_of s) })
    (list_refused out 33)

-- there is no line, and so one form
abbrev pub Lists : (image out : List ℕ) → Listed → Type 0
Lists image out r = Enters image (λ (f : Unit {0}). Unit {0}) (list_refused out) (λ s f. list_served out s) r
