-- The refusals of each entry as a sequence of tests, of which the first that applies answers: document 01, "The lowest number that
-- applies is given", with one exception, 40 (S-6). Before them stand 1, 2 and, where there is a line, 10 (Entries.antt, `Enters`).
-- Assumes nothing.
use Rattle.std.specs.Prelude.{ℕ, Bool, false, not, List, [], ◌∷◌, ◌++◌, leb, ℤ, length}
use Rattle.std.proofs.Math.Option.{Option, none, some}
use Rattle.graph.specs.Refusals.{Test, on}
use Rattle.graph.specs.Calls.{Call}
use Rattle.graph.specs.Nodes.{Result}
use Rattle.graph.specs.Sessions.{Session}
use Rattle.graph.specs.Allowed.{step_tests}
use Rattle.graph.specs.Acceptance.{call_tests, accept, claim}
use Rattle.graph.specs.RefusalOrder.{claim_tests}
use Rattle.graph.specs.Counts.{result_of_label}
use Rattle.lines.specs.Forms.{StepForm, work, drain_form, step_form_tests}
use Rattle.print.specs.Printed.{result_text}
use Rattle.panel.specs.declared.tally.Tally.{Tally}
use Rattle.listing.specs.Listed.{listing_of}
use Rattle.host.specs.Entries.{call_served, step_made, claim_served, list_served}

-- what an entry is asked, with what it is lent beside the image
pub data Asked : Type 0 where
  calling : Call → Asked
  stepping : StepForm → Tally → Asked
  claiming : (label : ℕ) (out : List ℕ) → Asked
  listing : (out : List ℕ) → Asked

-- "33 output shorter than the result line .. with newlines"
abbrev pub is_short : List ℕ → Option Result → Bool
is_short out none = false
is_short out (some r) = not (leb (length (result_text r)) (length out))

-- "33 output shorter than the .. listing with newlines"
abbrev pub list_tests : Session → List ℕ → List Test
list_tests s out = on (not (leb (length (listing_of s)) (length out))) 33 ∷ []

-- calls 10, 11, 12, 40, 13, 14, 15; steps 11, 20, 21, 22, and drain none; claims 30 to 33; the listing 33
abbrev pub tests_of : Asked → Session → List Test
tests_of (calling f) s = call_tests f s
tests_of (stepping (work w) t) s = step_form_tests (work w) ++ step_tests w s
tests_of (stepping drain_form t) s = []
tests_of (claiming l out) s = claim_tests l s ++ (on (is_short out (result_of_label l s.results)) 33 ∷ [])
tests_of (listing out) s = list_tests s out

-- the last number that stands before them. A call's form is tested for 10 once more (`form_tests`), which no line fails
abbrev pub number_before : Asked → ℕ
number_before (calling f) = 2
number_before (stepping f t) = 10
number_before (claiming l out) = 10
number_before (listing out) = 2

-- the entry's answer, where the image holds the session
abbrev pub answer_to : Asked → List ℕ → Session → ℤ
answer_to (calling f) image s = (call_served image (accept f s)).answer
answer_to (stepping f t) image s = (step_made image t s f).answer
answer_to (claiming l out) image s = (claim_served image out s (claim l s)).answer
answer_to (listing out) image s = (list_served out s).answer
