-- What the program does with one line: document 01, section 'Host, panel and program'. It is a host, so a line's step is what
-- one of the host's functions gives and leaves, and what is printed goes by the answer.
-- Assumes nothing.
use Rattle.std.specs.Prelude.{ℕ, suc, ◌≤◌, ◌≡◌, true, false, List, [], ℤ, pos, negsuc, length, take}
use Rattle.text.specs.Text.{ascii, starts_with}
use Rattle.print.specs.Printed.{refusal_text}
use Rattle.panel.specs.declared.tally.Tally.{Tally}
use Rattle.host.specs.Entries.{Called, Calls, Stepped, Steps, ClaimMade, Claims}

-- the written length that an answer is, or 0
abbrev pub length_in : ℤ → ℕ
length_in (pos k) = k
length_in (negsuc k) = 0

-- what is printed of a line, by its number and the answer: the text where it is served, else "`line=3 refused=12`"
abbrev pub answer_text : ℕ → ℤ → List ℕ → List ℕ
answer_text n (pos k) text = text
answer_text n (negsuc k) text = refusal_text n (suc k)

-- the line, with its number n, makes the image `after` of the image and prints the text: "claims as result lines", of which
-- the answer is the length. The output that a claim is lent has room for every result line, so that none is refused for it.
pub data Line (image line : List ℕ) (n : ℕ) (after text : List ℕ) : Type 0 where
  as_step :
      starts_with (ascii "step=") line ≡ true
      → (t : Tally) (r : Stepped)
      → Steps image line t r
      → r.image ≡ after
      → answer_text n r.answer [] ≡ text
      → Line image line n after text
  as_claim :
      starts_with (ascii "claim=") line ≡ true
      → (out : List ℕ)
      → 128 ≤ length out
      → (r : ClaimMade)
      → Claims image line out r
      → r.image ≡ after
      → answer_text n r.answer (take (length_in r.answer) r.output) ≡ text
      → Line image line n after text
  as_call :
      starts_with (ascii "step=") line ≡ false
      → starts_with (ascii "claim=") line ≡ false
      → (r : Called)
      → Calls image line r
      → r.image ≡ after
      → answer_text n r.answer [] ≡ text
      → Line image line n after text
