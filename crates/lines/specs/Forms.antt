-- The forms of call, step and claim lines, with any numbers and any targets, their texts (docs/RULES.md), and when a line is the text
-- of one.
-- Assumes nothing.
use Rattle.std.specs.Prelude.{ℕ, ◌<◌, List, [], ◌∷◌, ◌++◌, true, not, ◌≡◌, length, drop}
use Prim.Native.String.{String}
use Rattle.graph.specs.Calls.{Call, add, map, link, unlink, sum, top, pick, near, unmap, numbers_of, operands_of, listed_of}
use Rattle.graph.specs.Targets.{To, named, whole}
use Rattle.graph.specs.Steps.{Step, admit, realise, move, finish, join, split, swap, fuse}
use Rattle.text.specs.Text.{ascii, decimal, commas, up_to}
use Rattle.graph.specs.Words.{are_words}
use Rattle.graph.specs.KeyLists.{are_keys}
use Rattle.graph.specs.Refusals.{Test, on}

-- a literal, a number, and the rest of the line
abbrev pub field : String → ℕ → List ℕ → List ℕ
field literal v rest = ascii literal ++ (decimal v ++ rest)

-- "`to=all` is accepted for every call that has targets" (S-3): exactly `all`, in the place of the list
abbrev pub to_text : To → List ℕ
to_text (named ts) = commas ts
to_text whole = ascii "all"

abbrev pub targets : To → List ℕ
targets to = ascii " to=" ++ to_text to

-- ---- calls

abbrev pub call_text : Call → List ℕ
call_text (add value) = field "call=add value=" value []
call_text (map a b to) = field "call=map a=" a (field " b=" b (targets to))
call_text (link key to) = field "call=link key=" key (targets to)
call_text (unlink key to) = field "call=unlink key=" key (targets to)
call_text (sum start to) = field "call=sum start=" start (targets to)
call_text (top start to) = field "call=top start=" start (targets to)
call_text (pick start to) = field "call=pick start=" start (targets to)
call_text (near key start to) = field "call=near key=" key (field " start=" start (targets to))
call_text (unmap a b to) = field "call=unmap a=" a (field " b=" b (targets to))

-- every number of the line
abbrev pub call_numbers : Call → List ℕ
call_numbers f = numbers_of f ++ (operands_of f ++ listed_of f)

-- ---- steps

-- a work step, or the shorthand
pub data StepForm : Type 0 where
  work : Step → StepForm
  drain_form : StepForm

abbrev pub step_text : StepForm → List ℕ
step_text (work admit) = ascii "step=admit"
step_text (work (realise at)) = field "step=realise at=" at []
step_text (work (move at)) = field "step=move at=" at []
step_text (work (finish at)) = field "step=finish at=" at []
step_text (work (join at unit)) = field "step=join at=" at (field " unit=" unit [])
step_text (work (split at unit after)) = field "step=split at=" at (field " unit=" unit (field " after=" after []))
step_text (work (swap at unit)) = field "step=swap at=" at (field " unit=" unit [])
step_text (work (fuse at unit)) = field "step=fuse at=" at (field " unit=" unit [])
step_text drain_form = ascii "step=drain"

-- every number of the line
abbrev pub step_numbers : StepForm → List ℕ
step_numbers (work admit) = []
step_numbers (work (realise at)) = at ∷ []
step_numbers (work (move at)) = at ∷ []
step_numbers (work (finish at)) = at ∷ []
step_numbers (work (join at unit)) = at ∷ unit ∷ []
step_numbers (work (split at unit after)) = at ∷ unit ∷ after ∷ []
step_numbers (work (swap at unit)) = at ∷ unit ∷ []
step_numbers (work (fuse at unit)) = at ∷ unit ∷ []
step_numbers drain_form = []

-- the number in `at=`
abbrev pub step_keys : StepForm → List ℕ
step_keys (work admit) = []
step_keys (work (realise at)) = at ∷ []
step_keys (work (move at)) = at ∷ []
step_keys (work (finish at)) = at ∷ []
step_keys (work (join at unit)) = at ∷ []
step_keys (work (split at unit after)) = at ∷ []
step_keys (work (swap at unit)) = at ∷ []
step_keys (work (fuse at unit)) = at ∷ []
step_keys drain_form = []

-- ---- claims: the form is the label

abbrev pub claim_text : ℕ → List ℕ
claim_text label = field "claim=" label []

abbrev pub claim_numbers : ℕ → List ℕ
claim_numbers label = label ∷ []

-- ---- lines

-- the line at a place of a frame buffer: to the next newline or the end; past the end it is empty
abbrev pub line_at : List ℕ → ℕ → List ℕ
line_at frame at = up_to 10 (drop at frame)

-- the line is the text of the form f, whose numbers are 32-bit numbers, and has at most 255 bytes
pub record TextOf {F : Type 0} (text numbers : F → List ℕ) (line : List ℕ) (f : F) : Type 0 where
  pub short : length line < 256
  pub fits : are_words (numbers f) ≡ true
  pub same : line ≡ text f

abbrev pub IsCall : List ℕ → Call → Type 0
IsCall line f = TextOf call_text call_numbers line f

-- 11: "a key outside 1 to 64 in `at=`"
abbrev pub step_form_tests : StepForm → List Test
step_form_tests f = on (not (are_keys (step_keys f))) 11 ∷ []

abbrev pub IsStep : List ℕ → StepForm → Type 0
IsStep line f = TextOf step_text step_numbers line f

abbrev pub IsClaim : List ℕ → ℕ → Type 0
IsClaim line label = TextOf claim_text claim_numbers line label
