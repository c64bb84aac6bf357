-- What the parts of the readers answer: a field, the targets, a first word, and what follows it.
-- Assumes nothing.
use Rattle.std.specs.Prelude.{ℕ, ◌<◌, ◌≤◌, Bool, true, false, not, cond, ◌&&◌, List, [], ◌∷◌, ◌++◌, ◌≡◌, leb, length, take, drop, Option, Some, None, Result}
use Rattle.text.specs.Text.{ascii, decimal}
use Rattle.text.specs.Inner.PartsRead.{Gap}
use Rattle.graph.specs.KeyLists.{is_key, are_keys, rising}
use Rattle.graph.specs.Words.{modulus}
use Rattle.graph.specs.Affine.{is_odd}
use Rattle.graph.specs.declared.refusal.Refusal.{Refusal}
use Rattle.graph.specs.declared.remaining.Remaining.{Remaining}
use Rattle.graph.specs.Packed.{packed_targets}
use Rattle.graph.specs.Refusals.{Answer, refused, done, and_then}
use Rattle.graph.specs.Targets.{To, named, whole, keys_listed, untouched}
use Rattle.graph.specs.Steps.{admit, realise, move, finish, join, split, swap, fuse}
use Rattle.keylists.specs.Inner.ListsRead.{Below, KeysOf}
use Rattle.lines.specs.Forms.{targets, StepForm, work, drain_form}
use Rattle.lines.specs.Inner.Answers.{ReadAs, call_form, call_answer, call_answered, step_answered, step_answer}
use Rattle.lines.specs.declared.call.Call.{Call as Asked}
use Rattle.lines.specs.declared.call.CallKind.{CallKind}
use Rattle.lines.specs.declared.call.CallKind.TheVariants.{Add, Map, Link, Unlink, Sum, Top, Pick, Near, Unmap}
use Rattle.lines.specs.declared.fields.TargetsRead.{TargetsRead}
use Rattle.lines.specs.declared.fields.TargetsRead.TheVariants.{All, Listed}
use Rattle.lines.specs.declared.step.StepKind.{StepKind}
use Rattle.lines.specs.declared.step.StepKind.TheVariants.{Admit, Realise, Move, Finish, Join, Split, Swap, Fuse, Drain}
use Rattle.lines.specs.declared.step.StepRequest.{StepRequest}

-- ---- a field

-- `Some (v, n)`: the literal and v's decimal stand at `at`, and end at n, before a space or at the end
abbrev pub FieldOf : List ℕ → ℕ → List ℕ → Option (ℕ × ℕ) → Type 0
FieldOf s at literal (Some (v, n)) = (n ≤ length s) × (drop at s ≡ literal ++ (decimal v ++ drop n s)) × Gap 32 (drop n s)
FieldOf s at literal None = (v : ℕ) (x : List ℕ) → v < modulus → Gap 32 x → drop at s ≡ literal ++ (decimal v ++ x) → ⊥

-- the field of the first literal, where there is one: else 0, and the same place
abbrev pub FieldIf : List ℕ → ℕ → List (List ℕ) → Option (ℕ × ℕ) → Type 0
FieldIf s at [] (Some (v, n)) = (v ≡ 0) × (n ≡ at)
FieldIf s at [] None = ⊥
FieldIf s at (literal ∷ others) r = FieldOf s at literal r

-- ---- what follows a word

-- what ends a line: the targets, or nothing
abbrev pub tail_text : Bool → To → List ℕ
tail_text true to = targets to
tail_text false to = []

-- a line without targets has none
abbrev pub Tailed : Bool → To → Type 0
Tailed true to = Unit {0}
Tailed false to = to ≡ named []

-- what is known of the targets: those of a list by its numbers
abbrev pub ToRead : To → TargetsRead → Type 0
ToRead (named ts) (Listed k) = Below ts × KeysOf ts k
ToRead (named ts) All = ⊥
ToRead whole (Listed k) = ⊥
ToRead whole All = Unit {0}

-- `Some r`: the bytes are this tail of a line, of targets of which r is known. `None`: they are that of none
abbrev pub TailOf : Bool → List ℕ → Option TargetsRead → Type 0
TailOf listed l (Some r) = (to : To) × Tailed listed to × (l ≡ tail_text listed to) × ToRead to r
TailOf listed l None = (to : To) → Below (keys_listed to) → Tailed listed to → l ≡ tail_text listed to → ⊥

-- literals with a number after each, and the tail
abbrev pub fields_text : List (List ℕ) → Bool → ℕ → ℕ → ℕ → To → List ℕ
fields_text [] listed x y z to = tail_text listed to
fields_text (a ∷ others) listed x y z to = a ++ (decimal x ++ fields_text others listed y z 0 to)

-- the numbers beyond the literals are zero
abbrev pub Spare : List (List ℕ) → ℕ → ℕ → ℕ → Type 0
Spare [] x y z = (x ≡ 0) × (y ≡ 0) × (z ≡ 0)
Spare (a ∷ others) x y z = Spare others y z 0

-- the numbers in the line's order, and the targets
pub record Values : Type 0 where
  pub x : ℕ
  pub y : ℕ
  pub z : ℕ
  pub to : To

-- the bytes are the text of these 32-bit numbers and targets; what there is no literal for is zero, or empty
pub record ValuesOf (literals : List (List ℕ)) (listed : Bool) (l : List ℕ) (v : Values) : Type 0 where
  pub small : (v.x < modulus) × (v.y < modulus) × (v.z < modulus) × Below (keys_listed v.to)
  pub spare : Spare literals v.x v.y v.z
  pub tailed : Tailed listed v.to
  pub same : l ≡ fields_text literals listed v.x v.y v.z v.to

-- ---- calls

abbrev pub call_word : CallKind → List ℕ
call_word Add = ascii "add"
call_word Map = ascii "map"
call_word Link = ascii "link"
call_word Unlink = ascii "unlink"
call_word Sum = ascii "sum"
call_word Top = ascii "top"
call_word Pick = ascii "pick"
call_word Near = ascii "near"
call_word Unmap = ascii "unmap"

abbrev pub CallWordOf : List ℕ → Option CallKind → Type 0
CallWordOf word (Some kind) = word ≡ call_word kind
CallWordOf word None = (kind : CallKind) → word ≡ call_word kind → ⊥

abbrev pub call_literals : CallKind → List (List ℕ)
call_literals Add = ascii " value=" ∷ []
call_literals Map = ascii " a=" ∷ ascii " b=" ∷ []
call_literals Link = ascii " key=" ∷ []
call_literals Unlink = ascii " key=" ∷ []
call_literals Sum = ascii " start=" ∷ []
call_literals Top = ascii " start=" ∷ []
call_literals Pick = ascii " start=" ∷ []
call_literals Near = ascii " key=" ∷ ascii " start=" ∷ []
call_literals Unmap = ascii " a=" ∷ ascii " b=" ∷ []

-- the literal of its first number, and that of its second, if it has one
abbrev pub first_literals : CallKind → List (List ℕ)
first_literals kind = take 1 (call_literals kind)

abbrev pub second_literals : CallKind → List (List ℕ)
second_literals kind = drop 1 (call_literals kind)

abbrev pub call_listed : CallKind → Bool
call_listed Add = false
call_listed Map = true
call_listed Link = true
call_listed Unlink = true
call_listed Sum = true
call_listed Top = true
call_listed Pick = true
call_listed Near = true
call_listed Unmap = true

-- the bytes after a word of this kind are the text of some numbers and targets, and r answers their call; or of none, and r is 10
abbrev pub CallAfter : CallKind → List ℕ → Result Asked Refusal → Type 0
CallAfter kind l r =
    ReadAs (ValuesOf (call_literals kind) (call_listed kind) l) (λ v. call_answer (call_form kind v.x v.y v.to)) (refused 10) (call_answered r)

-- is the first number a key, where it is one's?
abbrev pub key_fits : CallKind → ℕ → Bool
key_fits Add x = true
key_fits Map x = true
key_fits Link x = is_key x
key_fits Unlink x = is_key x
key_fits Sum x = true
key_fits Top x = true
key_fits Pick x = true
key_fits Near x = is_key x
key_fits Unmap x = true

-- an unmap of an even a
abbrev pub lacks_inverse_of : CallKind → ℕ → Bool
lacks_inverse_of Add x = false
lacks_inverse_of Map x = false
lacks_inverse_of Link x = false
lacks_inverse_of Unlink x = false
lacks_inverse_of Sum x = false
lacks_inverse_of Top x = false
lacks_inverse_of Pick x = false
lacks_inverse_of Near x = false
lacks_inverse_of Unmap x = not (is_odd x)

-- the targets of a call just read, refused by 11, then 12
abbrev pub targets_named : To → Answer Remaining
targets_named to =
    cond (are_keys (keys_listed to))
    (cond (leb (length (keys_listed to)) 8 && rising (keys_listed to)) (done (packed_targets (untouched to))) (refused 12))
    (refused 11)

-- the answer to a call by its numbers and targets: 11, then 12, then 40, else the call
abbrev pub call_made : CallKind → ℕ → ℕ → To → Answer Asked
call_made kind x y to =
    cond (key_fits kind x)
    (and_then (targets_named to) (λ r. cond (lacks_inverse_of kind x) (refused 40) (done (record { kind = kind; x = x; y = y; to = r }))))
    (refused 11)

-- ---- steps

abbrev pub step_word : StepKind → List ℕ
step_word Admit = ascii "admit"
step_word Realise = ascii "realise"
step_word Move = ascii "move"
step_word Finish = ascii "finish"
step_word Join = ascii "join"
step_word Split = ascii "split"
step_word Swap = ascii "swap"
step_word Fuse = ascii "fuse"
step_word Drain = ascii "drain"

abbrev pub StepWordOf : List ℕ → Option StepKind → Type 0
StepWordOf word (Some kind) = word ≡ step_word kind
StepWordOf word None = (kind : StepKind) → word ≡ step_word kind → ⊥

abbrev pub step_literals : StepKind → List (List ℕ)
step_literals Admit = []
step_literals Realise = ascii " at=" ∷ []
step_literals Move = ascii " at=" ∷ []
step_literals Finish = ascii " at=" ∷ []
step_literals Join = ascii " at=" ∷ ascii " unit=" ∷ []
step_literals Split = ascii " at=" ∷ ascii " unit=" ∷ ascii " after=" ∷ []
step_literals Swap = ascii " at=" ∷ ascii " unit=" ∷ []
step_literals Fuse = ascii " at=" ∷ ascii " unit=" ∷ []
step_literals Drain = []

-- the step that a kind and the numbers in the line's order make
abbrev pub step_form : StepKind → ℕ → ℕ → ℕ → StepForm
step_form Admit x y z = work admit
step_form Realise x y z = work (realise x)
step_form Move x y z = work (move x)
step_form Finish x y z = work (finish x)
step_form Join x y z = work (join x y)
step_form Split x y z = work (split x y z)
step_form Swap x y z = work (swap x y)
step_form Fuse x y z = work (fuse x y)
step_form Drain x y z = drain_form

-- the bytes after a word of this kind are the text of some numbers, and r answers their step; or of none, and r is 10
abbrev pub StepAfter : StepKind → List ℕ → Result StepRequest Refusal → Type 0
StepAfter kind l r = ReadAs (ValuesOf (step_literals kind) false l) (λ v. step_answer (step_form kind v.x v.y v.z)) (refused 10) (step_answered r)
