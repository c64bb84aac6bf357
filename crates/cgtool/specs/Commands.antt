-- What the program `cgtool` is to print and to end with, for all arguments and for all that is read (S-14, S-1): proved of `asked_for`
-- (src/commands.rt) and `answer` (src/answers.rt). That the program hands them its arguments and what it reads, prints what they give and
-- ends with its status is tested (docs/PROMISES.md, 'What is assumed').
-- Assumes nothing.
use Rattle.std.specs.Prelude.{ℕ, ◌⊎◌, ◌≡◌, true, List, [], ◌∷◌, ◌++◌, ltb, ℤ, pos}
use Rattle.graph.specs.Refusals.{Answer, refused, done, on, unless}
use Rattle.graph.specs.Words.{are_words}
use Rattle.graph.specs.Nodes.{Node}
use Rattle.graph.specs.Sessions.{graph_of}
use Rattle.text.specs.Text.{ascii, decimal, texts}
use Rattle.print.specs.Printed.{numbered, newline, node_text}
use Rattle.load.specs.Load.{load_text}
use Rattle.pagelines.specs.Page.{page_text, PageOf}
use Rattle.host.specs.Entries.{Enters}

-- what is printed on standard output, and the status, if standard output takes all of it; else the status is 1
pub record Ended : Type 0 where
  pub printed : List ℕ
  pub status : ℕ

-- wrong arguments: the usage is printed on standard error, and nothing here
abbrev pub wrong : Ended
wrong = record { printed = []; status = 2 }

-- of a refusal its number is printed, `refused=46`, and the status is 1; else the text is printed, and the status is 0
abbrev pub said : Answer (List ℕ) → Ended
said (refused n) = record { printed = numbered (ascii "refused=") n ++ newline; status = 1 }
said (done text) = record { printed = text; status = 0 }

-- ---- what can be asked for

-- how many arguments the program is given, its own name among them, and the first three after the name; of these, one that is
-- missing or longer than 16 bytes counts as empty
pub record Arguments : Type 0 where
  pub given : ℕ
  pub verb : List ℕ
  pub first : List ℕ
  pub second : List ℕ

pub data Command : Type 0 where
  load : (seed count : ℕ) → Command
  page : Command
  nodes : Command

-- the arguments are those of the command: `cgtool load SEED COUNT`, two 32-bit numbers; `cgtool page` and `cgtool nodes`, which read
-- standard input, and no argument after the verb
abbrev pub IsCommand : Arguments → Command → Type 0
IsCommand a (load seed count) =
    (are_words (seed ∷ count ∷ []) ≡ true)
    × (a ≡ record { given = 4; verb = ascii "load"; first = decimal seed; second = decimal count })
IsCommand a page = (a.given ≡ 2) × (a.verb ≡ ascii "page")
IsCommand a nodes = (a.given ≡ 2) × (a.verb ≡ ascii "nodes")

-- ---- what is answered

-- "It refuses with 46 a count above 64" (S-14); never with 47, since the program has room for the lines
abbrev pub load_answer : (seed count : ℕ) → Answer (List ℕ)
load_answer seed count = unless (on (ltb 64 count) 46 ∷ []) (load_text seed count)

-- the page of the session whose image this is: "a line for each node in station order" (S-1); 1 and 2 where it is no session's image;
-- never 34, since the program has room for any page
abbrev pub PageAnswer : (image : List ℕ) → Answer (List ℕ) → Type 0
PageAnswer image x = Enters image (λ (f : Unit {0}). Unit {0}) refused (λ s f. done (page_text (graph_of s.stations))) x

-- "A page reads back as the listing's `key=` lines for the same nodes", and it refuses "with 35 any other page" (S-1); never with 34,
-- since the program has room for the lines of any page
pub data NodesAnswer (text : List ℕ) (x : Answer (List ℕ)) : Type 0 where
  of_page : (ns : List Node) → PageOf text ns → x ≡ done (texts node_text ns) → NodesAnswer text x
  no_page : ((ns : List Node) → PageOf text ns → ⊥) → x ≡ refused 35 → NodesAnswer text x

-- the answer to a command. What is lent is, for `page`, the image that the script on standard input leaves; for `nodes`, what was read of
-- standard input; for `load`, which reads nothing, nothing
abbrev pub AnswerTo : Command → (lent : List ℕ) → Answer (List ℕ) → Type 0
AnswerTo (load seed count) lent x = x ≡ load_answer seed count
AnswerTo page lent x = PageAnswer lent x
AnswerTo nodes lent x = NodesAnswer lent x

-- given these arguments, and lent these bytes, the program ends so
pub data Ends (a : Arguments) (lent : List ℕ) (r : Ended) : Type 0 where
  of_command : (c : Command) → IsCommand a c → (x : Answer (List ℕ)) → AnswerTo c lent x → r ≡ said x → Ends a lent r
  other_arguments : ((c : Command) → IsCommand a c → ⊥) → r ≡ wrong → Ends a lent r

-- the program ends with 0, 1 or 2
abbrev pub Status : ℤ → Type 0
Status r = (r ≡ pos 0) ⊎ ((r ≡ pos 1) ⊎ (r ≡ pos 2))
