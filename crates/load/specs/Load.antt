-- S-14, 'A load anyone can repeat': call lines drawn from a seed.
-- Assumes nothing.
use Rattle.std.specs.Prelude.{ℕ, zero, suc, ◌%◌, ◌/◌, cond, List, [], ◌∷◌, ◌++◌, get_or}
use Rattle.graph.specs.Affine.{mul_add}
use Rattle.graph.specs.KeyLists.{contains}
use Rattle.graph.specs.Targets.{To, named}
use Rattle.graph.specs.Calls.{Call, add, map, link, unlink, sum, top, pick, near}
use Rattle.text.specs.Text.{texts}
use Rattle.lines.specs.Forms.{call_text}
use Rattle.print.specs.Printed.{newline}
use Rattle.load.specs.declared.kind.Kind.{Kind}
use Rattle.load.specs.declared.kind.Kind.TheVariants.{Add, Map, Link, Unlink, Sum, Top, Pick, Near}

-- ---- states and draws

-- "each state is 1,664,525 × the last + 1,013,904,223, modulo 4,294,967,296"
unfoldable pub next : ℕ → ℕ
next s = mul_add 1664525 s 1013904223

-- "a draw is the state divided by 65,536, remainder dropped"
unfoldable pub draw : ℕ → ℕ
draw s = s / 65536

-- the state that so many draws leave
abbrev pub after : ℕ → ℕ → ℕ
after zero s = s
after (suc n) s = after n (next s)

-- the n-th draw from a state on, counted from 1: from the seed, the first is that of the next state
abbrev pub drawn : ℕ → ℕ → ℕ
drawn n s = draw (after n s)

-- ---- fields: "a number is a draw"

-- "a key 1 + a draw modulo 64"
abbrev pub key_of : ℕ → ℕ
key_of d = suc (d % 64)

-- the key that the n-th draw gives
abbrev pub key_drawn : ℕ → ℕ → ℕ
key_drawn n s = key_of (drawn n s)

-- so many keys, as they are drawn
abbrev pub keys_drawn : ℕ → ℕ → List ℕ
keys_drawn zero s = []
keys_drawn (suc n) s = key_drawn 1 s ∷ keys_drawn n (next s)

-- of so many keys, from k on, those that were drawn
unfoldable pub kept_from : (many k : ℕ) → List ℕ → List ℕ
kept_from zero k ks = []
kept_from (suc many) k ks = cond (contains k ks) (k ∷ kept_from many (suc k) ks) (kept_from many (suc k) ks)

-- "sorted, repeats dropped": of the keys 1 to 64, in this order, those that were drawn
unfoldable pub sorted : List ℕ → List ℕ
sorted ks = kept_from 64 1 ks

-- "a draw modulo 9"
abbrev pub list_length : ℕ → ℕ
list_length s = drawn 1 s % 9

-- "a target list a draw modulo 9 followed by that many keys, sorted, repeats dropped"
abbrev pub targets_drawn : ℕ → List ℕ
targets_drawn s = sorted (keys_drawn (list_length s) (next s))

-- ---- lines

-- a call, and the state that its draws leave
pub record MadeCall : Type 0 where
  pub call : Call
  pub state : ℕ

-- a call whose targets are drawn from this state on
abbrev pub with_targets : (To → Call) → ℕ → MadeCall
with_targets call s = record { call = call (named (targets_drawn s)); state = after (list_length s) (next s) }

-- "A draw modulo 8 picks the call in document 01's order from add." The list has a place for each remainder, so `get_or` never gives its
-- last argument
abbrev pub kind_of : ℕ → Kind
kind_of n = get_or (Add ∷ Map ∷ Link ∷ Unlink ∷ Sum ∷ Top ∷ Pick ∷ Near ∷ []) (n % 8) Add

-- "Fields follow in line order": from the state before a line on, the first draw picks the call, so the fields begin with the second
abbrev pub call_of : Kind → ℕ → MadeCall
call_of Add s = record { call = add (drawn 2 s); state = after 2 s }
call_of Map s = with_targets (map (drawn 2 s) (drawn 3 s)) (after 3 s)
call_of Link s = with_targets (link (key_drawn 2 s)) (after 2 s)
call_of Unlink s = with_targets (unlink (key_drawn 2 s)) (after 2 s)
call_of Sum s = with_targets (sum (drawn 2 s)) (after 2 s)
call_of Top s = with_targets (top (drawn 2 s)) (after 2 s)
call_of Pick s = with_targets (pick (drawn 2 s)) (after 2 s)
call_of Near s = with_targets (near (key_drawn 2 s) (drawn 3 s)) (after 3 s)

-- the call that is drawn from a state on
abbrev pub call_drawn : ℕ → MadeCall
call_drawn s = call_of (kind_of (drawn 1 s)) s

-- "the count of lines is the caller's"
abbrev pub load : (seed count : ℕ) → List Call
load s zero = []
load s (suc n) = (call_drawn s).call ∷ load (call_drawn s).state n

-- a call's line, which "ends in a newline"
abbrev pub line_text : Call → List ℕ
line_text c = call_text c ++ newline

unfoldable pub load_text : (seed count : ℕ) → List ℕ
load_text seed count = texts line_text (load seed count)
