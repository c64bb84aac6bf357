-- Targets of a call and of the operation that it becomes: keys that are listed, or all (S-3, 'Calls over the whole scene').
-- Assumes nothing.
use Rattle.std.specs.Prelude.{ℕ, Bool, true, false, cond, not, List, []}
use Rattle.graph.specs.KeyLists.{is_nil, contains, strike, disjoint, same_keys}

-- what a call's line names after `to=`
pub data To : Type 0 where
  -- to=1,2
  named : List ℕ → To
  -- to=all
  whole : To

-- what remains of it: the keys left unstruck, or all, with the mark for "done at this station"
pub data Targets : Type 0 where
  these : List ℕ → Targets
  all : (mark : Bool) → Targets

-- the keys that the line lists
abbrev pub keys_listed : To → List ℕ
keys_listed (named ts) = ts
keys_listed whole = []

-- of a call as it is accepted: nothing is struck, and an all-call has no mark
abbrev pub untouched : To → Targets
untouched (named ts) = these ts
untouched whole = all false

-- is the node with this key, at whose station it is, a target still? "Such a call acts at each station that it meets", once
abbrev pub reaches : ℕ → Targets → Bool
reaches k (these ts) = contains k ts
reaches k (all mark) = not mark

-- after the act at the node with this key: the key is struck, or all is "done at this station"
abbrev pub struck : ℕ → Targets → Targets
struck k (these ts) = these (strike k ts)
struck k (all mark) = all true

-- "cleared when it moves"
abbrev pub without_mark : Targets → Targets
without_mark (these ts) = these ts
without_mark (all mark) = all false

abbrev pub is_marked : Targets → Bool
is_marked (these ts) = false
is_marked (all mark) = mark

-- "no targets left": never of an all-call
abbrev pub none_left : Targets → Bool
none_left (these ts) = is_nil ts
none_left (all mark) = false

-- a result's `left`: "the keys left unstruck", and of an all-call "its `left` is empty"
abbrev pub left_of : Targets → List ℕ
left_of (these ts) = ts
left_of (all mark) = []

-- do they share no target? An all-call "shares a target with every operation that has targets left or is itself for all"
abbrev pub disjoint_targets : Targets → Targets → Bool
disjoint_targets (these ts) (these us) = disjoint ts us
disjoint_targets (these ts) (all mark) = is_nil ts
disjoint_targets (all mark) (these us) = is_nil us
disjoint_targets (all mark) (all other) = false

-- "equal remaining targets"; two all-calls "only when both are unmarked or both are marked"
abbrev pub same_targets : Targets → Targets → Bool
same_targets (these ts) (these us) = same_keys ts us
same_targets (these ts) (all mark) = false
same_targets (all mark) (these us) = false
same_targets (all mark) (all other) = cond mark other (not other)
