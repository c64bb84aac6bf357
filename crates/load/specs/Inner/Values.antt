-- What is drawn, by value.
-- Assumes nothing.
use Rattle.std.specs.Prelude.{ℕ, ◌≡◌, List, length, Result}
use Rattle.graph.specs.Calls.{Call, add, map, link, unlink, sum, top, pick, near}
use Rattle.graph.specs.Targets.{To, named}
use Rattle.graph.specs.Refusals.{map_done, unless}
use Rattle.graph.specs.Packed.{listed, packed}
use Rattle.text.specs.Inner.Put.{TextPut}
use Rattle.graph.specs.Refused.{answered}
use Rattle.graph.specs.declared.refusal.Refusal.{Refusal}
use Rattle.load.specs.declared.targets.DrawnKeys.{DrawnKeys}
use Rattle.load.specs.declared.calls.DrawnCall.{DrawnCall}
use Rattle.load.specs.declared.write.Written.{Written}
use Rattle.load.specs.declared.kind.Kind.{Kind}
use Rattle.load.specs.declared.kind.Kind.TheVariants.{Add, Map, Link, Unlink, Sum, Top, Pick, Near}
use Rattle.load.specs.Load.{next, after, keys_drawn, list_length, targets_drawn, MadeCall, with_targets, call_drawn, line_text, load_text}
use Rattle.load.specs.Entry.{load_tests, loaded}

-- so many keys as they are drawn from a state on, and the state after them
pub record KeysAre (n state : ℕ) (r : DrawnKeys) : Type 0 where
  pub keys : r.keys ≡ packed (keys_drawn n state)
  pub ends : r.state ≡ after n state

-- a target list drawn from a state on, and the state after it
pub record TargetsAre (state : ℕ) (r : DrawnKeys) : Type 0 where
  pub keys : r.keys ≡ packed (targets_drawn state)
  pub ends : r.state ≡ after (list_length state) (next state)

-- the call that a kind, numbers in the line's order and targets make
abbrev pub call_made : Kind → ℕ → ℕ → To → Call
call_made Add x y to = add x
call_made Map x y to = map x y to
call_made Link x y to = link x to
call_made Unlink x y to = unlink x to
call_made Sum x y to = sum x to
call_made Top x y to = top x to
call_made Pick x y to = pick x to
call_made Near x y to = near x y to

abbrev pub drawn_by_value : DrawnCall → MadeCall
drawn_by_value d = record { call = call_made d.kind d.x d.y (named (listed d.to)); state = d.state }

-- this call, with targets drawn from a state on
abbrev pub CallWith : (kind : Kind) (x y state : ℕ) → DrawnCall → Type 0
CallWith kind x y state r = drawn_by_value r ≡ with_targets (call_made kind x y) state

-- the line that is drawn from a state on, written; and the state after it
pub record LineWritten (was : List ℕ) (at state : ℕ) (out : List ℕ) (r : Written) : Type 0 where
  pub line : TextPut was at (line_text (call_drawn state).call) out r.at
  pub ends : r.state ≡ (call_drawn state).state

-- ---- what is answered, by value

-- the answer, and the output after it
pub record LoadReturned (seed count : ℕ) (was : List ℕ) (r : Result ℕ Refusal) (out : List ℕ) : Type 0 where
  pub answer : answered (λ n. n) r ≡ map_done length (unless (load_tests seed count (length was)) (load_text seed count))
  pub output : out ≡ (loaded seed count was).output
