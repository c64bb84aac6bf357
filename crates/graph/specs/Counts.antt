-- Steps by their kind, the steps that the licence quotes, and the result of a label.
-- Assumes nothing.
use Rattle.std.specs.Prelude.{ℕ, ◌+◌, cond, List, [], ◌∷◌, eqb}
use Rattle.std.proofs.Math.Option.{Option, none, some}
use Rattle.graph.specs.Targets.{To, named, whole}
use Rattle.graph.specs.Calls.{Call, to_of}
use Rattle.graph.specs.Nodes.{Result}
use Rattle.graph.specs.Steps.{Step, admit, realise, move, finish, join, split, swap, fuse}

-- the place of a step's kind in the tally: "one count for each of the eight step kinds"
abbrev pub tally_place : Step → ℕ
tally_place admit = 0
tally_place (realise k) = 1
tally_place (move k) = 2
tally_place (finish k) = 3
tally_place (join k i) = 4
tally_place (split k i j) = 5
tally_place (swap k i) = 6
tally_place (fuse k i) = 7

-- how many of the steps are of this kind
abbrev pub of_kind : ℕ → List Step → ℕ
of_kind k [] = 0
of_kind k (t ∷ ts) = cond (eqb k (tally_place t)) 1 0 + of_kind k ts

-- the admits, realises, moves and finishes
abbrev pub quoted_steps : List Step → ℕ
quoted_steps ts = of_kind 0 ts + (of_kind 1 ts + (of_kind 2 ts + of_kind 3 ts))

-- "The licence then quotes 129 steps for an all-call and 73 for another, summed over the calls accepted" (S-3)
abbrev pub quote_for : To → ℕ
quote_for (named ts) = 73
quote_for whole = 129

abbrev pub quoted : List Call → ℕ
quoted [] = 0
quoted (c ∷ cs) = quote_for (to_of c) + quoted cs

-- the result of a label
abbrev pub result_of_label : ℕ → List Result → Option Result
result_of_label l [] = none
result_of_label l (r ∷ rs) = cond (eqb r.label l) (some r) (result_of_label l rs)
