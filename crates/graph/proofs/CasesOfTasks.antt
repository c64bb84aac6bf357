-- The first task rule that holds for one operation, case by case, at the station with key 1, the last, or with key 2.
-- Assumes nothing.
use mathlib.Core.Path.{◌≡◌, refl}
use mathlib.Core.Bool.{Bool, true, false}
use mathlib.Core.List.{List, [], ◌∷◌}
use Prim.Native.Nat.{ℕ}
use Rattle.graph.specs.declared.act.Act.{Act}
use Rattle.graph.specs.declared.act.Act.TheVariants as act
use Rattle.graph.specs.declared.task.TaskRule.TheVariants.{Map, Fold, Complete, Last, Propagate}
use Rattle.graph.specs.Affine.{identity}
use Rattle.graph.specs.Targets.{these, all}
use Rattle.graph.specs.Nodes.{Op}
use Rattle.graph.specs.Tasks.{rule_for, unit_propagates}

abbrev op : Act → List ℕ → Op
op a targets = record { act = a; held = 0; targets = these targets; labels = 1 ∷ [] }

abbrev all_call : Act → Bool → Op
all_call a mark = record { act = a; held = 0; targets = all mark; labels = 1 ∷ [] }

-- map, and link and unlink with it
pub map_here : rule_for (op (act.Map identity) (1 ∷ [])) 1 true ≡ Map
map_here = refl

pub link_here : rule_for (op (act.Link 2) (1 ∷ [])) 1 true ≡ Map
link_here = refl

pub unlink_here : rule_for (op (act.Unlink 2) (1 ∷ [])) 1 true ≡ Map
unlink_here = refl

-- its last target is here: it folds, and then it completes
pub fold_here : rule_for (op act.Sum (1 ∷ [])) 1 true ≡ Fold
fold_here = refl

-- LAST holds too
pub complete_at_last : rule_for (op act.Sum []) 1 true ≡ Complete
complete_at_last = refl

-- PROP holds too: it may move on
pub complete_before_last : rule_for (op act.Sum []) 2 false ≡ Complete
complete_before_last = refl

pub complete_moves : unit_propagates (op act.Sum [] ∷ []) 2 false ≡ true
complete_moves = refl

pub last_with_a_target : rule_for (op act.Sum (9 ∷ [])) 1 true ≡ Last
last_with_a_target = refl

pub propagates : rule_for (op act.Sum (1 ∷ [])) 2 false ≡ Propagate
propagates = refl

-- an all-call (S-3): it acts, then it finishes at the last station and moves on from any other
pub all_acts : rule_for (all_call act.Sum false) 1 true ≡ Fold
all_acts = refl

pub all_last : rule_for (all_call act.Sum true) 1 true ≡ Last
all_last = refl

pub all_propagates : rule_for (all_call act.Sum true) 2 false ≡ Propagate
all_propagates = refl
