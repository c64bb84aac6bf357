-- Units by number in a queue: where the search for a station leads, and what stands there.
-- Assumes nothing.
use mathlib.Core.Path.{◌≡◌, sym, ◌∙◌, ap}
use Prim.Native.Nat.{ℕ, zero, suc}
use mathlib.Core.Bool.{true, false, true≢false}
use mathlib.Core.List.{List, [], ◌∷◌, ◌++◌, append-nil}
use lib.ListN.{length}
use Rattle.graph.specs.Refusals.{Answer, refused}
use Rattle.graph.specs.Nodes.{Op}
use Rattle.graph.proofs.Answers.{eqb_same}
use Rattle.flat.specs.Flat.{Tagged, standing, tag_unit, tag_units}
use Rattle.flat.specs.Inner.Queues.{first_index, is_at}
use Rattle.flat.specs.Inner.Nested.{at_place, Full}
use Rattle.flat.proofs.Places.{No, no_append, find_none, find_at, ends_units, is_at_law, is_not_at, end_of_law}
use Rattle.flat.specs.Inner.FlatSteps.{unit_from}

pub past : (k : ℕ) (q : List Tagged) → is_at k (length q) q ≡ false
past k q = ap (is_at k (length q)) (sym (append-nil q)) ∙ is_not_at k q [] tt

module _ {X : Type 0} (k : ℕ) (g : ℕ → ℕ → List Tagged → Answer X) where
  pub unit_none : (i : ℕ) (B r : List Tagged) → No (at_place k) r → unit_from k g i (length B) (B ++ r) ≡ refused 21
  unit_none zero B r h = rw (past k (B ++ r))
  unit_none (suc zero) B r h = rw (is_not_at k B r h)
  unit_none (suc (suc i)) B r h = rw (is_not_at k B r h, past k (B ++ r))

  pub unit_here : (B : List Tagged) (o : Op) (os : List Op) (us : List (List Op)) (A : List Tagged) → Full us → No (at_place k) A
      → unit_from k g 1 (length B) (B ++ (tag_unit k true (o ∷ os) ++ (tag_units k us ++ A))) ≡ g (length B) (length (B ++ tag_unit k true (o ∷ os))) (B ++ (tag_unit k true (o ∷ os) ++ (tag_units k us ++ A)))
  unit_here B o os us A F a = rw (is_at_law k true B o (tag_unit k false os ++ (tag_units k us ++ A)), end_of_law k B true o os (tag_units k us ++ A) (ends_units k us A F a))

  pub unit_next : (i : ℕ) (B : List Tagged) (o : Op) (os : List Op) (us : List (List Op)) (A : List Tagged) → Full us → No (at_place k) A
      → unit_from k g (suc (suc i)) (length B) (B ++ (tag_unit k true (o ∷ os) ++ (tag_units k us ++ A))) ≡ unit_from k g (suc i) (length (B ++ tag_unit k true (o ∷ os))) (B ++ (tag_unit k true (o ∷ os) ++ (tag_units k us ++ A)))
  unit_next i B o os us A F a = rw (is_at_law k true B o (tag_unit k false os ++ (tag_units k us ++ A)), end_of_law k B true o os (tag_units k us ++ A) (ends_units k us A F a))

  pub start : (i : ℕ) (B A : List Tagged) (us : List (List Op)) → Full us → No (at_place k) B → No (at_place k) A → unit_from k g i (first_index (at_place k) (B ++ (tag_units k us ++ A))) (B ++ (tag_units k us ++ A)) ≡ unit_from k g i (length B) (B ++ (tag_units k us ++ A))
  start i B A [] F b a =
      ap (λ (p : ℕ). unit_from k g i p (B ++ A)) (find_none (at_place k) (B ++ A) (no_append (at_place k) B A b a))
      ∙ ap (unit_from k g i (length (B ++ A))) (sym (append-nil (B ++ A))) ∙ unit_none i (B ++ A) [] tt ∙ sym (unit_none i B A a)
  start i B A ([] ∷ us) F b a = absurd (true≢false F.0)
  start i B A ((o ∷ os) ∷ us) F b a =
      ap (λ (p : ℕ). unit_from k g i p (B ++ (tag_units k ((o ∷ os) ∷ us) ++ A))) (find_at (at_place k) B (standing k true o) ((tag_unit k false os ++ tag_units k us) ++ A) b (eqb_same k))
