-- What stands in a unit that was found: operations of its station, and no add.
-- Assumes nothing.
use mathlib.Core.Path.{◌≡◌, refl, sym, ◌∙◌, ap, subst}
use Prim.Native.Nat.{ℕ, zero, suc, ◌+◌, ◌-◌, ◌≤◌, ◌<◌}
use native.Mathlib.Omega.{arith}
use mathlib.Core.Bool.{Bool, true, false, cond, not, ◌||◌, true≢false}
use mathlib.Core.List.{List, [], ◌∷◌}
use lib.Dec.{eqb, leb}
use lib.ListN.{length, get_or, drop}
use lib.Seq.{get_or-drop}
use borrow.Author.Tests.{eqb-true, ne_eqb, leb-true}
use Rattle.graph.proofs.Answers.{and_right}
use Rattle.flat.specs.Flat.{Tagged, Flat}
use Rattle.flat.specs.Inner.Nested.{nest, at_place}
use Rattle.graph.specs.OneAtATime.{is_op}
use Rattle.flat.specs.Inner.Queues.{first_index, breaks, is_at, end_of}
use Rattle.flat.specs.Inner.FlatSteps.{no_op, known}
use Rattle.flat.proofs.Facts.{Sits, sits_at, here_at}
use Rattle.state.specs.Inner.State.{flat_in}
use Rattle.state.proofs.NodeLaws.{node_count_law}
use Rattle.state.specs.Inner.ValidImage.{ValidImage}
use Rattle.units.proofs.Located.{at_within, end_within}

-- OPERATIONS: what stands at a station is no add
module _ (image : List ℕ) (holds-valid : ValidImage image) (k p : ℕ) (node : known k (flat_in image) ≡ true) (at : is_at k p (flat_in image).queue ≡ true) where
  sits : Sits (get_or (flat_in image).queue p no_op)
  sits =
      let s = nest (flat_in image) in
      subst (λ (f : Flat). Sits (get_or f.queue p no_op)) holds-valid.flat
      (sits_at s holds-valid.valid p (subst (λ (f : Flat). p < length f.queue) (sym holds-valid.flat) (at_within k (flat_in image).queue p at)))

  pub op_at_law : is_op (get_or (flat_in image).queue p no_op).call ≡ true
  op_at_law =
      let x = get_or (flat_in image).queue p no_op in
      let place : x.place ≡ k = eqb-true x.place k (sym (here_at (at_place k) (flat_in image).queue p no_op (at_within k (flat_in image).queue p at)) ∙ at) in
      let few : k ≤ length (flat_in image).nodes = leb-true k (length (flat_in image).nodes) (and_right (leb 1 k) (leb k (length (flat_in image).nodes)) node) in
      sits.placed (ne_eqb x.place 65 (λ e. omega (arith, node_count_law image holds-valid.proper, holds-valid.proper.sound.nodes)))

-- A UNIT: from one operation of station k up to where it ends, each is of station k
module _ {A : Type 0} (p : A → Bool) where
  find_before : (xs : List A) (i : ℕ) (d : A) → i < first_index p xs → p (get_or xs i d) ≡ false
  find_before [] i d h = absurd (omega arith)
  find_before (x ∷ xs) i d h = go (p x) refl (λ j. find_before xs j d) i h
    where
      go : (b : Bool) → p x ≡ b → ((j : ℕ) → j < first_index p xs → p (get_or xs j d) ≡ false) → (j : ℕ) → j < cond b zero (suc (first_index p xs)) → p (get_or (x ∷ xs) j d) ≡ false
      go true e ih j l = absurd (omega arith)
      go false e ih zero l = e
      go false e ih (suc j) l = ih j (omega arith)

goes_at : (k : ℕ) (x : Tagged) → breaks k x ≡ false → eqb x.place k ≡ true
goes_at k x e = go (eqb x.place k) x.opens e
  where
    go : (b o : Bool) → (not b || o) ≡ false → b ≡ true
    go true o e = refl
    go false o e = absurd (true≢false e)

pub unit_place : (k : ℕ) (q : List Tagged) (h p : ℕ) → is_at k h q ≡ true → h ≤ p → p < end_of k h q → is_at k p q ≡ true
unit_place k q h p at low high = go (p - h) (omega arith)
  where
    go : (j : ℕ) → p ≡ h + j → is_at k p q ≡ true
    go zero e =
        let same : p ≡ h = omega arith in
        ap (λ (m : ℕ). is_at k m q) same ∙ at
    go (suc j) e =
        let same : p ≡ suc h + j = omega arith in
        here_at (at_place k) q p no_op (omega (arith, end_within k q h (at_within k q h at)))
        ∙ goes_at k (get_or q p no_op)
        (ap (λ (m : ℕ). breaks k (get_or q m no_op)) same
        ∙ ap (breaks k) (sym (get_or-drop (suc h) q j no_op))
        ∙ find_before (breaks k) (drop (suc h) q) j no_op (omega arith))
