-- The structs of labels and keys that the functions make and read.
-- Assumes nothing.
use mathlib.Core.Path.{◌≡◌, refl, sym, ap, ◌∙◌}
use Prim.Native.Nat.{ℕ, zero, suc, ◌-◌, ◌≤◌}
use native.Mathlib.Omega.{arith}
use mathlib.Core.Bool.{Bool, true, false, ◌||◌, or-false}
use mathlib.Core.List.{List, [], ◌∷◌}
use lib.Dec.{eqb}
use lib.ListN.{length, get_or, replicate, length-take}
use borrow.Author.Tests.{ne_eqb}
use Rattle.graph.specs.declared.keys.Keys.{Keys}
use Rattle.graph.specs.KeyLists.{contains}
use Rattle.graph.specs.Packed.{listed, packed}
use Rattle.graph.proofs.Answers.{by_bool}
use Rattle.flat.specs.Flat.{Tagged}
use Rattle.flat.specs.Inner.Queues.{labels_in}
use Rattle.records.specs.declared.labels.Labels.{Labels}
use Rattle.records.specs.declared.op.OpRecord.{OpRecord}
use Rattle.valid.specs.Inner.Decoded.{labels_of}
use Rattle.valid.specs.Values.{packed_labels}
use Rattle.valid.proofs.Turns.{contains_append}
use Rattle.state.specs.Inner.Operations.{KeysListed, RecordFor}
use Rattle.state.proofs.ResultLaws.{labels_count}
use Rattle.waiting.specs.Inner.Counted.{Names}

abbrev pub only : ℕ → Labels
only l = record { count = 1; label = l ∷ 0 ∷ 0 ∷ 0 ∷ [] }

pub only_normal : (l : ℕ) → only l ≡ packed_labels (l ∷ [])
unfolding packed_labels
only_normal l = refl

-- an add's record has its label where the others have theirs
pub names_of : (x : Tagged) (r : OpRecord) → RecordFor x r → Names (labels_in x.call) r.labels
names_of x r g =
    rw g.is
    (by_bool (eqb r.kind 0)
    (λ e.
    let one : r.labels ≡ packed_labels (get_or r.labels.label 0 0 ∷ []) = sym (ap (λ (y : OpRecord). y.labels) (rw e at g.clean)) in
    let is : labels_of r.labels ≡ get_or r.labels.label 0 0 ∷ [] = ap labels_of (one ∙ sym (only_normal (get_or r.labels.label 0 0))) in
    record { is = rw e is; normal = one ∙ ap packed_labels (sym is) })
    (λ e. record { is = rw e refl; normal = sym (ap (λ (y : OpRecord). y.labels) (rw e at g.clean)) }))

pub labels_few : (l : Labels) → l ≡ packed_labels (labels_of l) → length l.label ≡ 4 → l.count ≤ 4
labels_few l e four = omega (arith, labels_count l e, length-take l.count l.label)

-- a label is among the listed ones where it stands in one of the four places: the others are 0
zeros_none : (x : ℕ) → 1 ≤ x → (n : ℕ) → contains x (replicate n 0) ≡ false
zeros_none x h zero = refl
zeros_none x h (suc n) = rw (ne_eqb x 0 (λ e. omega arith)) (zeros_none x h n)

four_tests : (a b c d : Bool) → (a || (b || (c || (d || false)))) ≡ (((a || b) || c) || d)
four_tests true b c d = refl
four_tests false true c d = refl
four_tests false false true d = refl
four_tests false false false d = or-false d

in_four : (x : ℕ) (l : List ℕ) → length l ≡ 4 → contains x l ≡ (((eqb x (get_or l 0 0) || eqb x (get_or l 1 0)) || eqb x (get_or l 2 0)) || eqb x (get_or l 3 0))
in_four x (a ∷ b ∷ c ∷ d ∷ []) e = four_tests (eqb x a) (eqb x b) (eqb x c) (eqb x d)
in_four x [] e = absurd (omega arith)
in_four x (a ∷ []) e = absurd (omega arith)
in_four x (a ∷ b ∷ []) e = absurd (omega arith)
in_four x (a ∷ b ∷ c ∷ []) e = absurd (omega arith)
in_four x (a ∷ b ∷ c ∷ d ∷ f ∷ l) e = absurd (omega arith)

pub named_in : (l : Labels) → l ≡ packed_labels (labels_of l) → length l.label ≡ 4 → (x : ℕ) → 1 ≤ x
    → (((eqb x (get_or l.label 0 0) || eqb x (get_or l.label 1 0)) || eqb x (get_or l.label 2 0)) || eqb x (get_or l.label 3 0)) ≡ contains x (labels_of l)
unfolding packed_labels
named_in l e four x h =
    sym (in_four x l.label four)
    ∙ ap (λ (y : Labels). contains x y.label) e
    ∙ contains_append x (labels_of l) (replicate (4 - length (labels_of l)) 0)
    ∙ ap (λ (t : Bool). contains x (labels_of l) || t) (zeros_none x h (4 - length (labels_of l)))
    ∙ or-false (contains x (labels_of l))

pub none_listed : (ks : Keys) → ks ≡ packed [] → KeysListed [] ks
unfolding packed
none_listed ks e =
    let none : listed ks ≡ [] = ap listed e in
    record { is = none; keys = e ∙ sym (ap packed none) }
