-- Acceptance after the form's tests: by the numbers of the tests, and by what the image shows after each write.
-- Assumes nothing.
use mathlib.Core.Path.{◌≡◌, refl, sym, ap, ◌∙◌, subst}
use Prim.Native.Nat.{ℕ, suc, ◌+◌, ◌<◌}
use native.Mathlib.Omega.{arith}
use mathlib.Core.Bool.{Bool, true, false, cond, not, ◌&&◌}
use mathlib.Core.List.{List, ◌∷◌}
use lib.Dec.{leb}
use lib.ListN.{length}
use borrow.Author.Tests.{leb-false}
use Rattle.graph.specs.Targets.{To, named, whole, untouched}
use Rattle.graph.specs.Packed.{packed_targets}
use Rattle.graph.specs.Calls.{Call, form_tests}
use Rattle.graph.specs.OneAtATime.{is_add, Labelled, labelled, is_op}
use Rattle.graph.specs.Refusals.{Answer, on, unless}
use Rattle.graph.specs.RefusalOrder.{first_of}
use Rattle.graph.proofs.KeyLaws.{listed_packed}
use Rattle.graph.proofs.Validity.{Sort, adds, operates, sort}
use Rattle.graph.proofs.Sequences.{forms_positive, none_applies, unless_passed}
use Rattle.flat.specs.Flat.{Flat}
use Rattle.flat.specs.Inner.Queues.{adds_queued, live_in}
use Rattle.flat.specs.Inner.FlatEvents.{flat_accept, accepted_as}
use Rattle.state.specs.Inner.State.{flat_in}
use Rattle.state.specs.Inner.ValidImage.{ValidImage, Works}
use Rattle.calls.specs.Inner.Accepting.{named_in, flat_live_tests, flat_accept_rest}
use Rattle.calls.proofs.Room.{queue_room}

-- what the line named is told from the struct of its targets
pub named_back : (to : To) → named_in (packed_targets (untouched to)) ≡ to
named_back (named ts) = ap named (listed_packed ts)
named_back whole = refl

-- THE TESTS
abbrev spent : Flat → Bool
spent f = leb 64 (length f.nodes + adds_queued f.queue)

-- none of 14 and 15 applies
record Open (f : Flat) : Type 0 where
  pub few : leb 64 (length (live_in f)) ≡ false
  pub labels : leb 65535 f.last ≡ false

open_of : (f : Flat) → first_of (flat_live_tests f) ≡ 0 → Open f
open_of f e = go (leb 64 (length (live_in f))) (leb 65535 f.last) refl refl e
  where
    go : (a b : Bool) → leb 64 (length (live_in f)) ≡ a → leb 65535 f.last ≡ b → ◌≡◌ {A = ℕ} (cond a 14 (cond b 15 0)) 0 → Open f
    go true b p q e = absurd (omega arith)
    go false true p q e = absurd (omega arith)
    go false false p q e = record { few = p; labels = q }

-- a call whose form is good is accepted by what follows
is_add_law : (c : Call) (l : ℕ) → is_add c ≡ not (is_op (labelled c l))
is_add_law c l = go (sort c l)
  where
    go : Sort c l → is_add c ≡ not (is_op (labelled c l))
    go (adds v i e) = i ∙ ap (λ (x : Labelled). not (is_op x)) (sym e)
    go (operates a h i e) = i ∙ ap (λ (x : Labelled). not (is_op x)) (sym e)

pub accept_rest : (c : Call) (f : Flat) → first_of (form_tests c) ≡ 0 → flat_accept c f ≡ flat_accept_rest (labelled c (suc f.last)) f
accept_rest c f e =
    unless_passed (form_tests c) (on (is_add c && spent f) 13 ∷ flat_live_tests f) _ (none_applies (form_tests c) (forms_positive c) e)
    ∙ ap (λ (b : Bool). unless (on (b && spent f) 13 ∷ flat_live_tests f) (accepted_as (labelled c (suc f.last)) f)) (is_add_law c (suc f.last))

pub accept_works : (c : Call) (f : Flat) {x : Labelled} {before after : List ℕ} {r : ℕ} → first_of (form_tests c) ≡ 0 → labelled c (suc f.last) ≡ x
    → Works (flat_accept_rest x f) before after r → Works (flat_accept c f) before after r
accept_works c f {x} {before} {after} {r} e q w =
    subst (λ (y : Answer Flat). Works y before after r) (ap (λ (z : Labelled). flat_accept_rest z f) (sym q) ∙ sym (accept_rest c f e)) w

-- ROOM for one call more
pub record Spare (f : Flat) : Type 0 where
  pub queue : length f.queue < 64
  pub labels : f.last < 65535

pub spare : (s : List ℕ) → ValidImage s → first_of (flat_live_tests (flat_in s)) ≡ 0 → Spare (flat_in s)
spare s g e =
    let o = open_of (flat_in s) e in
    record { queue = queue_room s g o.few; labels = leb-false 65535 (flat_in s).last o.labels }
