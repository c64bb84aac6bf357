-- A call line of each kind is accepted as the call that it holds.
-- Assumes nothing.
use mathlib.Core.Path.{◌≡◌, sym, ◌∙◌, ap}
use Prim.Native.Nat.{ℕ, suc}
use mathlib.Core.List.{List}
use Rattle.graph.specs.Calls.{Call, form_tests}
use Rattle.graph.specs.Targets.{To}
use Rattle.graph.specs.declared.act.Act.TheVariants.{Map}
use Rattle.graph.specs.declared.affine.Affine.{Affine}
use Rattle.graph.specs.Affine.{inverse}
use Rattle.graph.specs.OneAtATime.{Labelled, operation, labelled}
use Rattle.graph.specs.RefusalOrder.{first_of}
use Rattle.graph.specs.Acceptance.{accept}
use Rattle.records.proofs.Codecs.{Bytes}
use Rattle.valid.specs.Inner.Decoded.{session_of}
use Rattle.state.specs.Inner.State.{flat_in}
use Rattle.lines.specs.declared.call.CallKind.{CallKind}
use Rattle.lines.specs.declared.call.CallKind.TheVariants.{Unmap}
use Rattle.lines.specs.Inner.Answers.{call_form}
use Rattle.state.specs.Inner.ValidImage.{ValidImage, Works, Serves}
use Rattle.state.proofs.Serving.{Served, accept_served}
use Rattle.calls.specs.Inner.Accepting.{flat_accept_rest}
use Rattle.calls.proofs.Accepted.{accept_works}

pub accepts : (f : Call) (x : Labelled) (before after : List ℕ) (r : ℕ) → first_of (form_tests f) ≡ 0 → ValidImage before → Bytes after → labelled f (suc (flat_in before).last) ≡ x → Works (flat_accept_rest x (flat_in before)) before after r → (Serves (accept f (session_of before)) before after r) × (ValidImage after)
accepts f x before after r g l b q w =
    let s : Served (accept f (session_of before)) before after r = accept_served f before after r l b (accept_works f (flat_in before) g q w) in
    (s.serves, s.image_valid_law)

-- the call, by its kind
pub labelled_as : (k kind : CallKind) (x y : ℕ) (to : To) → k ≡ kind → (l : ℕ) → labelled (call_form k x y to) l ≡ labelled (call_form kind x y to) l
labelled_as k kind x y to e l = ap (λ (j : CallKind). labelled (call_form j x y to) l) e

-- an unmap is the map that undoes
pub unmap_as : (k : CallKind) (x y : ℕ) (to : To) → k ≡ Unmap → (m : Affine) → m ≡ inverse (record { a = x; b = y }) → (l : ℕ) → labelled (call_form k x y to) l ≡ operation (Map m) 0 to l
unmap_as k x y to e m i l = labelled_as k Unmap x y to e l ∙ ap (λ (f : Affine). operation (Map f) 0 to l) (sym i)
