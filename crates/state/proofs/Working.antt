-- What a function that did the flat work, or refused it, states.
-- Assumes nothing.
use mathlib.Core.Path.{◌≡◌, refl, sym, subst}
use Prim.Native.Nat.{ℕ}
use mathlib.Core.List.{List}
use Rattle.std.specs.declared.result.Result.{Result}
use Rattle.std.specs.Result.{IsErrAnd}
use Rattle.std.proofs.lemmas.Result.{err_from_is_err_and}
use Rattle.graph.specs.Refused.{number_in, refusal_number}
use Rattle.graph.specs.Refusals.{Answer, refused, done}
use Rattle.graph.specs.declared.refusal.Refusal.{Refusal}
use Rattle.flat.specs.Flat.{Flat}
use Rattle.state.specs.Inner.State.{Shows}
use Rattle.state.specs.Inner.ValidImage.{Works}

module _ {x : Answer Flat} {before after : List ℕ} where
  pub works_refused : {n : ℕ} → x ≡ refused n → after ≡ before → Works x before after n
  works_refused {n} e h = subst (λ (y : Answer Flat). Works y before after n) (sym e) (record { number = refl; leaves = h })

  pub works_done : {f : Flat} → x ≡ done f → Shows f after → Works x before after 0
  works_done e h = subst (λ (y : Answer Flat). Works y before after 0) (sym e) (record { number = refl; leaves = h })

  -- where a `?` hands a refusal on
  pub works_handed : (r : Result (Unit {0}) Refusal) (e : Refusal) → IsErrAnd r (λ y. y ≡ e) → x ≡ refused (refusal_number e) → after ≡ before → Works x before after (number_in r)
  works_handed r e q f h =
      let p = err_from_is_err_and r q in
      rw (p.1, p.2) (works_refused f h)
