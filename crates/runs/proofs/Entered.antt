-- What a function of the host does with the image of a valid session: it refuses the line, or serves its form.
-- Assumes nothing.
use mathlib.Core.Path.{◌≡◌, refl, sym, ap, subst, ◌∙◌}
use Prim.Native.Nat.{ℕ, zero, suc, ◌≤◌}
use native.Mathlib.Omega.{arith}
use mathlib.Core.Bool.{false}
use Rattle.graph.specs.Sessions.{Session}
use Rattle.graph.specs.Valid.{Valid}
use Rattle.graph.specs.Refusals.{refused}
use Rattle.panel.specs.Returned.{answer_number}
use Rattle.valid.specs.Values.{encode}
use Rattle.host.specs.Entries.{ImageOf, Enters, other_length, other_bytes, other_line, served}
use Rattle.host.proofs.Determined.{same_session, image_size}
use Rattle.runs.specs.Runs.{is_served}

pub own : (s : Session) → Valid s → ImageOf (encode s) s
own s v = record { valid = v; same = refl }

-- what holds of the refusal 10 and of whatever is served to the session holds of what a function gives
module _ {F R : Type 0} {Is : F → Type 0} {refuse : ℕ → R} {serve : Session → F → R} (s : Session) (v : Valid s) (P : R → Type 0) (refuses : P (refuse 10)) (serves : (f : F) → Is f → P (serve s f)) where
  pub entered : {r : R} → Enters (encode s) Is refuse serve r → P r
  entered (other_length h e) = absurd (h (image_size (own s v)))
  entered (other_bytes l h e) = absurd (h s (own s v))
  entered (other_line u i h e) = subst P (sym e) refuses
  entered (served u i f is e) = subst P (sym (e ∙ ap (λ (x : Session). serve x f) (same_session i (own s v)))) (serves f is)

-- a refusal is below 0
pub refused_served : (n : ℕ) → 1 ≤ n → is_served (answer_number (refused n)) ≡ false
refused_served zero h = absurd (omega arith)
refused_served (suc n) h = refl
