-- An input determines what a function gives and leaves, and the tally shows in nothing but the tally.
-- Assumes nothing.
use mathlib.Core.Path.{◌≡◌, refl, sym, ap, subst, ◌∙◌}
use Prim.Native.Nat.{ℕ}
use mathlib.Core.List.{List, [], ◌∷◌}
use lib.ListN.{length}
use Rattle.graph.specs.Refusals.{Answer, refused, done, and_then, unless}
use Rattle.graph.specs.Calls.{Call}
use Rattle.graph.specs.Sessions.{Session}
use Rattle.graph.specs.Steps.{Step, step}
use Rattle.lines.specs.Forms.{StepForm, work, drain_form, IsCall, IsStep, IsClaim, step_form_tests}
use Rattle.lines.proofs.Calls.{call_unique}
use Rattle.lines.proofs.Steps.{step_unique}
use Rattle.lines.proofs.Claims.{claim_unique}
use Rattle.panel.specs.declared.tally.Tally.{Tally}
use Rattle.valid.specs.Inner.Decoded.{session_of}
use Rattle.valid.proofs.Exactness.{valid_passes, valid_back}
use Rattle.host.specs.Entries.{ImageOf, Enters, other_length, other_bytes, other_line, served, Called, Calls, Stepped, step_served, step_made, Steps, ClaimMade, Claims, Listed, Lists}

-- an image has one session
pub same_session : {image : List ℕ} {s u : Session} → ImageOf image s → ImageOf image u → s ≡ u
same_session {image} {s} {u} h k = valid_back s h.valid ∙ ap session_of (h.same ∙ sym k.same) ∙ sym (valid_back u k.valid)

pub image_size : {image : List ℕ} {s : Session} → ImageOf image s → length image ≡ 4112
image_size {image} {s} h = sym (ap length h.same) ∙ (valid_passes s h.valid).sound.size

-- what holds of every refusal and of whatever is served holds of what a function gives
module _ {F R : Type 0} {image : List ℕ} {Is : F → Type 0} {refuse : ℕ → R} {serve : Session → F → R} (P : R → Type 0) (refuses : (n : ℕ) → P (refuse n)) (serves : (s : Session) (f : F) → P (serve s f)) where
  pub each_case : {r : R} → Enters image Is refuse serve r → P r
  each_case (other_length h e) = subst P (sym e) (refuses 1)
  each_case (other_bytes l h e) = subst P (sym e) (refuses 2)
  each_case (other_line s i h e) = subst P (sym e) (refuses 10)
  each_case (served s i f h e) = subst P (sym e) (serves s f)

same_ends : {R Q : Type 0} (P : R → Q → Type 0) {r r₁ : R} {q q₁ : Q} → r ≡ r₁ → q ≡ q₁ → P r₁ q₁ → P r q
same_ends {R} {Q} P {r} {r₁} {q} {q₁} e d h = subst (λ (x : R). P x q) (sym e) (subst (λ (y : Q). P r₁ y) (sym d) h)

-- two functions on one image and one line come to the same case
module _ {F R Q : Type 0} {image : List ℕ} {Is : F → Type 0} {refuse : ℕ → R} {serve : Session → F → R} {refuse' : ℕ → Q} {serve' : Session → F → Q}
    (unique : (f g : F) → Is f → Is g → f ≡ g) (P : R → Q → Type 0) (refuses : (n : ℕ) → P (refuse n) (refuse' n)) (serves : (s : Session) (f : F) → ImageOf image s → Is f → P (serve s f) (serve' s f)) where
  pub both : {r : R} {q : Q} → Enters image Is refuse serve r → Enters image Is refuse' serve' q → P r q
  both (other_length h e) (other_length k d) = same_ends P e d (refuses 1)
  both (other_length h e) (other_bytes l k d) = absurd (h l)
  both (other_length h e) (other_line s i k d) = absurd (h (image_size i))
  both (other_length h e) (served s i f k d) = absurd (h (image_size i))
  both (other_bytes l h e) (other_length k d) = absurd (k l)
  both (other_bytes l h e) (other_bytes m k d) = same_ends P e d (refuses 2)
  both (other_bytes l h e) (other_line s i k d) = absurd (h s i)
  both (other_bytes l h e) (served s i f k d) = absurd (h s i)
  both (other_line s i h e) (other_length k d) = absurd (k (image_size i))
  both (other_line s i h e) (other_bytes l k d) = absurd (k s i)
  both (other_line s i h e) (other_line u j k d) = same_ends P e d (refuses 10)
  both (other_line s i h e) (served u j f k d) = absurd (h f k)
  both (served s i f h e) (other_length k d) = absurd (k (image_size i))
  both (served s i f h e) (other_bytes l k d) = absurd (k s i)
  both (served s i f h e) (other_line u j k d) = absurd (k f h)
  both (served s i f h e) (served u j g k d) =
      same_ends P e (d ∙ (λ t. serve' (same_session j i t) (unique g f k h t))) (serves s f i h)

-- a line is the text of one form
pub call_forms : {line : List ℕ} (f g : Call) → IsCall line f → IsCall line g → f ≡ g
call_forms f g h k = call_unique f g (sym h.same ∙ k.same)

pub step_forms : {line : List ℕ} (f g : StepForm) → IsStep line f → IsStep line g → f ≡ g
step_forms f g h k = step_unique f g (sym h.same ∙ k.same)

pub claim_forms : {line : List ℕ} (l m : ℕ) → IsClaim line l → IsClaim line m → l ≡ m
claim_forms l m h k = claim_unique l m (sym h.same ∙ k.same)

-- ONE ANSWER
pub call_once : {image line : List ℕ} {r q : Called} → Calls image line r → Calls image line q → r ≡ q
call_once h k = both call_forms (λ (r q : Called). r ≡ q) (λ n. refl) (λ s f i j. refl) h k

pub step_once : {image line : List ℕ} {t : Tally} {r q : Stepped} → Steps image line t r → Steps image line t q → r ≡ q
step_once h k = both step_forms (λ (r q : Stepped). r ≡ q) (λ n. refl) (λ s f i j. refl) h k

pub claim_once : {image line out : List ℕ} {r q : ClaimMade} → Claims image line out r → Claims image line out q → r ≡ q
claim_once h k = both claim_forms (λ (r q : ClaimMade). r ≡ q) (λ n. refl) (λ s l i j. refl) h k

pub list_once : {image out : List ℕ} {r q : Listed} → Lists image out r → Lists image out q → r ≡ q
list_once h k = both (λ (f g : Unit {0}) (i j : Unit {0}). refl) (λ (r q : Listed). r ≡ q) (λ n. refl) (λ s f i j. refl) h k

-- "answers and images do not depend on the tally lent"
pub record SameButTally (r q : Stepped) : Type 0 where
  pub answer : r.answer ≡ q.answer
  pub image : r.image ≡ q.image

served_same : (image : List ℕ) (t u : Tally) (ts : List Step) (x : Answer Session) → SameButTally (step_served image t ts x) (step_served image u ts x)
served_same image t u ts (refused n) = record { answer = refl; image = refl }
served_same image t u ts (done s) = record { answer = refl; image = refl }

pub tally_free : {image line : List ℕ} {t u : Tally} {r q : Stepped} → Steps image line t r → Steps image line u q → SameButTally r q
tally_free {image} {line} {t} {u} h k = both step_forms SameButTally (λ n. record { answer = refl; image = refl }) (λ s f i j. made s f) h k
  where
    made : (s : Session) (f : StepForm) → SameButTally (step_made image t s f) (step_made image u s f)
    made s (work w) = served_same image t u (w ∷ []) (and_then (unless (step_form_tests (work w)) s) (step w))
    made s drain_form = record { answer = refl; image = refl }
