-- What a reader says of a line, for calls, steps and claims alike: the refusal in reading is the function's, and a line that is
-- not refused is the text of the form that was read.
-- Assumes nothing.
use mathlib.Core.Path.{◌≡◌, sym, ap, subst, ◌∙◌}
use Prim.Native.Nat.{ℕ}
use mathlib.Core.Bool.{true≢false}
use mathlib.Core.List.{List}
use Rattle.graph.specs.Refusals.{Answer, refused, done, Test, unless}
use Rattle.graph.specs.RefusalOrder.{number_of, first_of}
use Rattle.graph.specs.Sessions.{Session}
use Rattle.graph.proofs.Answers.{is_done}
use Rattle.lines.specs.Inner.Answers.{ReadAs, form, other}
use Rattle.host.specs.Entries.{ImageOf, Enters, other_line, served}
use Rattle.host.proofs.Entering.{unless_done}

-- forms F, read to an answer: the form, or the number of the first of its tests that applies
module _ {F : Type 0} (tests : F → List Test) (Is : F → Type 0) where
  abbrev pub AnsweredBy : Answer F → Type 0
  AnsweredBy a = ReadAs Is (λ f. unless (tests f) f) (refused 10) a

  -- where what is served of a form that its tests refuse is that refusal
  pub refused_by_tests : {R : Type 0} {image : List ℕ} {refuse : ℕ → R} {serve : Session → F → R} {s : Session} → ImageOf image s
      → ((f : F) (n : ℕ) → unless (tests f) f ≡ refused n → serve s f ≡ refuse n) → (n : ℕ) → AnsweredBy (refused n) → Enters image Is refuse serve (refuse n)
  refused_by_tests {R} {image} {refuse} {serve} {s} h same n (other never e) = other_line s h never (ap refuse (ap number_of e))
  refused_by_tests {R} {image} {refuse} {serve} {s} h same n (form f i e) = served s h f i (sym (same f n (sym e)))

  -- the line is the text of the form, which passes its tests
  pub record Passed (f : F) : Type 0 where
    pub text : Is f
    pub fine : first_of (tests f) ≡ 0

  pub passed : (f : F) → AnsweredBy (done f) → Passed f
  passed f (other never e) = absurd (true≢false (ap is_done e))
  passed f (form g i e) =
      let p = unless_done (tests g) g (sym e) in
      record { text = subst Is p.0 i; fine = ap (λ (x : F). first_of (tests x)) (sym p.0) ∙ p.1 }
