-- From the test of the image to the session that it holds, or to the refusal; and answers by a sequence of tests.
-- Assumes nothing.
use mathlib.Core.Path.{◌≡◌, refl, sym, ap, subst, ◌∙◌}
use Prim.Native.Nat.{ℕ, ◌≤◌}
use native.Mathlib.Omega.{arith}
use mathlib.Core.Bool.{Bool, true, false, cond, true≢false}
use mathlib.Core.List.{List, [], ◌∷◌, ◌++◌}
use lib.Dec.{eqb}
use lib.IntN.{ℤ}
use lib.ListN.{length}
use Rattle.graph.specs.Refusals.{Answer, refused, done, Test, unless}
use Rattle.graph.specs.RefusalOrder.{number_of, first_of}
use Rattle.graph.proofs.Answers.{is_done}
use Rattle.graph.specs.Sessions.{Session, fresh}
use Rattle.graph.specs.Valid.{Each}
use Rattle.valid.specs.Values.{encode}
use Rattle.valid.specs.Inner.Decoded.{session_of}
use Rattle.valid.specs.Inner.Exact.{Exact, Opened}
use Rattle.valid.proofs.Exactness.{valid_back}
use Rattle.panel.specs.Returned.{answer_number}
use Rattle.state.specs.Inner.ValidImage.{ValidImage}
use Rattle.state.proofs.Serving.{valid_image}
use Rattle.host.specs.Entries.{ImageOf, Enters, other_length, other_bytes, other_line, served, call_refused, opened}
use Rattle.host.specs.Inner.Tests.{Tested}

module _ {F R : Type 0} {image : List ℕ} {Is : F → Type 0} {refuse : ℕ → R} {serve : Session → F → R} where
  pub tested_refused : {n : ℕ} → Tested image n → (n ≡ 0 → ⊥) → Enters image Is refuse serve (refuse n)
  tested_refused (other_length h e) ne = other_length h (ap refuse e)
  tested_refused (other_bytes l h e) ne = other_bytes l h (ap refuse e)
  tested_refused (other_line s h never e) ne = absurd (never tt tt)
  tested_refused (served s h f i e) ne = absurd (ne e)

  -- what a function gives and leaves, by its parts
  pub entered_as : {r q : R} → r ≡ q → Enters image Is refuse serve q → Enters image Is refuse serve r
  entered_as e h = subst (Enters image Is refuse serve) (sym e) h

pub tested_session : {image : List ℕ} {n : ℕ} → Tested image n → n ≡ 0 → ImageOf image (session_of image)
tested_session (other_length h e) z = absurd (omega arith)
tested_session (other_bytes l h e) z = absurd (omega arith)
tested_session (other_line s h never e) z = absurd (never tt tt)
tested_session {image} (served s h f i e) z = subst (ImageOf image) (valid_back s h.valid ∙ ap session_of h.same) h

pub exact_none : {image : List ℕ} {b : Bool} → Exact image b → b ≡ false → (s : Session) → ImageOf image s → ⊥
exact_none x e s h = true≢false (sym (x.implied s h.valid h.same).0 ∙ e)

pub exact_session : {image : List ℕ} {b : Bool} → Exact image b → b ≡ true → ImageOf image (session_of image)
exact_session x e = record { valid = (x.implies e).0; same = (x.implies e).1 }

pub session_valid : {image : List ℕ} → ImageOf image (session_of image) → ValidImage image
session_valid {image} h = valid_image image h.valid h.same

-- opening: the answer goes by the length, like the image that it leaves
module _ {image after : List ℕ} {b : Bool} {z : ℤ} (o : Opened image after b) where
  as_length : (x : Bool) → b ≡ x → z ≡ cond x (answer_number (done 0)) (answer_number (refused 1)) → (y : Bool) → x ≡ y → after ≡ cond y (encode fresh) image
      → record { answer = z; image = after } ≡ cond y (record { answer = answer_number (done 0); image = encode fresh }) (call_refused image 1)
  as_length true e a true q w = λ i. record { answer = a i; image = w i }
  as_length false e a false q w = λ i. record { answer = a i; image = w i }
  as_length true e a false q w = absurd (true≢false q)
  as_length false e a true q w = absurd (true≢false (sym q))

  pub is_opened : (x : Bool) → b ≡ x → z ≡ cond x (answer_number (done 0)) (answer_number (refused 1)) → record { answer = z; image = after } ≡ opened image
  is_opened x e a = as_length x e a (eqb (length image) 4112) (sym e ∙ o.right) o.written

-- what the first of the tests that applies refuses is refused whatever comes after them
module _ {A B : Type 0} where
  refused_first : (x : Bool) (m n : ℕ) (u : Answer A) (v : Answer B) → (u ≡ refused n → v ≡ refused n) → cond x (refused m) u ≡ refused n → cond x (refused m) v ≡ refused n
  refused_first true m n u v f q = ap refused (ap number_of q)
  refused_first false m n u v f q = f q

  pub unless_refused : (ts us : List Test) (a : A) (b : B) {n : ℕ} → unless ts a ≡ refused n → unless (ts ++ us) b ≡ refused n
  unless_refused [] us a b e = absurd (true≢false (ap is_done e))
  unless_refused (t ∷ ts) us a b {n} e = refused_first t.applies t.number n (unless ts a) (unless (ts ++ us) b) (λ q. unless_refused ts us a b q) e

module _ {A : Type 0} where
  abbrev value : A → Answer A → A
  value a (refused n) = a
  value a (done b) = b

  done_first : (x : Bool) (m n : ℕ) (u : Answer A) (a b : A) → (u ≡ done b → (a ≡ b) × (n ≡ 0)) → cond x (refused m) u ≡ done b → (a ≡ b) × (cond x m n ≡ 0)
  done_first true m n u a b f q = absurd (true≢false (sym (ap is_done q)))
  done_first false m n u a b f q = f q

  pub unless_done : (ts : List Test) (a : A) {b : A} → unless ts a ≡ done b → (a ≡ b) × (first_of ts ≡ 0)
  unless_done [] a e = (ap (value a) e, refl)
  unless_done (t ∷ ts) a {b} e = done_first t.applies t.number (first_of ts) (unless ts a) a b (λ q. unless_done ts a q) e

  number_first : (x : Bool) (m n : ℕ) (u : Answer A) → 1 ≤ m → (u ≡ refused n → 1 ≤ n) → cond x (refused m) u ≡ refused n → 1 ≤ n
  number_first true m n u g f q = let same : m ≡ n = ap number_of q in omega arith
  number_first false m n u g f q = f q

  -- a refusal has a number of its tests, so never 0
  pub unless_number : (ts : List Test) (a : A) {n : ℕ} → Each (λ (t : Test). 1 ≤ t.number) ts → unless ts a ≡ refused n → 1 ≤ n
  unless_number [] a g e = absurd (true≢false (ap is_done e))
  unless_number (t ∷ ts) a {n} g e = number_first t.applies t.number n (unless ts a) g.0 (λ q. unless_number ts a g.1 q) e
