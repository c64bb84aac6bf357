-- A line of 64 bytes or more is the text of no step and of no claim, so what refuses it as a call refuses it as any line.
-- Assumes nothing.
use mathlib.Core.Path.{◌≡◌, refl, sym, ap, subst, ◌∙◌}
use mathlib.Core.Bool.{Bool, true, false, cond, true≢false}
use mathlib.Core.List.{List, [], ◌∷◌}
use Prim.Native.Nat.{ℕ, ◌≤◌}
use native.Mathlib.Omega.{arith}
use lib.Dec.{eqb}
use lib.IntN.{ℤ}
use lib.ListN.{length, take, get_or}
use borrow.Author.Tests.{eqb-true}
use Rattle.graph.specs.Calls.{Call, add, map, link, unlink, sum, top, pick, near, unmap}
use Rattle.graph.specs.Sessions.{Session}
use Rattle.text.specs.Text.{ascii, starts_with}
use Rattle.lines.specs.Forms.{call_text, IsCall}
use Rattle.longlines.proofs.Texts.{long_no_step, long_no_claim}
use Rattle.panel.specs.Tally.{zeros}
use Rattle.host.specs.Entries.{Enters, other_length, other_bytes, other_line, served, call_refused, Calls, step_refused, Steps, claim_refused, Claims}
use Rattle.program.specs.Lines.{answer_text, as_claim}
use Rattle.program.specs.Inner.Frames.{AnswerPrinted, Served}
use Rattle.program.proofs.Serving.{call_served_law, step_served_law}
use Rattle.program.proofs.Signs.{no_length}

-- what refuses a line that is the text of no form of one function, nor of one of another
record RefusedAlike {R S : Type 0} (refuse : ℕ → R) (E : S → Type 0) (refuse' : ℕ → S) (r : R) : Type 0 where
  pub number : ℕ
  pub same : r ≡ refuse number
  pub enters : E (refuse' number)

no_form : {F G R S : Type 0} {image : List ℕ} {Is : F → Type 0} {Is' : G → Type 0} {refuse : ℕ → R} {refuse' : ℕ → S} {serve : Session → F → R} {serve' : Session → G → S} {r : R}
    → ((f : F) → Is f → ⊥) → ((g : G) → Is' g → ⊥) → Enters image Is refuse serve r → RefusedAlike refuse (Enters image Is' refuse' serve') refuse' r
no_form not not' (other_length h e) = record { number = 1; same = e; enters = other_length h refl }
no_form not not' (other_bytes l h e) = record { number = 2; same = e; enters = other_bytes l h refl }
no_form not not' (other_line s h never e) = record { number = 10; same = e; enters = other_line s h not' refl }
no_form not not' (served s h f i e) = absurd (not f i)

-- ---- a call line begins with `ca`

call_second : (f : Call) → get_or (call_text f) 1 0 ≡ 97
unfolding ascii
call_second (add value) = refl
call_second (map a b to) = refl
call_second (link key to) = refl
call_second (unlink key to) = refl
call_second (sum start to) = refl
call_second (top start to) = refl
call_second (pick start to) = refl
call_second (near key start to) = refl
call_second (unmap a b to) = refl

begins_second : (a b : ℕ) (others line : List ℕ) → starts_with (a ∷ b ∷ others) line ≡ true → get_or line 1 0 ≡ b
unfolding starts_with
begins_second a b others [] e = absurd (true≢false (sym e))
begins_second a b others (x ∷ []) e = go (eqb x a) e
  where
    go : (p : Bool) → cond p false false ≡ true → 0 ≡ b
    go true q = absurd (true≢false (sym q))
    go false q = absurd (true≢false (sym q))
begins_second a b others (x ∷ y ∷ l) e = go (eqb x a) (eqb y b) refl e
  where
    go : (p q : Bool) → eqb y b ≡ q → cond p (cond q (starts_with others l) false) false ≡ true → y ≡ b
    go true true q h = eqb-true y b q
    go true false q h = absurd (true≢false (sym h))
    go false q r h = absurd (true≢false (sym h))

-- so what begins otherwise is none
no_call : (a b : ℕ) (others line : List ℕ) → (b ≡ 97 → ⊥) → starts_with (a ∷ b ∷ others) line ≡ true → (f : Call) → IsCall line f → ⊥
no_call a b others line ne e f i = ne (sym (begins_second a b others line e) ∙ ap (λ (l : List ℕ). get_or l 1 0) i.same ∙ call_second f)

-- ---- the line

module _ {image line after written : List ℕ} {n r : ℕ} {z : ℤ} (out : List ℕ) (room : 128 ≤ length out) (long : 64 ≤ length line) (h : Calls image line (record { answer = z; image = after })) (p : AnswerPrinted n z [] written r) where
  as_step : starts_with (ascii "step=") line ≡ true → Served image line n after written r
  unfolding ascii
  as_step e =
      let b : RefusedAlike (call_refused image) (Steps image line zeros) (step_refused image zeros) (record { answer = z; image = after }) = no_form (no_call 115 116 _ line (λ q. omega arith) e) (long_no_step line long) h in
      let made : step_refused image zeros b.number ≡ record { answer = z; image = after; tally = zeros } = λ i. record { answer = (sym b.same i).answer; image = (sym b.same i).image; tally = zeros } in
      step_served_law e (subst (Steps image line zeros) made b.enters) p

  as_claim_law : starts_with (ascii "claim=") line ≡ true → Served image line n after written r
  unfolding ascii
  as_claim_law e =
      let b : RefusedAlike (call_refused image) (Claims image line out) (claim_refused image out) (record { answer = z; image = after }) = no_form (no_call 99 108 _ line (λ q. omega arith) e) (long_no_claim line long) h in
      let answer : (claim_refused image out b.number).answer ≡ z = λ i. (sym b.same i).answer in
      record {
        within = p.within;
        served =
            as_claim e out room (claim_refused image out b.number) b.enters (λ i. (sym b.same i).image)
            (ap (λ (k : ℕ). answer_text n ((claim_refused image out b.number).answer) (take k out)) (sym (no_length b.number))
            ∙ ap (λ (x : ℤ). answer_text n x []) answer
            ∙ sym p.bytes);
      }

  pub long_served : Served image line n after written r
  long_served = by_head (starts_with (ascii "step=") line) (starts_with (ascii "claim=") line) refl refl
    where
      by_head : (a b : Bool) → starts_with (ascii "step=") line ≡ a → starts_with (ascii "claim=") line ≡ b → Served image line n after written r
      by_head true b e q = as_step e
      by_head false true e q = as_claim_law q
      by_head false false e q = call_served_law e q h p
