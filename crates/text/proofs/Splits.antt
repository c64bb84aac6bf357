-- Laws of `up_to`: the search for the next stop byte, a literal at a place, and the part before a stop.
-- Assumes nothing.
use Prim.Native.Nat.{ℕ, zero, suc, ◌+◌, ◌-◌, ◌<◌, ◌≤◌}
use mathlib.Core.Bool.{Bool, true, false, cond, false≢true}
use mathlib.Core.Path.{◌≡◌, refl, sym, ap, ◌∙◌}
use mathlib.Core.List.{List, [], ◌∷◌, ◌++◌}
use native.Mathlib.Nat.{le_of_eq, le_of_lt}
use native.Mathlib.Omega.{arith}
use borrow.Author.Tests.{eq-eqb, ne_eqb, eqb-true, eqb-false}
use lib.Dec.{eqb}
use lib.ListN.{length, take, drop, get_or, length-drop, drop_of_length-le, length-append}
use lib.Seq.{take_all, drop-append_seam, drop-drop}
use Rattle.std.specs.List.{starts_with}
use Rattle.std.proofs.Common.{Some, None}
use Rattle.std.proofs.lemmas.Slice.Eq.{starts_is}
use Rattle.std.proofs.lemmas.Bool.Decides.{Decides-eqb}
use Rattle.text.specs.Text.{up_to, decimal}
use Rattle.text.specs.Inner.PartsRead.{LiteralAt, Gap}
use Rattle.text.proofs.Decimals.{Figures, decimal_is, decimal_inj}

-- what `&s[a..]` holds
pub from_eq : (s : List ℕ) (a : ℕ) → take (length s - a) (drop a s) ≡ drop a s
from_eq s a = take_all (length s - a) (drop a s) (le_of_eq (length-drop a s))

pub cancel : (p x y : List ℕ) → p ++ x ≡ p ++ y → x ≡ y
cancel p x y e = sym (drop-append_seam p x) ∙ ap (drop (length p)) e ∙ drop-append_seam p y

-- ---- the search

up_to_nil : (stop : ℕ) → up_to stop [] ≡ []
unfolding up_to
up_to_nil stop = refl

-- past the end nothing is found
pub past_end : (stop at : ℕ) (s : List ℕ) → length s < at → [] ≡ up_to stop (drop at s)
past_end stop at s h = sym (ap (up_to stop) (drop_of_length-le s (le_of_lt h)) ∙ up_to_nil stop)

-- `&s[at..]` up to its first stop
pub from_place : (stop at : ℕ) (s : List ℕ) → up_to stop (take (length s - at) (drop at s)) ≡ up_to stop (drop at s)
from_place stop at s = ap (up_to stop) (from_eq s at)

up_to_here : (stop x : ℕ) (xs : List ℕ) → x ≡ stop → up_to stop (x ∷ xs) ≡ []
unfolding up_to
up_to_here stop x xs e = rw (eq-eqb x stop e, up_to)

up_to_past : (stop x : ℕ) (xs : List ℕ) → (x ≡ stop → ⊥) → up_to stop (x ∷ xs) ≡ x ∷ up_to stop xs
unfolding up_to
up_to_past stop x xs e = rw (ne_eqb x stop e, up_to)

-- the first stop stands at i
pub first_stop : (stop : ℕ) (l : List ℕ) (i : ℕ) → i < length l → get_or l i 0 ≡ stop → ((k : ℕ) → k < i → get_or l k 0 ≡ stop → ⊥) → take i l ≡ up_to stop l
first_stop stop [] i h e n = absurd (omega arith)
first_stop stop (x ∷ xs) zero h e n = sym (up_to_here stop x xs e)
first_stop stop (x ∷ xs) (suc i) h e n =
    ap (λ (r : List ℕ). x ∷ r) (first_stop stop xs i (omega arith) e (λ k b. n (suc k) (omega arith))) ∙ sym (up_to_past stop x xs (n zero (omega arith)))

pub no_stop : (stop : ℕ) (l : List ℕ) → ((k : ℕ) → k < length l → get_or l k 0 ≡ stop → ⊥) → l ≡ up_to stop l
no_stop stop [] n = sym (up_to_nil stop)
no_stop stop (x ∷ xs) n =
    ap (λ (r : List ℕ). x ∷ r) (no_stop stop xs (λ k b. n (suc k) (omega arith))) ∙ sym (up_to_past stop x xs (n zero (omega arith)))

-- ---- the part before a stop, and what is left

-- without the byte stop
abbrev pub Clean : ℕ → List ℕ → Type 0
Clean stop [] = Unit {0}
Clean stop (c ∷ cs) = (c ≡ stop → ⊥) × Clean stop cs

unfoldable pub clean_test : ℕ → List ℕ → Bool
clean_test stop [] = true
clean_test stop (c ∷ cs) = cond (eqb c stop) false (clean_test stop cs)

-- a literal's bytes are tested by computing
pub clean_by : (stop : ℕ) (l : List ℕ) → clean_test stop l ≡ true → Clean stop l
unfolding clean_test
clean_by stop [] e = tt
clean_by stop (c ∷ cs) e = go (eqb c stop) refl e (clean_by stop cs)
  where
    go : (b : Bool) → eqb c stop ≡ b → cond b false (clean_test stop cs) ≡ true → (clean_test stop cs ≡ true → Clean stop cs) → Clean stop (c ∷ cs)
    go true h t ih = absurd (false≢true t)
    go false h t ih = (eqb-false c stop h, ih t)

up_to_clean : (stop : ℕ) (xs x : List ℕ) → Clean stop xs → Gap stop x → up_to stop (xs ++ x) ≡ xs
up_to_clean stop [] [] k g = up_to_nil stop
up_to_clean stop [] (c ∷ cs) k g = up_to_here stop c cs g
up_to_clean stop (c ∷ cs) x k g = up_to_past stop c (cs ++ x) k.0 ∙ ap (λ (r : List ℕ). c ∷ r) (up_to_clean stop cs x k.1 g)

pub part_is : (stop : ℕ) (l xs x : List ℕ) → l ≡ xs ++ x → Clean stop xs → Gap stop x → up_to stop l ≡ xs
part_is stop l xs x e k g = rw e (up_to_clean stop xs x k g)

-- what stands before the stop, and what is left
pub split : (stop : ℕ) (l : List ℕ) → (l ≡ up_to stop l ++ drop (length (up_to stop l)) l) × Gap stop (drop (length (up_to stop l)) l)
split stop [] = rw (up_to_nil stop) (refl, tt)
split stop (c ∷ cs) = go (eqb c stop) refl (split stop cs)
  where
    go : (b : Bool) → eqb c stop ≡ b → (cs ≡ up_to stop cs ++ drop (length (up_to stop cs)) cs) × Gap stop (drop (length (up_to stop cs)) cs)
        → (c ∷ cs ≡ up_to stop (c ∷ cs) ++ drop (length (up_to stop (c ∷ cs))) (c ∷ cs)) × Gap stop (drop (length (up_to stop (c ∷ cs))) (c ∷ cs))
    go true e ih = let h = eqb-true c stop e in rw (up_to_here stop c cs h) (refl, h)
    go false e ih = rw (up_to_past stop c cs (eqb-false c stop e)) (ap (λ (r : List ℕ). c ∷ r) ih.0, ih.1)

-- the part of s from n to the next stop: it ends inside, and what is left begins with the stop
pub record Part (stop : ℕ) (s : List ℕ) (n : ℕ) : Type 0 where
  pub within : n + length (up_to stop (drop n s)) ≤ length s
  pub text : drop n s ≡ up_to stop (drop n s) ++ drop (n + length (up_to stop (drop n s))) s
  pub gap : Gap stop (drop (n + length (up_to stop (drop n s))) s)

pub part : (stop : ℕ) (s : List ℕ) (n : ℕ) → n ≤ length s → Part stop s n
part stop s n h =
    let p = split stop (drop n s) in
    let d : drop (length (up_to stop (drop n s))) (drop n s) ≡ drop (n + length (up_to stop (drop n s))) s = drop-drop _ n s in
    record {
      within = omega (arith, length-drop n s, length-append (up_to stop (drop n s)) (drop (length (up_to stop (drop n s))) (drop n s)), ap length p.0);
      text = p.0 ∙ ap (λ (r : List ℕ). up_to stop (drop n s) ++ r) d;
      gap = rw d at p.1;
    }

-- ---- decimals end where a stop below '0' stands

figures_clean : (stop : ℕ) → stop < 48 → (l : List ℕ) → Figures l → Clean stop l
figures_clean stop h [] d = tt
figures_clean stop h (c ∷ cs) d = (λ e. omega (arith, d.0), figures_clean stop h cs d.2)

pub decimal_clean : (stop : ℕ) → stop < 48 → (v : ℕ) → Clean stop (decimal v)
decimal_clean stop h v = figures_clean stop h (decimal v) (decimal_is v).figures

-- a number, and the stop or the end after it: the text determines both
pub same_number : (stop : ℕ) → stop < 48 → (v w : ℕ) (x y : List ℕ) → decimal v ++ x ≡ decimal w ++ y → Gap stop x → Gap stop y → (v ≡ w) × (x ≡ y)
same_number stop h v w x y e gx gy =
    let d : decimal v ≡ decimal w = sym (up_to_clean stop (decimal v) x (decimal_clean stop h v) gx) ∙ ap (up_to stop) e ∙ up_to_clean stop (decimal w) y (decimal_clean stop h w) gy in
    (decimal_inj v w d, cancel (decimal w) x y (ap (λ (r : List ℕ). r ++ x) (sym d) ∙ e))

-- ---- a literal at a place, by what `starts_with` says of `&s[at..]`

module _ (s : List ℕ) (at : ℕ) (literal : List ℕ) (r : Bool) (e : r ≡ starts_with eqb (take (length s - at) (drop at s)) literal) where
  begins : (r ≡ true → drop at s ≡ literal ++ drop (length literal) (drop at s)) × ((rest : List ℕ) → drop at s ≡ literal ++ rest → r ≡ true)
  begins = rw from_eq at (starts_is Decides-eqb (take (length s - at) (drop at s)) literal r e)

  pub stands : at ≤ length s → r ≡ true → LiteralAt s at literal (Some (at + length literal))
  stands h t =
      let d : drop at s ≡ literal ++ drop (length literal) (drop at s) = begins.0 t in (
        omega (arith, length-drop at s, ap length d, length-append literal (drop (length literal) (drop at s))),
        d ∙ ap (λ (x : List ℕ). literal ++ x) (drop-drop (length literal) at s),
      )

  pub differs : r ≡ false → LiteralAt s at literal None
  differs f x q = false≢true (sym f ∙ begins.1 x q)
