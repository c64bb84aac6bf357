-- Laws of the tally: counting steps one by one is raising each count by the number of its kind.
-- Assumes nothing.
use Prim.Native.Nat.{ℕ, zero, suc, ◌+◌, ◌-◌, ◌≤◌, ◌<◌, min}
use native.Mathlib.Omega.{arith}
use mathlib.Core.Path.{◌≡◌, refl, sym, ap, ◌∙◌}
use mathlib.Core.Bool.{Bool, true, false, cond}
use mathlib.Core.List.{List, [], ◌∷◌, ◌++◌}
use lib.Dec.{eqb}
use lib.ListN.{length}
use borrow.Author.Tests.{ne_eqb}
use Rattle.graph.specs.Words.{modulus}
use Rattle.graph.specs.Steps.{Step, admit, realise, move, finish, join, split, swap, fuse}
use Rattle.graph.specs.Counts.{tally_place, of_kind, quoted_steps}
use Rattle.graph.proofs.Answers.{test_most}
use Rattle.graph.proofs.Effects.{costs}
use Rattle.graph.proofs.Drains.{work_cons}
use Rattle.panel.specs.declared.tally.Tally.{Tally}
use Rattle.panel.specs.Tally.{up_by, each, raised, counted, zeros}

-- the tally with every count cut off at 4,294,967,295
abbrev rested : Tally → Tally
rested t = each (λ k c. up_by c 0) t

-- a tally that has no count above 4,294,967,295, as every tally in 32 bits
abbrev pub Fits : Tally → Type 0
Fits t = rested t ≡ t

fitting : (c : ℕ) → c < modulus → up_by c 0 ≡ c
fitting c h = omega arith

pub fits : (t : Tally) → t.admit < modulus → t.realise < modulus → t.move_on < modulus → t.finish < modulus → t.join < modulus → t.split < modulus → t.swap < modulus → t.fuse < modulus → Fits t
fits t a r m f j s w u =
    λ i. record {
      admit = fitting t.admit a i;
      realise = fitting t.realise r i;
      move_on = fitting t.move_on m i;
      finish = fitting t.finish f i;
      join = fitting t.join j i;
      split = fitting t.split s i;
      swap = fitting t.swap w i;
      fuse = fitting t.fuse u i;
    }

-- a step that may be of the kind: raised and then rested, or the other way round
rest_later : (b : Bool) (c : ℕ) → cond b (up_by (up_by c 0) 1) (up_by c 0) ≡ up_by (cond b (up_by c 1) c) 0
rest_later true c = omega arith
rest_later false c = refl

-- one step that may be of the kind, and then n of it
up_more : (b : Bool) (c n : ℕ) → up_by (cond b (up_by c 1) c) n ≡ up_by c (cond b 1 0 + n)
up_more true c n = omega arith
up_more false c n = omega arith

counted_rested : (t : Tally) (ts : List Step) → counted (rested t) ts ≡ each (λ k c. up_by c (of_kind k ts)) t
counted_rested t [] = refl
counted_rested t (s ∷ ts) =
    (λ i. counted (each (λ k c. rest_later (eqb k (tally_place s)) c i) t) ts) ∙ counted_rested (raised t (tally_place s) 1) ts ∙ (λ i. each (λ k c. up_more (eqb k (tally_place s)) c (of_kind k ts) i) t)

-- each count is raised by the number of the steps of its kind, "resting at 4,294,967,295"
pub counted_kinds : (t : Tally) (ts : List Step) → Fits t → counted t ts ≡ each (λ k c. up_by c (of_kind k ts)) t
counted_kinds t ts h = ap (λ (u : Tally). counted u ts) (sym h) ∙ counted_rested t ts

-- steps after steps
pub counted_append : (t : Tally) (ts us : List Step) → counted t (ts ++ us) ≡ counted (counted t ts) us
counted_append t [] us = refl
counted_append t (s ∷ ts) us = counted_append (raised t (tally_place s) 1) ts us

kind_most : (k : ℕ) (ts : List Step) → of_kind k ts ≤ length ts
kind_most k [] = omega arith
kind_most k (s ∷ ts) = omega (arith, test_most (eqb k (tally_place s)), kind_most k ts)

-- a count that fits is raised by n, or by as much as is left
pub up_rest : (c n : ℕ) → c ≤ 4294967295 → up_by c n ≡ c + min n (4294967295 - c)
up_rest c n h = omega arith

pub up_from_zero : (n : ℕ) → n ≤ 4294967295 → up_by 0 n ≡ n
up_from_zero n h = omega arith

-- "With one tally, zeros at the start .., each .. number equals its count there"
pub counted_exact : (ts : List Step) → length ts ≤ 4294967295 → counted zeros ts ≡ each (λ k c. of_kind k ts) zeros
counted_exact ts h = counted_kinds zeros ts refl ∙ (λ i. each (λ k c. up_from_zero (of_kind k ts) (omega (arith, kind_most k ts)) i) zeros)

-- a step of another kind is no admit, realise, move or finish
apart : (k : ℕ) (s : Step) → 4 ≤ k → cond (eqb k (tally_place s)) 1 0 + costs s ≤ 1
apart k admit h = rw (ne_eqb k 0 (λ e. omega arith)) (omega arith)
apart k (realise a) h = rw (ne_eqb k 1 (λ e. omega arith)) (omega arith)
apart k (move a) h = rw (ne_eqb k 2 (λ e. omega arith)) (omega arith)
apart k (finish a) h = rw (ne_eqb k 3 (λ e. omega arith)) (omega arith)
apart k (join a i) h = omega (arith, test_most (eqb k 4))
apart k (split a i j) h = omega (arith, test_most (eqb k 5))
apart k (swap a i) h = omega (arith, test_most (eqb k 6))
apart k (fuse a i) h = omega (arith, test_most (eqb k 7))

others : (k : ℕ) (ts : List Step) → 4 ≤ k → of_kind k ts + quoted_steps ts ≤ length ts
others k [] h = omega arith
others k (s ∷ ts) h = omega (arith, apart k s h, others k ts h, work_cons s ts)

-- of admits, realises, moves and finishes the four numbers may be added at once
pub counted_at_once : (t : Tally) (ts : List Step) → Fits t → quoted_steps ts ≡ length ts →
    raised (raised (raised (raised t 0 (of_kind 0 ts)) 1 (of_kind 1 ts)) 2 (of_kind 2 ts)) 3 (of_kind 3 ts) ≡ counted t ts
counted_at_once t ts r h = ap (each four) (sym r) ∙ (λ i. each (λ k c. same k c i) t) ∙ sym (counted_kinds t ts r)
  where
    four : ℕ → ℕ → ℕ
    four zero c = up_by c (of_kind 0 ts)
    four (suc zero) c = up_by c (of_kind 1 ts)
    four (suc (suc zero)) c = up_by c (of_kind 2 ts)
    four (suc (suc (suc zero))) c = up_by c (of_kind 3 ts)
    four (suc (suc (suc (suc k)))) c = c

    same : (k c : ℕ) → four k (up_by c 0) ≡ up_by c (of_kind k ts)
    same zero c = omega arith
    same (suc zero) c = omega arith
    same (suc (suc zero)) c = omega arith
    same (suc (suc (suc zero))) c = omega arith
    same (suc (suc (suc (suc k)))) c = omega (arith, others (suc (suc (suc (suc k)))) ts (omega arith))
