-- What `load` answers where the output has room for 64 lines.
-- Assumes nothing.
use Prim.Native.Nat.{ℕ, ◌+◌, ◌≤◌}
use mathlib.Core.Path.{◌≡◌, refl, sym, ap, subst}
use mathlib.Core.Bool.{Bool, true, false}
use mathlib.Core.List.{List}
use native.Mathlib.Omega.{arith}
use borrow.Author.Tests.{ltb-false, le-ltb}
use lib.Dec.{ltb}
use lib.ListN.{length}
use Rattle.graph.specs.Refusals.{Answer, done, map_done, unless}
use Rattle.text.proofs.Pasting.{length_pasted, take_pasted}
use Rattle.graph.specs.Refused.{answered}
use Rattle.graph.specs.declared.refusal.Refusal.{Refusal}
use Rattle.std.specs.Prelude.{Result}
use Rattle.load.specs.Load.{load_text}
use Rattle.load.specs.Entry.{load_tests, load_answered}
use Rattle.load.specs.Inner.Values.{LoadReturned}
use Rattle.load.proofs.Lengths.{load_short}
use Rattle.cgtool.specs.Commands.{load_answer}
use Rattle.cgtool.specs.Inner.Outputs.{Within, answer_in}

pub record LoadAnswer (seed count : ℕ) (out : List ℕ) (a : Answer ℕ) : Type 0 where
  pub within : Within out a
  pub same : answer_in out a ≡ load_answer seed count

module _ (seed count : ℕ) (out : List ℕ) (room : 3584 ≤ length out) where
  abbrev answer : Answer (List ℕ)
  answer = unless (load_tests seed count (length out)) (load_text seed count)

  load_answer_law : LoadAnswer seed count (load_answered out answer).output (map_done length answer)
  load_answer_law = go (ltb 64 count) refl
    where
      go : (b : Bool) → ltb 64 count ≡ b → LoadAnswer seed count (load_answered out answer).output (map_done length answer)
      go true e = record { within = rw e tt; same = rw e refl }
      go false e =
          let text = load_text seed count in
          let fits : 0 + length text ≤ length out = omega (arith, load_short seed count, ltb-false 64 count e) in
          let enough = le-ltb (length out) (length text) (omega arith) in
          record { within = rw (e, enough) (omega (arith, length_pasted out 0 text fits)); same = rw (e, enough) (ap done (take_pasted out text (length text) (omega arith))) }

  pub load_answered_law : (r : Result ℕ Refusal) {after : List ℕ} → LoadReturned seed count out r after → LoadAnswer seed count after (answered (λ n. n) r)
  load_answered_law r {after} h =
      subst (LoadAnswer seed count after) (sym h.answer)
      (subst (λ (o : List ℕ). LoadAnswer seed count o (map_done length answer)) (sym h.output) load_answer_law)
