-- Two lists that accept the same calls and end with none pending end alike; and if they claimed the same labels, byte for byte.
-- Assumes nothing.
use mathlib.Core.Path.{◌≡◌, refl, sym, ap, subst, ◌∙◌}
use Prim.Native.Nat.{ℕ, ◌≤◌}
use native.Mathlib.Omega.{arith}
use mathlib.Core.List.{List, ◌∷◌}
use lib.ListN.{length}
use Rattle.graph.specs.Calls.{Call}
use Rattle.graph.specs.OneAtATime.{one_at_a_time}
use Rattle.graph.specs.Counts.{result_of_label}
use Rattle.runs.specs.Runs.{Sent, Runs, opening, after, accepted_lines, TextsOf, no_line, a_line, GraphOf}
use Rattle.runs.specs.Demand.{ResultOf, NonePending, SameEnd}
use Rattle.graph.proofs.Found.{some_same}
use Rattle.host.proofs.Determined.{call_forms}
use Rattle.runs.proofs.Demand3.{result_of, demand3}

-- the same lines are the texts of the same calls
same_texts : {lines : List (List ℕ)} {cs ds : List Call} → TextsOf lines cs → TextsOf lines ds → cs ≡ ds
same_texts no_line no_line = refl
same_texts (a_line {c = c} i h) (a_line {c = d} j k) = λ t. call_forms c d i j t ∷ same_texts h k t

pub texts_same : {lines others : List (List ℕ)} {cs ds : List Call} → lines ≡ others → TextsOf lines cs → TextsOf others ds → cs ≡ ds
texts_same {ds = ds} same h k = same_texts h (subst (λ (ls : List (List ℕ)). TextsOf ls ds) (sym same) k)

module _ (es fs : List Sent) (h : Runs opening es) (k : Runs opening fs) (same : accepted_lines es ≡ accepted_lines fs) where
  calls_same : (demand3 es h).calls ≡ (demand3 fs k).calls
  calls_same = texts_same same (demand3 es h).texts (demand3 fs k).texts

  pub same_end : NonePending es → NonePending fs → SameEnd es fs
  same_end p q =
      record {
        nodes = (one_at_a_time (demand3 es h).calls).nodes;
        here = (demand3 es h).graph p;
        there = subst (λ (cs : List Call). GraphOf (after opening fs) (one_at_a_time cs).nodes) (sym calls_same) ((demand3 fs k).graph q);
        results = λ l a b.
            let r = result_of ((demand3 es h).results l a b) (p l a b) in
            let b' : l ≤ length (accepted_lines fs) = omega (arith, ap length same) in
            let t = result_of ((demand3 fs k).results l a b') (q l a b') in
            let alike : t.result ≡ r.result = some_same (sym t.same ∙ ap (λ (cs : List Call). result_of_label l (one_at_a_time cs).results) (sym calls_same) ∙ r.same) in
            record { result = r.result; here = r.given; there = subst (ResultOf fs l) alike t.given };
      }
