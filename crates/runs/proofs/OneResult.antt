-- A label has one result: what a claim of it wrote, or would write, is that of one-at-a-time processing.
-- Assumes nothing.
use mathlib.Core.Path.{◌≡◌, refl, sym, ap, ◌∙◌}
use Prim.Native.Nat.{ℕ, zero}
use native.Mathlib.Omega.{arith}
use mathlib.Core.Bool.{true, cond}
use mathlib.Core.List.{List, [], ◌∷◌, ◌++◌}
use mathlib.Core.Option.{some}
use lib.IntN.{ℤ, pos, negsuc}
use lib.ListN.{length, take, replicate, length-replicate}
use Rattle.graph.specs.Calls.{Call}
use Rattle.graph.specs.Nodes.{Result}
use Rattle.graph.specs.OneAtATime.{one_at_a_time}
use Rattle.graph.specs.Counts.{result_of_label}
use Rattle.text.specs.Text.{pasted}
use Rattle.text.proofs.Pasting.{take_pasted}
use Rattle.lines.specs.Forms.{claim_text}
use Rattle.lines.proofs.Claims.{claim_unique}
use Rattle.print.specs.Printed.{result_text}
use Rattle.print.proofs.ReadBack.{result_inj}
use Rattle.host.specs.Entries.{ClaimMade, Claims}
use Rattle.host.proofs.Determined.{claim_forms}
use Rattle.runs.specs.Runs.{Sent, call_sent, step_sent, claim_sent, Runs, opening, after, is_served, accepted_lines, TextsOf, Wrote, ClaimedIn, here, there}
use Rattle.runs.specs.Demand.{ResultOf, claimed, unclaimed, GaveMeant, ClaimsMeant}
use Rattle.graph.proofs.Found.{some_same}
use Rattle.runs.proofs.Demand3.{demand3}
use Rattle.runs.proofs.SameEnd.{texts_same}

-- what was written is read back
written : (out text : List ℕ) → take (length text) (pasted out 0 text) ≡ text
written out text = take_pasted out text (length text) (omega arith)

abbrev size : ℤ → ℕ
size (pos n) = n
size (negsuc n) = zero

pub wrote_same : {out : List ℕ} {p q : Result} {r : ClaimMade} → Wrote out p r → Wrote out q r → p ≡ q
wrote_same {out} {p} {q} {r} w u =
    let n : length (result_text p) ≡ length (result_text q) = ap size (sym w.answer ∙ u.answer) in
    let o : pasted out 0 (result_text p) ≡ pasted out 0 (result_text q) = sym w.output ∙ u.output in
    result_inj p q (sym (written out (result_text p)) ∙ (λ i. take (n i) (o i)) ∙ written out (result_text q))

-- a claim in the list wrote what is meant
claimed_meant : (meant : List Result) (l : ℕ) (q : Result) {es : List Sent} → ClaimsMeant meant es → ClaimedIn l q es → result_of_label l meant ≡ some q
claimed_meant meant l q m (here i w) =
    let g = m.0 (ap is_served w.answer) in
    ap (λ (k : ℕ). result_of_label k meant) (claim_forms l g.label i g.text) ∙ g.same ∙ ap some (wrote_same g.wrote w)
claimed_meant meant l q m (there {e = call_sent line r} c) = claimed_meant meant l q m c
claimed_meant meant l q m (there {e = step_sent line t r} c) = claimed_meant meant l q m c
claimed_meant meant l q m (there {e = claim_sent line out r} c) = claimed_meant meant l q m.1 c

-- ONE CLAIM MORE
module _ (line out : List ℕ) (r : ClaimMade) where
  abbrev more : List Sent → List Sent
  more es = es ++ (claim_sent line out r ∷ [])

  more_runs : (image : List ℕ) (es : List Sent) → Runs image es → Claims (after image es) line out r → Runs image (more es)
  more_runs image [] h c = (c, tt)
  more_runs image (call_sent l a ∷ es) h c = (h.0, more_runs a.image es h.1 c)
  more_runs image (step_sent l t a ∷ es) h c = (h.0, more_runs a.image es h.1 c)
  more_runs image (claim_sent l o a ∷ es) h c = (h.0, more_runs a.image es h.1 c)

  more_accepted : (es : List Sent) → accepted_lines (more es) ≡ accepted_lines es
  more_accepted [] = refl
  more_accepted (call_sent l a ∷ es) = ap (λ (ls : List (List ℕ)). cond (is_served a.answer) (l ∷ ls) ls) (more_accepted es)
  more_accepted (step_sent l t a ∷ es) = more_accepted es
  more_accepted (claim_sent l o a ∷ es) = more_accepted es

  last_meant : (meant : List Result) (es : List Sent) → ClaimsMeant meant (more es) → is_served r.answer ≡ true → GaveMeant meant line out r
  last_meant meant [] m e = m.0 e
  last_meant meant (call_sent l a ∷ es) m e = last_meant meant es m e
  last_meant meant (step_sent l t a ∷ es) m e = last_meant meant es m e
  last_meant meant (claim_sent l o a ∷ es) m e = last_meant meant es m.1 e

module _ (es : List Sent) (h : Runs opening es) (l : ℕ) where
  pub result_meant : (q : Result) → ResultOf es l q → result_of_label l (one_at_a_time (demand3 es h).calls).results ≡ some q
  result_meant q (claimed c) = claimed_meant _ l q (demand3 es h).claims c
  result_meant q (unclaimed f) =
      let out : List ℕ = replicate (length (result_text q)) 0 in
      let w = f out (omega (arith, length-replicate {A = ℕ} (length (result_text q)) 0)) in
      let r : ClaimMade = w.gives in
      let t = demand3 (more (claim_text l) out r es) (more_runs (claim_text l) out r opening es h w.claims) in
      let g = last_meant (claim_text l) out r (one_at_a_time t.calls).results es t.claims (ap is_served w.wrote.answer) in
      let same : t.calls ≡ (demand3 es h).calls = texts_same (more_accepted (claim_text l) out r es) t.texts (demand3 es h).texts in
      ap (λ (cs : List Call). result_of_label l (one_at_a_time cs).results) (sym same)
      ∙ ap (λ (k : ℕ). result_of_label k (one_at_a_time t.calls).results) (claim_unique l g.label g.text.same) ∙ g.same ∙ ap some (wrote_same g.wrote w.wrote)

  -- the calls may be any that have the accepted lines as their texts
  pub call_meant : (cs : List Call) → TextsOf (accepted_lines es) cs → (q : Result) → ResultOf es l q → result_of_label l (one_at_a_time cs).results ≡ some q
  call_meant cs t q g = ap (λ (ds : List Call). result_of_label l (one_at_a_time ds).results) (texts_same refl t (demand3 es h).texts) ∙ result_meant q g

  pub result_same : (p q : Result) → ResultOf es l p → ResultOf es l q → p ≡ q
  result_same p q a b = some_same (sym (result_meant p a) ∙ result_meant q b)
