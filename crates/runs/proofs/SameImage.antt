-- Two lists that also claimed the same labels leave images that are equal byte for byte: their sessions are equal.
-- Assumes nothing.
use mathlib.Core.Path.{◌≡◌, refl, sym, ap, subst, ◌∙◌}
use Prim.Native.Nat.{ℕ, ◌+◌, ◌≤◌, ◌<◌}
use native.Mathlib.Omega.{arith}
use mathlib.Core.Bool.{Bool, true, false, true≢false}
use mathlib.Core.List.{List, [], ◌∷◌}
use mathlib.Core.Option.{none, some}
use lib.Dec.{eqb, ltb}
use lib.ListN.{length}
use borrow.Author.Tests.{eqb-true, eqb-false, eq-eqb, ltb-true}
use Rattle.graph.specs.KeyLists.{above, rising, contains, count}
use Rattle.graph.specs.Calls.{Call}
use Rattle.graph.specs.Nodes.{Node, Result}
use Rattle.graph.specs.OneAtATime.{one_at_a_time}
use Rattle.graph.specs.Sessions.{Station, Session, graph_of, labels_of_results, pending, live}
use Rattle.graph.specs.Drain.{backmost}
use Rattle.graph.specs.EventRuns.{EventRun}
use Rattle.graph.specs.Counts.{result_of_label}
use Rattle.graph.specs.Valid.{Each, Given}
use Rattle.graph.proofs.Answers.{and_left, and_right}
use Rattle.graph.proofs.Drains.{Resting, no_units, pending_resting}
use Rattle.graph.proofs.Limits.{rising_above, each_right}
use Rattle.graph.proofs.Demand3.{label_once}
use Rattle.graph.proofs.Labels.{is, total_append, total_is}
use Rattle.valid.specs.Values.{encode}
use Rattle.runs.specs.Runs.{Sent, Runs, opening, after, is_served, accepted_lines, ClaimedIn, here, there}
use Rattle.runs.specs.Demand.{NonePending, ClaimedLabel}
use Rattle.graph.proofs.Found.{none_some, find_here, find_skip, Where, first_of, later, where_found}
use Rattle.runs.proofs.OneLine.{Gave, past_call, past_step, past_refusal, past_claim}
use Rattle.host.proofs.Determined.{claim_forms}
use Rattle.runs.proofs.Demand3.{InEither, first, second, find_either, gave_claimed}
use Rattle.runs.proofs.Demand3 as main
use Rattle.runs.proofs.SameEnd.{texts_same}

-- FOUND BY LABEL
counted : (l : ℕ) (q : Result) (rs : List Result) → result_of_label l rs ≡ some q → 1 ≤ count l (labels_of_results rs)
counted l q [] e = absurd (none_some e)
counted l q (r ∷ rs) e = go (where_found l q r rs e) (counted l q rs)
  where
    go : Where l q r rs → (result_of_label l rs ≡ some q → 1 ≤ count l (labels_of_results rs)) → 1 ≤ count l (labels_of_results (r ∷ rs))
    go (first_of d s) g = rw (eq-eqb l r.label (sym d)) (omega arith)
    go (later n s) g = omega (arith, g s)

given : (last l : ℕ) (q : Result) (rs : List Result) → Each (Given last) (labels_of_results rs) → result_of_label l rs ≡ some q → Given last l
given last l q [] h e = absurd (none_some e)
given last l q (r ∷ rs) h e = go (where_found l q r rs e) (given last l q rs h.1)
  where
    go : Where l q r rs → (result_of_label l rs ≡ some q → Given last l) → Given last l
    go (first_of d s) g = subst (Given last) d h.0
    go (later n s) g = g s

above_found : (d l : ℕ) (q : Result) (rs : List Result) → above d (labels_of_results rs) ≡ true → result_of_label l rs ≡ some q → d < l
above_found d l q [] h e = absurd (none_some e)
above_found d l q (r ∷ rs) h e = go (where_found l q r rs e) (above_found r.label l q rs (and_right (ltb d r.label) _ h))
  where
    low : d < r.label
    low = ltb-true d r.label (and_left _ _ h)

    go : Where l q r rs → (result_of_label l rs ≡ some q → r.label < l) → d < l
    go (first_of e s) g = omega (arith, low, e)
    go (later n s) g = omega (arith, low, g s)

-- rising lists that find the same are the same
FindsSame : List Result → List Result → Type 0
FindsSame xs ys = (l : ℕ) (q : Result) → result_of_label l xs ≡ some q → result_of_label l ys ≡ some q

module _ (x y : Result) (xs ys : List Result) (a : above x.label (labels_of_results xs) ≡ true) (b : above y.label (labels_of_results ys) ≡ true) where
  heads : FindsSame (x ∷ xs) (y ∷ ys) → FindsSame (y ∷ ys) (x ∷ xs) → y ≡ x
  unfolding FindsSame
  heads f g = go (where_found x.label x y ys (f x.label x (find_here x.label x xs refl))) (where_found y.label y x xs (g y.label y (find_here y.label y ys refl)))
    where
      go : Where x.label x y ys → Where y.label y x xs → y ≡ x
      go (first_of d s) w = s
      go (later n s) (first_of d t) = absurd (n (sym d))
      go (later n s) (later m t) = absurd (omega (arith, above_found y.label x.label x ys b s, above_found x.label y.label y xs a t))

  tails : x.label ≡ y.label → FindsSame (x ∷ xs) (y ∷ ys) → FindsSame xs ys
  unfolding FindsSame
  tails e f l q h =
      let low : x.label < l = above_found x.label l q xs a h in
      sym (find_skip l y ys (λ d. omega (arith, low, e, d))) ∙ f l q (find_skip l x xs (λ d. omega (arith, low, d)) ∙ h)

same_list : (xs ys : List Result) → rising (labels_of_results xs) ≡ true → rising (labels_of_results ys) ≡ true → FindsSame xs ys → FindsSame ys xs → xs ≡ ys
unfolding FindsSame
same_list [] [] a b f g = refl
same_list [] (y ∷ ys) a b f g = absurd (none_some (g y.label y (find_here y.label y ys refl)))
same_list (x ∷ xs) [] a b f g = absurd (none_some (f x.label x (find_here x.label x xs refl)))
same_list (x ∷ xs) (y ∷ ys) a b f g =
    let h : y ≡ x = heads x y xs ys a b f g in
    let e : y.label ≡ x.label = ap (λ (r : Result). r.label) h in
    λ i. sym h i ∷ same_list xs ys (rising_above x.label (labels_of_results xs) a) (rising_above y.label (labels_of_results ys) b) (tails x y xs ys a b (sym e) f) (tails y x ys xs b a e g) i

-- a claim in the list is one of those that were served
record FoundIn (l : ℕ) (qs : List Result) : Type 0 where
  which : Result
  found : result_of_label l qs ≡ some which

claimed_gave : (l : ℕ) (q : Result) {es : List Sent} {qs : List Result} → ClaimedIn l q es → Gave es qs → FoundIn l qs
claimed_gave l q (here i w) (past_refusal n g) = absurd (true≢false (sym (ap is_served w.answer) ∙ n))
claimed_gave l q (here i w) (past_claim {q = p} {qs} j u g) = record { which = p; found = find_here l p qs (claim_forms p.label l j i) }
claimed_gave l q (there c) (past_call g) = claimed_gave l q c g
claimed_gave l q (there c) (past_step g) = claimed_gave l q c g
claimed_gave l q (there c) (past_refusal n g) = claimed_gave l q c g
claimed_gave l q (there c) (past_claim {q = p} {qs} j u g) = go (eqb p.label l) refl (claimed_gave l q c g)
  where
    go : (b : Bool) → eqb p.label l ≡ b → FoundIn l qs → FoundIn l (p ∷ qs)
    go true d f = record { which = p; found = find_here l p qs (eqb-true p.label l d) }
    go false d f = record { which = f.which; found = find_skip l p qs (eqb-false p.label l d) ∙ f.found }

-- stations where nothing waits
nodes_tail : List Node → List Node
nodes_tail [] = []
nodes_tail (n ∷ ns) = ns

nodes_head : Node → List Node → Node
nodes_head n [] = n
nodes_head n (m ∷ ms) = m

same_stations : (ss us : List Station) → backmost ss ≡ none → backmost us ≡ none → graph_of ss ≡ graph_of us → ss ≡ us
unfolding nodes_tail nodes_head
same_stations [] [] a b e = refl
same_stations [] (u ∷ us) a b e = let no : length (graph_of (u ∷ us)) ≡ 0 = sym (ap length e) in absurd (omega arith)
same_stations (s ∷ ss) [] a b e = let no : length (graph_of (s ∷ ss)) ≡ 0 = ap length e in absurd (omega arith)
same_stations (s ∷ ss) (u ∷ us) a b e =
    let p = no_units (backmost ss) s.units s.node.key a in
    let q = no_units (backmost us) u.units u.node.key b in
    λ i. record { node = ap (nodes_head s.node) e i; units = (p.1 ∙ sym q.1) i } ∷ same_stations ss us p.0 q.0 (ap nodes_tail e) i

-- what the results of a session are, where none is pending
module _ (es : List Sent) (h : Runs opening es) where
  abbrev s : Session
  s = main.s es h

  abbrev meant : List Result
  meant = (one_at_a_time (main.x es h).accepted).results

  results_live : (l : ℕ) → count l (labels_of_results s.results) ≤ count l (live s)
  results_live l =
      omega (
        arith,
        total_is l (labels_of_results s.results),
        total_is l (live s),
        total_append (is l) (pending s) (labels_of_results s.results),
      )

  once : (l : ℕ) → count l (labels_of_results (main.x es h).claimed) + count l (live s) ≤ 1
  once l = subst (λ (y : EventRun). count l (labels_of_results y.claimed) + count l (live y.now) ≤ 1) (main.to es h).moved (label_once (main.to es h).made l)

  not_both : (l : ℕ) (q p : Result) → result_of_label l s.results ≡ some q → result_of_label l (main.x es h).claimed ≡ some p → ⊥
  not_both l q p e f = omega (arith, counted l q s.results e, counted l p (main.x es h).claimed f, results_live l, once l)

  results_given : Each (Given s.last) (labels_of_results s.results)
  results_given = each_right (Given s.last) (pending s) (labels_of_results s.results) (main.v es h).given

  module _ (np : NonePending es) where
    idle : (l : ℕ) → contains l (pending s) ≡ false
    idle l = ap (contains l) (main.no_more es h np)

    -- what the session holds under a label is what is meant, and was not claimed
    held_meant : (l : ℕ) (q : Result) → result_of_label l s.results ≡ some q → result_of_label l meant ≡ some q
    held_meant l q e =
        let g = given s.last l q s.results results_given e in
        let r = (main.d es h).results l g.0 (omega (arith, g.1, (main.d es h).labels)) (idle l) in
        go r.result r.there (find_either l r.result (main.x es h).claimed s.results r.here)
      where
        go : (p : Result) → result_of_label l meant ≡ some p → InEither l p (main.x es h).claimed s.results → result_of_label l meant ≡ some q
        go p m (first f) = absurd (not_both l q p e f)
        go p m (second f) = m ∙ sym f ∙ e

    -- and what is meant under a label that was not claimed is held
    meant_held : (l : ℕ) (q : Result) → 1 ≤ l → l ≤ s.last → result_of_label l meant ≡ some q → (ClaimedLabel l es → ⊥) → result_of_label l s.results ≡ some q
    meant_held l q a b e n =
        let r = (main.d es h).results l a (omega (arith, b, (main.d es h).labels)) (idle l) in
        go r.result r.there (find_either l r.result (main.x es h).claimed s.results r.here)
      where
        go : (p : Result) → result_of_label l meant ≡ some p → InEither l p (main.x es h).claimed s.results → result_of_label l s.results ≡ some q
        go p m (first f) = absurd (n (record { result = p; is = gave_claimed l p (main.to es h).wrote f }))
        go p m (second f) = f ∙ sym m ∙ e

    held_unclaimed : (l : ℕ) (q : Result) → result_of_label l s.results ≡ some q → ClaimedLabel l es → ⊥
    held_unclaimed l q e c =
        let f = claimed_gave l c.result c.is (main.to es h).wrote in
        not_both l q f.which e f.found

module _ (es fs : List Sent) (h : Runs opening es) (k : Runs opening fs) (same : accepted_lines es ≡ accepted_lines fs) (p : NonePending es) (q : NonePending fs) where
  fed : (main.x es h).accepted ≡ (main.x fs k).accepted
  fed = texts_same same (main.to es h).texts (main.to fs k).texts

  last : (main.s es h).last ≡ (main.s fs k).last
  last = main.size es h ∙ ap length same ∙ sym (main.size fs k)

  results_found : ((l : ℕ) → ClaimedLabel l fs → ClaimedLabel l es) → FindsSame (main.s es h).results (main.s fs k).results
  unfolding FindsSame
  results_found c l r e =
      let g = given (main.s es h).last l r (main.s es h).results (results_given es h) e in
      let m : result_of_label l (meant fs k) ≡ some r = sym (ap (λ (cs : List Call). result_of_label l (one_at_a_time cs).results) fed) ∙ held_meant es h p l r e in
      meant_held fs k q l r g.0 (omega (arith, g.1, last)) m (λ d. held_unclaimed es h p l r e (c l d))

module _ (es fs : List Sent) (h : Runs opening es) (k : Runs opening fs) (same : accepted_lines es ≡ accepted_lines fs) (p : NonePending es) (q : NonePending fs) (to : (l : ℕ) → ClaimedLabel l es → ClaimedLabel l fs) (from : (l : ℕ) → ClaimedLabel l fs → ClaimedLabel l es) where
  resting : (gs : List Sent) (r : Runs opening gs) → NonePending gs → Resting (main.s gs r)
  resting gs r n = pending_resting (main.s gs r) (main.v gs r) (main.no_more gs r n)

  same_graph : graph_of (main.s es h).stations ≡ graph_of (main.s fs k).stations
  same_graph =
      (main.d es h).graph (main.no_more es h p) ∙ ap (λ (cs : List Call). (one_at_a_time cs).nodes) (fed es fs h k same p q) ∙ sym ((main.d fs k).graph (main.no_more fs k q))

  same_session : main.s es h ≡ main.s fs k
  same_session =
      let a = resting es h p in
      let b = resting fs k q in
      λ i. record {
        stations = same_stations (main.s es h).stations (main.s fs k).stations a.units b.units same_graph i;
        top_stream = (a.calls ∙ sym b.calls) i;
        results = same_list (main.s es h).results (main.s fs k).results (main.v es h).order (main.v fs k).order (results_found es fs h k same p q from) (results_found fs es k h (sym same) q p to) i;
        last = last es fs h k same p q i;
      }

  pub same_image : after opening es ≡ after opening fs
  same_image = main.image es h ∙ ap encode same_session ∙ sym (main.image fs k)
