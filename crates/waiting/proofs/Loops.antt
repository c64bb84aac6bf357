-- Sums and searches over the queue, by index.
-- Assumes nothing.
use mathlib.Core.Path.{◌≡◌, refl, sym, ap, ◌∙◌}
use Prim.Native.Nat.{ℕ, zero, suc, ◌+◌, ◌≤◌, ◌<◌}
use native.Mathlib.Numerals.{add-one}
use native.Mathlib.Omega.{arith}
use mathlib.Core.Bool.{Bool, true, false, not, ◌||◌, true≢false}
use mathlib.Core.List.{List, [], ◌∷◌}
use lib.ListN.{length, get_or, drop, length-append, drop_of_length-le}
use lib.Seq.{drop-cons}
use Rattle.std.specs.List.{list_any, filter, range_with_len}
use Rattle.graph.specs.KeyLists.{contains}
use Rattle.graph.specs.OneAtATime.{Labelled, add_of, op_of, is_op}
use Rattle.graph.proofs.Answers.{by_bool}
use Rattle.flat.specs.Flat.{Tagged}
use Rattle.flat.specs.Inner.Queues.{labels_in, queued, add_in, adds_queued}
use Rattle.flat.specs.Inner.FlatSteps.{no_op}
use Rattle.valid.proofs.Turns.{contains_append}

-- an add counts for one, any other call for none
adds_one : (c : Labelled) → not (is_op c) ≡ true → add_in c ≡ 1
adds_one (add_of l v) e = refl
adds_one (op_of o) e = absurd (true≢false (sym e))

adds_none : (c : Labelled) → not (is_op c) ≡ false → add_in c ≡ 0
adds_none (add_of l v) e = absurd (true≢false e)
adds_none (op_of o) e = refl

add_few : (c : Labelled) → add_in c ≤ 1
add_few (add_of l v) = omega arith
add_few (op_of o) = omega arith

pub adds_few : (q : List Tagged) → adds_queued q ≤ length q
adds_few [] = omega arith
adds_few (x ∷ xs) = omega (arith, add_few x.call, adds_few xs)

module _ (q : List Tagged) where
  abbrev pub call_at : ℕ → Labelled
  call_at i = (get_or q i no_op).call

  -- the queue has a call at i
  module _ (i : ℕ) (h : i < length q) where
    here : drop i q ≡ get_or q i no_op ∷ drop (i + 1) q
    here = rw add-one (drop-cons q i no_op h)

    adds_next : adds_queued (drop i q) ≡ add_in (call_at i) + adds_queued (drop (i + 1) q)
    adds_next = ap adds_queued here

    pub labels_next : length (queued (drop i q)) ≡ length (labels_in (call_at i)) + length (queued (drop (i + 1) q))
    labels_next = ap (λ (r : List Tagged). length (queued r)) here ∙ length-append (labels_in (call_at i)) (queued (drop (i + 1) q))

    names_next : (l : ℕ) → contains l (queued (drop i q)) ≡ (contains l (labels_in (call_at i)) || contains l (queued (drop (i + 1) q)))
    names_next l = ap (λ (r : List Tagged). contains l (queued r)) here ∙ contains_append l (labels_in (call_at i)) (queued (drop (i + 1) q))

  -- from the call at a to the last
  adds_from : (a n : ℕ) → a + n ≡ length q → length (filter (λ i. not (is_op (call_at i))) (range_with_len a n)) ≡ adds_queued (drop a q)
  adds_from a zero e = sym (ap adds_queued (drop_of_length-le q (omega arith)))
  adds_from a (suc n) e =
      let more = adds_from (a + 1) n (omega arith) in
      let next = adds_next a (omega arith) in
      by_bool (not (is_op (call_at a)))
      (λ t. rw t (omega (arith, more, next, adds_one (call_at a) t)))
      (λ t. rw t (omega (arith, more, next, adds_none (call_at a) t)))

  names_from : (l a n : ℕ) → a + n ≡ length q → list_any (λ i. contains l (labels_in (call_at i))) (range_with_len a n) ≡ contains l (queued (drop a q))
  names_from l a zero e = sym (ap (λ (r : List Tagged). contains l (queued r)) (drop_of_length-le q (omega arith)))
  names_from l a (suc n) e =
      ap (λ (b : Bool). contains l (labels_in (call_at a)) || b) (names_from l (a + 1) n (omega arith)) ∙ sym (names_next a (omega arith) l)

  -- so from the first
  pub adds_counted : (n : ℕ) → n ≡ length q → length (filter (λ i. not (is_op (call_at i))) (range_with_len 0 n)) ≡ adds_queued q
  adds_counted n e = adds_from 0 n (omega arith)

  pub names_any : (l n : ℕ) → n ≡ length q → list_any (λ i. contains l (labels_in (call_at i))) (range_with_len 0 n) ≡ contains l (queued q)
  names_any l n e = names_from l 0 n (omega arith)
