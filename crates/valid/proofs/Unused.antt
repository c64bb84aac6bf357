-- Bytes that no record uses, and the counts of a sound image.
-- Assumes nothing.
use mathlib.Core.Path.{◌≡◌, sym, ap, ◌∙◌}
use Prim.Native.Nat.{ℕ, ◌+◌, ◌-◌, ◌≤◌, ◌<◌}
use native.Mathlib.Omega.{arith}
use native.Mathlib.Decide.{dec_lt}
use mathlib.Core.Bool.{true, false, true≢false}
use mathlib.Core.List.{List, ◌++◌}
use lib.ListN.{length, get_or, take, drop, replicate, length-replicate, get_or-replicate, length-take, length-drop, replicate-append-replicate, get_or-eq_default}
use lib.Seq.{get_or-take, get_or-drop, ext_get_or}
use Rattle.graph.specs.Sessions.{fresh}
use Rattle.text.specs.Text.{pasted}
use Rattle.records.specs.declared.head.Head.{Head}
use Rattle.records.specs.Inner.Numbers.{all_zero}
use Rattle.records.specs.Records.{encode_head}
use Rattle.records.proofs.Zeros.{zeros, all_zeros}
use Rattle.image.specs.Inner.Regions.{Sound, Zeros, node_region, op_region, result_region}
use Rattle.image.specs.Inner.Moves.{Zeroed}
use Rattle.image.specs.Layout.{image_of}
use Rattle.image.proofs.Regions.{count_of}
use Rattle.valid.specs.Values.{encode}
use Rattle.valid.specs.Inner.Exact.{Decides}

module _ (s : List ℕ) where
  pub sound_of : length s ≡ 4112 → get_or s 1 0 ≤ 64 → get_or s 2 0 ≤ 64 → get_or s 3 0 ≤ 64 → Sound s
  sound_of size n o r = record { size = size; nodes = rw (count_of node_region s) n; ops = rw (count_of op_region s) o; results = rw (count_of result_region s) r }

  -- a part that is all zero
  module _ (a b : ℕ) (le : a ≤ b) where
    pub part_zeros : all_zero (take (b - a) (drop a s)) ≡ true → Zeros s a b
    part_zeros e i lo hi =
        let q : i ≡ a + (i - a) = omega arith in
        ap (λ (n : ℕ). get_or s n 0) q ∙ sym (get_or-take (b - a) (drop a s) (i - a) 0 (omega arith) ∙ get_or-drop a s (i - a) 0) ∙ zeros (take (b - a) (drop a s)) e (i - a)

    pub zeros_part : Zeros s a b → all_zero (take (b - a) (drop a s)) ≡ true
    zeros_part z = all_zeros (take (b - a) (drop a s)) (λ i. go i (dec_lt i (b - a)))
      where
        go : (i : ℕ) → Dec (i < b - a) → get_or (take (b - a) (drop a s)) i 0 ≡ 0
        go i (yes h) = get_or-take (b - a) (drop a s) i 0 h ∙ get_or-drop a s i 0 ∙ z (a + i) (omega arith) (omega arith)
        go i (no h) = get_or-eq_default (take (b - a) (drop a s)) 0 (omega (arith, length-take (b - a) (drop a s)))

-- an answer that is no
pub refuses : {P : Type 0} → (P → ⊥) → Decides P false
refuses f = record { implies = λ e. absurd (true≢false (sym e)); implied = λ p. absurd (f p) }

-- OPENING: the head of no nodes, operations and results, and zeros
abbrev pub fresh_head : Head
fresh_head = record { nodes = 0; ops = 0; results = 0; last = 0 }

fresh_bytes : encode fresh ≡ encode_head fresh_head ++ replicate 4096 0
unfolding encode image_of
fresh_bytes =
    ap (λ (l : List ℕ). encode_head fresh_head ++ (replicate 1024 0 ++ l)) (replicate-append-replicate 2048 1024 0)
    ∙ ap (λ (l : List ℕ). encode_head fresh_head ++ l) (replicate-append-replicate 1024 3072 0)

pub opened : (s t : List ℕ) → length s ≡ 4112 → Zeroed 16 4112 s t → pasted t 0 (encode_head fresh_head) ≡ encode fresh
unfolding pasted encode_head
opened s t h c =
    ap (λ (l : List ℕ). encode_head fresh_head ++ l) (ext_get_or 0 (drop 16 t) (replicate 4096 0) (omega (arith, length-drop 16 t, c.size, length-replicate {A = ℕ} 4096 0)) go)
    ∙ sym fresh_bytes
  where
    go : (i : ℕ) → i < length (drop 16 t) → get_or (drop 16 t) i 0 ≡ get_or (replicate 4096 0) i 0
    go i l =
        let k : i < 4096 = omega (arith, length-drop 16 t, c.size) in
        get_or-drop 16 t i 0 ∙ c.zeros (16 + i) (omega arith) (omega arith) ∙ sym (get_or-replicate 4096 i 0 0 k)
