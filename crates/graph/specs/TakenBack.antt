-- Taking a map back (S-6): "A map and its unmap, in either order with nothing else acting on the targets between them, restore the value of
-- every target present at both. A pair fused is the identity." proofs/Inverses.antt proves it of maps and of a fuse, proofs/TakenBack.antt
-- of one-at-a-time processing, runs/proofs/TakenBack.antt of every list of lines sent to a fresh session.
-- Assumes nothing.
use Rattle.std.specs.Prelude.{ℕ, ◌<◌, ◌≡◌, Bool, true, false, cond, List, [], ◌∷◌, ◌++◌, eqb}
use Rattle.std.proofs.Math.Option.{Option, none, some}
use Rattle.graph.specs.declared.affine.Affine.{Affine}
use Rattle.graph.specs.declared.act.Act.{Act}
use Rattle.graph.specs.declared.act.Act.TheVariants.{Map}
use Rattle.graph.specs.Words.{modulus}
use Rattle.graph.specs.Affine.{identity, composed, inverse}
use Rattle.graph.specs.Targets.{To}
use Rattle.graph.specs.Calls.{Call, add, map, link, unlink, sum, top, pick, near, unmap, to_of}
use Rattle.graph.specs.Nodes.{Node, Op}
use Rattle.graph.specs.Refusals.{done}
use Rattle.graph.specs.Steps.{may_fuse, fuse_ops}
use Rattle.graph.specs.CallResults.{is_target, nodes_after}
use Rattle.graph.specs.Valid.{Each}

-- "the map that undoes" m: n after m and n before m change no value, and no other 32-bit numbers are such a map's
pub record Inverts (m n : Affine) : Type 0 where
  pub after : composed m n ≡ identity
  pub before : composed n m ≡ identity
  pub only : (o : Affine) → o.a < modulus → o.b < modulus → composed m o ≡ identity → o ≡ n

-- "40 an even a": no map undoes m
abbrev pub LacksInverse : Affine → Type 0
LacksInverse m = (n : Affine) → composed m n ≡ identity → ⊥

-- "A map and its unmap, in either order": the acts of the operations that they become
pub data MapAndUnmap (m : Affine) : Act → Act → Type 0 where
  map_first : MapAndUnmap m (Map m) (Map (inverse m))
  unmap_first : MapAndUnmap m (Map (inverse m)) (Map m)

-- "A pair fused is the identity": where the two operations may fuse, they leave a unit of the identity map alone, for the labels of both,
-- with the targets that remain
abbrev pub FusedToIdentity : Op → Op → Type 0
FusedToIdentity o q =
    may_fuse o q ≡ true
    → fuse_ops o q ≡ done ((record { act = Map identity; held = 0; targets = o.targets; labels = o.labels ++ q.labels } ∷ []) ∷ [])

-- "A map and its unmap, in either order", as calls: they have the same numbers, and each has targets of its own
pub data MapAndUnmapCalls (a : ℕ) : Call → Call → Type 0 where
  map_call_first : {b : ℕ} {to also : To} → MapAndUnmapCalls a (map a b to) (unmap a b also)
  unmap_call_first : {b : ℕ} {to also : To} → MapAndUnmapCalls a (unmap a b to) (map a b also)

-- does the call act on the value of the node with this key, if there is one?
abbrev pub acts_on_value : ℕ → Call → Bool
acts_on_value k (add v) = false
acts_on_value k (map a b to) = is_target k to
acts_on_value k (link j to) = false
acts_on_value k (unlink j to) = false
acts_on_value k (sum s to) = false
acts_on_value k (top s to) = false
acts_on_value k (pick s to) = false
acts_on_value k (near j s to) = false
acts_on_value k (unmap a b to) = is_target k to

-- none of the calls does
abbrev pub NoneActs : ℕ → List Call → Type 0
NoneActs k cs = Each (λ e. acts_on_value k e ≡ false) cs

-- the value of the node with this key
abbrev pub value_at : ℕ → List Node → Option ℕ
value_at k [] = none
value_at k (n ∷ ns) = cond (eqb n.key k) (some n.value) (value_at k ns)

-- c and d, with calls before, between and after them
abbrev pub with_pair : (before : List Call) (c : Call) (between : List Call) (d : Call) (later : List Call) → List Call
with_pair before c between d later = before ++ (c ∷ (between ++ (d ∷ later)))

-- c and d are a map and its unmap, k is a target of both, and no call between them acts on its value: "nothing else acting on the targets
-- between them". Nor does one after d
pub record TakenBack (a k : ℕ) (c : Call) (between : List Call) (d : Call) (later : List Call) : Type 0 where
  pub pair : MapAndUnmapCalls a c d
  pub first : is_target k (to_of c) ≡ true
  pub second : is_target k (to_of d) ≡ true
  pub nothing_else : NoneActs k between
  pub nothing_after : NoneActs k later

-- "restore the value of every target present at both": where node k is there before c, its value at the end is what it was, any 32-bit
-- number
abbrev pub Restores : ℕ → (before : List Call) (c : Call) (between : List Call) (d : Call) (later : List Call) → Type 0
Restores k before c between d later =
    (v : ℕ) → v < modulus → value_at k (nodes_after before) ≡ some v → value_at k (nodes_after (with_pair before c between d later)) ≡ some v
