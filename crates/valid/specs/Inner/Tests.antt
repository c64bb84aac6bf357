-- The facts of refusal 2 as tests of an image's records.
-- Assumes nothing.
use Rattle.std.specs.Prelude.{ℕ, zero, suc, ◌+◌, ◌≤◌, ◌≡◌, Bool, true, false, cond, not, ◌&&◌, ◌||◌, List, [], ◌∷◌, ◌++◌, eqb, leb, ltb, length, take, drop, replicate}
use Rattle.graph.specs.declared.keys.Keys.{Keys}
use Rattle.graph.specs.KeyLists.{is_key, contains}
use Rattle.flat.specs.Inner.Queues.{placed, follows}
use Rattle.records.specs.declared.labels.Labels.{Labels}
use Rattle.records.specs.declared.node.NodeRecord.{NodeRecord}
use Rattle.records.specs.declared.op.OpRecord.{OpRecord}
use Rattle.records.specs.declared.result.ResultRecord.{ResultRecord}
use Rattle.records.specs.Inner.Numbers.{all_zero}
use Rattle.image.specs.Layout.{View}
use Rattle.valid.specs.Inner.Decoded.{labels_of, tagged_of}

-- each element passes a test that sees what went before it
module _ {S A : Type 0} (ok : S → A → Bool) (next : S → A → S) where
  unfoldable pub walk : S → List A → Bool
  walk st [] = true
  walk st (x ∷ xs) = ok st x && walk (next st x) xs

-- a key above `low`; the next must be above it too, where they are to rise
abbrev pub key_above : ℕ → ℕ → Bool
key_above low x = ltb low x && leb x 64

abbrev pub floor_after : Bool → ℕ → ℕ
floor_after rise x = cond rise x 0

-- keys in the first n places, zeros after them
unfoldable pub key_places : Bool → ℕ → ℕ → List ℕ → Bool
key_places rise n low [] = true
key_places rise zero low (x ∷ xs) = eqb x 0 && key_places rise zero low xs
key_places rise (suc n) low (x ∷ xs) = key_above low x && key_places rise n (floor_after rise x) xs

unfoldable pub keys_ok : Bool → Keys → Bool
keys_ok rise ks = leb ks.count 8 && key_places rise ks.count 0 ks.key

unfoldable pub labels_ok : ℕ → Labels → Bool
labels_ok most l = leb 1 l.count && (leb l.count most && all_zero (drop l.count l.label))

-- the node of station i + 1
unfoldable pub node_ok : ℕ → NodeRecord → Bool
node_ok i r = eqb r.key (i + 1) && (eqb r.spare 0 && keys_ok false r.links)

-- link, unlink and near have an operand key
abbrev pub takes_key : ℕ → Bool
takes_key kind = eqb kind 2 || (eqb kind 3 || eqb kind 7)

abbrev pub operand_ok : ℕ → ℕ → Bool
operand_ok kind key = cond (takes_key kind) (is_key key) (eqb key 0)

-- only a map has a multiplier, its `a`
abbrev pub multiplier_ok : ℕ → ℕ → Bool
multiplier_ok kind a = cond (eqb kind 1) true (eqb a 0)

-- only maps have several labels
abbrev pub most_of : ℕ → ℕ
most_of kind = cond (eqb kind 1) 4 1

-- an add has no targets
abbrev pub targets_ok : ℕ → ℕ → Bool
targets_ok kind count = cond (eqb kind 0) (eqb count 0) true

-- all: 0, or 1 for a call that lists no targets and is no add
abbrev pub all_ok : ℕ → ℕ → ℕ → Bool
all_ok kind count all = cond (eqb all 0) true (eqb all 1 && (not (eqb kind 0) && eqb count 0))

-- a mark: 0, or 1 "on .. an all-call at a station" (S-3)
abbrev pub mark_ok : ℕ → ℕ → ℕ → Bool
mark_ok station all mark = cond (eqb mark 0) true (eqb mark 1 && (eqb all 1 && not (eqb station 65)))

unfoldable pub op_ok : ℕ → ℕ → OpRecord → Bool
op_ok n prev o =
    placed n (tagged_of o)
    && (follows prev (tagged_of o)
    && (leb o.kind 7
    && (operand_ok o.kind o.key
    && (multiplier_ok o.kind o.a
    && (targets_ok o.kind o.targets.count
    && (keys_ok true o.targets
    && (labels_ok (most_of o.kind) o.labels
    && (leb o.opens 1
    && (all_ok o.kind o.targets.count o.all
    && mark_ok o.station o.all o.mark)))))))))

unfoldable pub result_ok : ℕ → ResultRecord → Bool
result_ok prev r = ltb prev r.label && (eqb r.spare 0 && keys_ok true r.left)

abbrev pub nodes_ok : List NodeRecord → Bool
nodes_ok rs = walk node_ok (λ i r. i + 1) 0 rs

abbrev pub ops_ok : ℕ → List OpRecord → Bool
ops_ok n os = walk (op_ok n) (λ prev o. o.station) 0 os

abbrev pub results_ok : List ResultRecord → Bool
results_ok rs = walk result_ok (λ prev r. r.label) 0 rs

abbrev pub is_add_record : OpRecord → Bool
is_add_record o = eqb o.kind 0

-- how many operations are adds
unfoldable pub adds_among : List OpRecord → ℕ
adds_among [] = 0
adds_among (o ∷ os) = cond (is_add_record o) 1 0 + adds_among os

-- the live labels
unfoldable pub op_labels : List OpRecord → List ℕ
op_labels [] = []
op_labels (o ∷ os) = labels_of o.labels ++ op_labels os

unfoldable pub result_labels : List ResultRecord → List ℕ
result_labels [] = []
result_labels (r ∷ rs) = r.label ∷ result_labels rs

abbrev pub live_labels : View → List ℕ
live_labels v = op_labels v.ops ++ result_labels v.results

-- each was given, and stands once
unfoldable pub given_once : ℕ → List ℕ → Bool
given_once last [] = true
given_once last (x ∷ xs) = leb 1 x && (leb x last && (not (contains x xs) && given_once last xs))

-- labels put into a pool from `at` on: r says where the next goes
pub record Gathers (ls : List ℕ) (at : ℕ) (before after : List ℕ) (r : ℕ) : Type 0 where
  pub size : length after ≡ length before
  pub count : r ≡ at + length ls
  pub front : take r after ≡ take at before ++ ls

-- a pool of n labels, with 64 zeros after them
pub record Padded (n : ℕ) (pool : List ℕ) : Type 0 where
  pub few : n ≤ 64
  pub size : n + 64 ≤ length pool
  pub front : take (n + 64) pool ≡ take n pool ++ replicate 64 0
