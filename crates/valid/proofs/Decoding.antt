-- Records that pass the tests stand for valid nodes, operations and results, and are their records; and back.
-- Assumes nothing.
use mathlib.Core.Path.{◌≡◌, refl, sym, ap, subst, ◌∙◌}
use Prim.Native.Nat.{ℕ, zero, suc, ◌+◌, ◌-◌, ◌≤◌, ◌<◌, ◌^◌}
use native.Mathlib.Omega.{arith}
use mathlib.Core.Bool.{Bool, true, false, cond, not, true≢false}
use mathlib.Core.List.{List, [], ◌∷◌, ◌++◌}
use lib.Dec.{eqb, leb, ltb}
use lib.ListN.{length, get_or, take, replicate, length-append, length-replicate}
use borrow.Author.Tests.{eqb-true, eqb-false, ltb-true, leb-true, lt-ltb, eq-eqb, ne_eqb}
use Rattle.graph.specs.Words.{modulus}
use Rattle.graph.specs.declared.act.Act.{Act}
use Rattle.graph.specs.declared.act.Act.TheVariants.{Map, Link, Unlink, Sum, Top, Pick, Near}
use Rattle.graph.specs.declared.remaining.Remaining.{Remaining}
use Rattle.graph.specs.declared.remaining.Remaining.TheVariants.{All, Listed}
use Rattle.graph.specs.Packed.{listed, packed, targets_in, packed_targets}
use Rattle.graph.specs.Targets.{Targets, these, all, is_marked, left_of}
use Rattle.graph.specs.Nodes.{Node, Result}
use Rattle.graph.specs.OneAtATime.{Labelled, add_of, op_of}
use Rattle.graph.specs.Valid.{Each, ValidKeys, ValidTargets, ValidNode, ValidAct, ValidHeld, most_labels, ValidOp, ValidResult}
use Rattle.graph.proofs.Answers.{and_left, and_right, by_bool}
use Rattle.graph.proofs.KeyLaws.{listed_packed}
use Rattle.graph.proofs.PackedTargets.{targets_packed}
use Rattle.flat.specs.Inner.Queues.{placed, follows, labels_in}
use Rattle.records.specs.declared.node.NodeRecord.{NodeRecord}
use Rattle.records.specs.declared.op.OpRecord.{OpRecord}
use Rattle.records.specs.declared.result.ResultRecord.{ResultRecord}
use Rattle.records.proofs.Codecs.{FitKeys, FitLabels, FitNode, FitOp, FitResult}
use Rattle.valid.specs.Inner.Decoded.{decoded_node, decoded_result, labels_of, act_of, held_of, read_targets, remaining_of, decoded_call, tagged_of}
use Rattle.valid.specs.Values.{node_record, result_record, packed_labels, Fields, fields, fields_of, written_keys, all_byte, mark_byte, op_record, call_record, tagged_record}
use Rattle.valid.specs.Inner.Tests.{keys_ok, labels_ok, node_ok, operand_ok, multiplier_ok, most_of, targets_ok, all_ok, mark_ok, op_ok, result_ok}
use Rattle.valid.proofs.Facts.{ValidPlaced}
use Rattle.valid.proofs.Packing.{KeysGood, keys_good, keys_packed, packed_ok, packed_fit, LabelsGood, labels_length, labels_good, labels_packed, packed_labels_ok, labels_of_packed}

-- NODES
module _ (i : ℕ) (r : NodeRecord) (f : FitNode r) (e : node_ok i r ≡ true) where
  node_keys : keys_ok false r.links ≡ true
  unfolding node_ok
  node_keys = and_right (eqb r.spare 0) _ (and_right (eqb r.key (i + 1)) _ e)

  pub node_key : (decoded_node r).key ≡ i + 1
  unfolding node_ok
  node_key = eqb-true r.key (i + 1) (and_left _ _ e)

  pub node_valid : ValidNode (decoded_node r)
  node_valid =
      let g = keys_good false r.links f.links node_keys in
      record { value = f.value; few = g.few; keys = g.keys }

  pub node_there : node_record (decoded_node r) ≡ r
  unfolding node_ok
  node_there =
      let z : 0 ≡ r.spare = sym (eqb-true r.spare 0 (and_left _ _ (and_right (eqb r.key (i + 1)) _ e))) in
      λ j. record { value = r.value; key = r.key; links = keys_packed false r.links f.links node_keys j; spare = z j }

module _ (n : Node) (v : ValidNode n) where
  links_good : KeysGood false n.links
  links_good = record { few = v.few; keys = v.keys; rises = λ b. absurd (true≢false (sym b)) }

  pub node_ok_law : (i : ℕ) → n.key ≡ i + 1 → node_ok i (node_record n) ≡ true
  unfolding node_ok
  node_ok_law i e = rw (eq-eqb n.key (i + 1) e) (packed_ok false n.links links_good)

  pub node_back : decoded_node (node_record n) ≡ n
  node_back = λ i. record { key = n.key; value = n.value; links = listed_packed n.links i }

  pub node_fit : FitNode (node_record n)
  node_fit = record { value = v.value; links = packed_fit false n.links links_good; spare = omega arith }

-- RESULTS
module _ (prev : ℕ) (r : ResultRecord) (f : FitResult r) (e : result_ok prev r ≡ true) where
  left_keys : keys_ok true r.left ≡ true
  unfolding result_ok
  left_keys = and_right (eqb r.spare 0) _ (and_right (ltb prev r.label) _ e)

  pub result_over : prev < r.label
  unfolding result_ok
  result_over = ltb-true prev r.label (and_left _ _ e)

  pub result_valid : ValidResult (decoded_result r)
  result_valid =
      let g = keys_good true r.left f.left left_keys in
      record { value = f.value; left = record { few = g.few; keys = g.keys; rise = g.rises refl } }

  pub result_there : result_record (decoded_result r) ≡ r
  unfolding result_ok
  result_there =
      let z : 0 ≡ r.spare = sym (eqb-true r.spare 0 (and_left _ _ (and_right (ltb prev r.label) _ e))) in
      λ j. record { label = r.label; value = r.value; left = keys_packed true r.left f.left left_keys j; spare = z j }

targets_good : (ts : List ℕ) → ValidKeys ts → KeysGood true ts
targets_good ts v = record { few = v.few; keys = v.keys; rises = λ b. v.rise }

module _ (r : Result) (v : ValidResult r) where
  pub result_ok_law : (prev : ℕ) → prev < r.label → result_ok prev (result_record r) ≡ true
  unfolding result_ok
  result_ok_law prev h = rw (lt-ltb prev r.label h) (packed_ok true r.left (targets_good r.left v.left))

  pub result_back : decoded_result (result_record r) ≡ r
  result_back = λ i. record { label = r.label; value = r.value; left = listed_packed r.left i }

  pub result_fit : r.label < 2 ^ 16 → FitResult (result_record r)
  result_fit h = record { label = h; value = v.value; left = packed_fit true r.left (targets_good r.left v.left) }

-- OPERATIONS: the act of a kind
record ActGood (kind key a b : ℕ) : Type 0 where
  act : ValidAct (act_of kind key a b)
  held : ValidHeld (act_of kind key a b) (held_of kind b)
  same : fields_of (act_of kind key a b) (held_of kind b) ≡ fields kind key a b
  most : most_of kind ≡ most_labels (act_of kind key a b)

-- kinds with no operand key, and with one, that hold b
plain : (kind key a b : ℕ) → eqb key 0 ≡ true → eqb a 0 ≡ true → fields kind 0 0 b ≡ fields kind key a b
plain kind key a b k e = λ i. fields kind (sym (eqb-true key 0 k) i) (sym (eqb-true a 0 e) i) b

keyed : (kind key a b : ℕ) → eqb a 0 ≡ true → fields kind key 0 b ≡ fields kind key a b
keyed kind key a b e = λ i. fields kind key (sym (eqb-true a 0 e) i) b

act_good : (kind key a b : ℕ) → a < modulus → b < modulus → (kind ≡ 0 → ⊥) → leb kind 7 ≡ true → operand_ok kind key ≡ true → multiplier_ok kind a ≡ true → ActGood kind key a b
act_good zero key a b ha hb nz l o n = absurd (nz refl)
act_good (suc zero) key a b ha hb nz l o n = record { act = (ha, hb); held = refl; same = λ i. fields 1 (sym (eqb-true key 0 o) i) a b; most = refl }
act_good (suc (suc zero)) key a b ha hb nz l o n = record { act = o; held = hb; same = keyed 2 key a b n; most = refl }
act_good (suc (suc (suc zero))) key a b ha hb nz l o n = record { act = o; held = hb; same = keyed 3 key a b n; most = refl }
act_good (suc (suc (suc (suc zero)))) key a b ha hb nz l o n = record { act = tt; held = hb; same = plain 4 key a b o n; most = refl }
act_good (suc (suc (suc (suc (suc zero))))) key a b ha hb nz l o n = record { act = tt; held = hb; same = plain 5 key a b o n; most = refl }
act_good (suc (suc (suc (suc (suc (suc zero)))))) key a b ha hb nz l o n = record { act = tt; held = hb; same = plain 6 key a b o n; most = refl }
act_good (suc (suc (suc (suc (suc (suc (suc zero))))))) key a b ha hb nz l o n = record { act = o; held = hb; same = keyed 7 key a b n; most = refl }
act_good (suc (suc (suc (suc (suc (suc (suc (suc k)))))))) key a b ha hb nz l o n = absurd (omega (arith, leb-true (suc (suc (suc (suc (suc (suc (suc (suc k)))))))) 7 l))

most_four : (kind : ℕ) → most_of kind ≤ 4
most_four kind = go (eqb kind 1)
  where
    go : (b : Bool) → cond b 4 1 ≤ 4
    go true = omega arith
    go false = omega arith

-- what the test of an operation says, part by part
pub record OpFacts (n prev : ℕ) (o : OpRecord) : Type 0 where
  pub place : placed n (tagged_of o) ≡ true
  pub next : follows prev (tagged_of o) ≡ true
  pub kind : leb o.kind 7 ≡ true
  pub operand : operand_ok o.kind o.key ≡ true
  pub multiplier : multiplier_ok o.kind o.a ≡ true
  pub none : targets_ok o.kind o.targets.count ≡ true
  pub targets : keys_ok true o.targets ≡ true
  pub labels : labels_ok (most_of o.kind) o.labels ≡ true
  pub opens : leb o.opens 1 ≡ true
  pub all : all_ok o.kind o.targets.count o.all ≡ true
  pub mark : mark_ok o.station o.all o.mark ≡ true

pub op_facts : (n prev : ℕ) (o : OpRecord) → op_ok n prev o ≡ true → OpFacts n prev o
unfolding op_ok
op_facts n prev o e =
    let e1 = and_right (placed n (tagged_of o)) _ e in
    let e2 = and_right (follows prev (tagged_of o)) _ e1 in
    let e3 = and_right (leb o.kind 7) _ e2 in
    let e4 = and_right (operand_ok o.kind o.key) _ e3 in
    let e5 = and_right (multiplier_ok o.kind o.a) _ e4 in
    let e6 = and_right (targets_ok o.kind o.targets.count) _ e5 in
    let e7 = and_right (keys_ok true o.targets) _ e6 in
    let e8 = and_right (labels_ok (most_of o.kind) o.labels) _ e7 in
    let e9 = and_right (leb o.opens 1) _ e8 in
    record {
      place = and_left _ _ e;
      next = and_left _ _ e1;
      kind = and_left _ _ e2;
      operand = and_left _ _ e3;
      multiplier = and_left _ _ e4;
      none = and_left _ _ e5;
      targets = and_left _ _ e6;
      labels = and_left _ _ e7;
      opens = and_left _ _ e8;
      all = and_left _ _ e9;
      mark = and_right (all_ok o.kind o.targets.count o.all) _ e9;
    }

pub op_passes : (n prev : ℕ) (o : OpRecord) → OpFacts n prev o → op_ok n prev o ≡ true
unfolding op_ok
op_passes n prev o f = rw (f.place, f.next, f.kind, f.operand, f.multiplier, f.none, f.targets, f.labels, f.opens, f.all) f.mark

pub flag_kept : (x : ℕ) → x ≤ 1 → cond (eqb x 1) 1 0 ≡ x
flag_kept zero h = refl
flag_kept (suc zero) h = refl
flag_kept (suc (suc x)) h = absurd (omega arith)

one_label : (l : List ℕ) (n : ℕ) → n ≡ 1 → 1 ≤ length l → get_or l 0 0 ∷ [] ≡ take n l
one_label [] n e h = absurd (omega arith)
one_label (x ∷ xs) n e h = ap (λ (k : ℕ). take k (x ∷ xs)) (sym e)

no_keys : (ks : List ℕ) (n : ℕ) → n ≡ 0 → [] ≡ take n ks
no_keys ks n e = ap (λ (k : ℕ). take k ks) (sym e)

-- what the bytes for all and for the mark say
record AllFacts (kind count all : ℕ) : Type 0 where
  small : all ≤ 1
  none : eqb all 1 ≡ true → count ≡ 0
  add : kind ≡ 0 → all ≡ 0

all_facts : (kind count a : ℕ) → all_ok kind count a ≡ true → AllFacts kind count a
all_facts kind count zero e = record { small = omega arith; none = λ q. absurd (true≢false (sym q)); add = λ q. refl }
all_facts zero count (suc zero) e = absurd (true≢false (sym e))
all_facts (suc kind) count (suc zero) e =
    record { small = omega arith; none = λ q. eqb-true count 0 (and_right (not (eqb (suc kind) 0)) _ e); add = λ q. absurd (omega arith) }
all_facts kind count (suc (suc a)) e = absurd (true≢false (sym (rw (ne_eqb (suc (suc a)) 0 (λ q. omega arith), ne_eqb (suc (suc a)) 1 (λ q. omega arith)) at e)))

record MarkFacts (station all mark : ℕ) : Type 0 where
  small : mark ≤ 1
  listed : eqb all 1 ≡ false → eqb mark 1 ≡ false
  waits : station ≡ 65 → eqb mark 1 ≡ false

mark_facts : (station a mark : ℕ) → mark_ok station a mark ≡ true → MarkFacts station a mark
mark_facts station a zero e = record { small = omega arith; listed = λ q. refl; waits = λ q. refl }
mark_facts station a (suc zero) e = record {
  small = omega arith;
  listed = λ q. absurd (true≢false (sym (and_left _ _ e) ∙ q));
  waits = λ q. absurd (true≢false (sym (and_right (eqb a 1) _ e) ∙ ap not (eq-eqb station 65 q)));
}
mark_facts station a (suc (suc mark)) e = absurd (true≢false (sym (rw (ne_eqb (suc (suc mark)) 0 (λ q. omega arith), ne_eqb (suc (suc mark)) 1 (λ q. omega arith)) at e)))

module _ (n prev : ℕ) (o : OpRecord) (fit : FitOp o) (e : op_ok n prev o ≡ true) where
  facts : OpFacts n prev o
  facts = op_facts n prev o e

  tgood : KeysGood true (listed o.targets)
  tgood = keys_good true o.targets fit.targets facts.targets

  lgood : LabelsGood (most_of o.kind) (labels_of o.labels)
  lgood = labels_good (most_of o.kind) (most_four o.kind) o.labels fit.labels facts.labels

  agood : (o.kind ≡ 0 → ⊥) → ActGood o.kind o.key o.a o.b
  agood nz = act_good o.kind o.key o.a o.b fit.a fit.b nz facts.kind facts.operand facts.multiplier

  afacts : AllFacts o.kind o.targets.count o.all
  afacts = all_facts o.kind o.targets.count o.all facts.all

  mfacts : MarkFacts o.station o.all o.mark
  mfacts = mark_facts o.station o.all o.mark facts.mark

  -- no key is listed: none is stored
  unlisted : o.targets.count ≡ 0 → packed [] ≡ o.targets
  unlisted z = ap packed (no_keys o.targets.key o.targets.count z) ∙ keys_packed true o.targets fit.targets facts.targets

  -- what is written of some targets is what o has
  record Written (t : Targets) : Type 0 where
    keys : written_keys (packed_targets t) ≡ o.targets
    all : all_byte (packed_targets t) ≡ o.all
    mark : mark_byte (packed_targets t) ≡ o.mark

  all_kept : cond (eqb o.all 1) 1 0 ≡ o.all
  all_kept = flag_kept o.all afacts.small

  mark_kept : cond (eqb o.mark 1) 1 0 ≡ o.mark
  mark_kept = flag_kept o.mark mfacts.small

  not_marked : eqb o.all 1 ≡ false → 0 ≡ o.mark
  not_marked q = sym (ap (λ (b : Bool). cond b 1 0) (mfacts.listed q)) ∙ mark_kept

  remaining_there : Written (targets_in (remaining_of o))
  remaining_there = by_bool (eqb o.all 1)
      (λ q. rw q (record { keys = unlisted (afacts.none q); all = sym (ap (λ (b : Bool). cond b 1 0) q) ∙ all_kept; mark = mark_kept }))
      (λ q. rw q (record { keys = keys_packed true o.targets fit.targets facts.targets; all = sym (ap (λ (b : Bool). cond b 1 0) q) ∙ all_kept; mark = not_marked q }))

  remaining_valid : ValidTargets (targets_in (remaining_of o))
  remaining_valid = by_bool (eqb o.all 1) (λ q. rw q tt) (λ q. rw q (record { few = tgood.few; keys = tgood.keys; rise = tgood.rises refl }))

  unmarked : o.station ≡ 65 → is_marked (targets_in (remaining_of o)) ≡ false
  unmarked w = by_bool (eqb o.all 1) (λ q. rw q (mfacts.waits w)) (λ q. rw q)

  pub call_valid : ValidPlaced o.station (decoded_call o)
  call_valid = by_bool (eqb o.kind 0) (λ q. rw q fit.b) (λ q. rw q (valid (agood (eqb-false o.kind 0 q)), unmarked))
    where
      valid : ActGood o.kind o.key o.a o.b → ValidOp (record { act = act_of o.kind o.key o.a o.b; held = held_of o.kind o.b; targets = targets_in (remaining_of o); labels = labels_of o.labels })
      valid g =
          record {
            act = g.act;
            held = g.held;
            targets = remaining_valid;
            named = lgood.named;
            few = subst (λ (k : ℕ). length (labels_of o.labels) ≤ k) g.most lgood.few;
          }

  -- a record whose parts are those of o is o
  made : (f : Fields) (t : Targets) (ls : List ℕ) → f ≡ fields o.kind o.key o.a o.b → Written t → packed_labels ls ≡ o.labels → op_record o.station (eqb o.opens 1) f t ls ≡ o
  made f t ls p q r =
      λ i.
      record {
        station = o.station;
        opens = flag_kept o.opens (leb-true o.opens 1 facts.opens) i;
        kind = (p i).kind;
        key = (p i).key;
        a = (p i).a;
        b = (p i).b;
        targets = q.keys i;
        labels = r i;
        all = q.all i;
        mark = q.mark i;
      }

  -- an add has one label
  one_count : eqb o.kind 0 ≡ true → o.labels.count ≡ 1
  one_count q =
      let most : most_of o.kind ≡ 1 = ap most_of (eqb-true o.kind 0 q) in
      sym (labels_length (most_of o.kind) (most_four o.kind) o.labels fit.labels facts.labels) ∙ omega (arith, lgood.named, lgood.few, most)

  add_parts : eqb o.kind 0 ≡ true → call_record o.station (eqb o.opens 1) (add_of (get_or o.labels.label 0 0) o.b) ≡ o
  add_parts q =
      let kind : o.kind ≡ 0 = eqb-true o.kind 0 q in
      let op : operand_ok 0 o.key ≡ true = subst (λ (k : ℕ). operand_ok k o.key ≡ true) kind facts.operand in
      let multiplier : multiplier_ok 0 o.a ≡ true = subst (λ (k : ℕ). multiplier_ok k o.a ≡ true) kind facts.multiplier in
      let none : targets_ok 0 o.targets.count ≡ true = subst (λ (k : ℕ). targets_ok k o.targets.count ≡ true) kind facts.none in
      let listed_none : eqb o.all 1 ≡ false = ap (λ (x : ℕ). eqb x 1) (afacts.add kind) in
      made (fields 0 0 0 o.b) (these []) (get_or o.labels.label 0 0 ∷ [])
      (λ i. fields (sym kind i) (sym (eqb-true o.key 0 op) i) (sym (eqb-true o.a 0 multiplier) i) o.b)
      (record { keys = unlisted (eqb-true o.targets.count 0 none); all = sym (afacts.add kind); mark = not_marked listed_none })
      (ap packed_labels (one_label o.labels.label o.labels.count (one_count q) (omega (arith, fit.labels.places)))
      ∙ labels_packed (most_of o.kind) (most_four o.kind) o.labels fit.labels facts.labels)

  pub op_there : tagged_record (tagged_of o) ≡ o
  op_there = by_bool (eqb o.kind 0) (λ q. rw q (add_parts q))
      (λ q. rw q (made _ (targets_in (remaining_of o)) (labels_of o.labels) (agood (eqb-false o.kind 0 q)).same
      remaining_there (labels_packed (most_of o.kind) (most_four o.kind) o.labels fit.labels facts.labels)))

  pub op_labels_same : labels_in (decoded_call o) ≡ labels_of o.labels
  op_labels_same = by_bool (eqb o.kind 0) (λ q. rw q (one_label o.labels.label o.labels.count (one_count q) (omega (arith, fit.labels.places)))) (λ q. rw q)

-- and back: the fields of an act
record FieldsGood (a : Act) (h : ℕ) (f : Fields) : Type 0 where
  kind : leb f.kind 7 ≡ true
  other : eqb f.kind 0 ≡ false
  operand : operand_ok f.kind f.key ≡ true
  multiplier : multiplier_ok f.kind f.a ≡ true
  act : act_of f.kind f.key f.a f.b ≡ a
  held : held_of f.kind f.b ≡ h
  most : most_labels a ≡ most_of f.kind
  small_a : f.a < modulus
  small_b : f.b < modulus

fields_good : (a : Act) (h : ℕ) → ValidAct a → ValidHeld a h → FieldsGood a h (fields_of a h)
fields_good (Map m) h v w = record { kind = refl; other = refl; operand = refl; multiplier = refl; act = refl; held = sym w; most = refl; small_a = v.0; small_b = v.1 }
fields_good (Link k) h v w = record { kind = refl; other = refl; operand = v; multiplier = refl; act = refl; held = refl; most = refl; small_a = omega arith; small_b = w }
fields_good (Unlink k) h v w = record { kind = refl; other = refl; operand = v; multiplier = refl; act = refl; held = refl; most = refl; small_a = omega arith; small_b = w }
fields_good Sum h v w = record { kind = refl; other = refl; operand = refl; multiplier = refl; act = refl; held = refl; most = refl; small_a = omega arith; small_b = w }
fields_good Top h v w = record { kind = refl; other = refl; operand = refl; multiplier = refl; act = refl; held = refl; most = refl; small_a = omega arith; small_b = w }
fields_good Pick h v w = record { kind = refl; other = refl; operand = refl; multiplier = refl; act = refl; held = refl; most = refl; small_a = omega arith; small_b = w }
fields_good (Near k) h v w = record { kind = refl; other = refl; operand = v; multiplier = refl; act = refl; held = refl; most = refl; small_a = omega arith; small_b = w }

-- the labels of a call fit two bytes
abbrev pub Small : List ℕ → Type 0
Small ls = Each (λ l. l < 2 ^ 16) ls

small_at : (ls : List ℕ) (m : ℕ) → Small ls → (i : ℕ) → get_or (ls ++ replicate m 0) i 0 < 2 ^ 16
small_at [] zero s i = omega arith
small_at [] (suc m) s zero = omega arith
small_at [] (suc m) s (suc i) = small_at [] m s i
small_at (l ∷ ls) m s zero = s.0
small_at (l ∷ ls) m s (suc i) = small_at ls m s.1 i

labels_fit : (ls : List ℕ) → length ls ≤ 4 → Small ls → FitLabels (packed_labels ls)
unfolding packed_labels
labels_fit ls h s =
    record {
      places = length-append ls (replicate (4 - length ls) 0) ∙ omega (arith, length-replicate {A = ℕ} (4 - length ls) 0);
      small = λ i l. small_at ls (4 - length ls) s i;
    }

-- what a record of a valid call passes, wherever it stands
pub record RecordGood (p : ℕ) (b : Bool) (c : Labelled) : Type 0 where
  pub back : tagged_of (call_record p b c) ≡ record { place = p; opens = b; call = c }
  pub facts : (n prev : ℕ) → placed n (tagged_of (call_record p b c)) ≡ true → follows prev (tagged_of (call_record p b c)) ≡ true → OpFacts n prev (call_record p b c)
  pub fit : Small (labels_in c) → FitOp (call_record p b c)

pub flag_back : (b : Bool) → eqb (cond b 1 0) 1 ≡ b
flag_back true = refl
flag_back false = refl

-- the bytes for all and for the mark, written and read
pub flags_back : (r : Remaining) → read_targets (written_keys r) (all_byte r) (mark_byte r) ≡ r
flags_back (All done) = ap All (flag_back done)
flags_back (Listed keys) = refl

written_left : (t : Targets) → written_keys (packed_targets t) ≡ packed (left_of t)
written_left (these ts) = refl
written_left (all mark) = refl

flag_small : (b : Bool) → leb (cond b 1 0) 1 ≡ true
flag_small true = refl
flag_small false = refl

no_targets : KeysGood true []
no_targets = record { few = omega arith; keys = refl; rises = λ b. refl }

one_good : (l : ℕ) → LabelsGood 1 (l ∷ [])
one_good l = record { named = omega arith; few = omega arith }

-- the targets of a valid call, in a record at p of a kind that is no add's
record RemainingGood (p kind : ℕ) (t : Targets) : Type 0 where
  keys : KeysGood true (left_of t)
  all : all_ok kind (written_keys (packed_targets t)).count (all_byte (packed_targets t)) ≡ true
  mark : mark_ok p (all_byte (packed_targets t)) (mark_byte (packed_targets t)) ≡ true

remaining_good : (p kind : ℕ) (t : Targets) → eqb kind 0 ≡ false → ValidTargets t → (p ≡ 65 → is_marked t ≡ false) → RemainingGood p kind t
unfolding packed
remaining_good p kind (these ts) k v m =
    record { keys = targets_good ts v; all = refl; mark = refl }
remaining_good p kind (all true) k v m =
    record { keys = no_targets; all = rw k; mark = rw (ne_eqb p 65 (λ e. true≢false (m e))) }
remaining_good p kind (all false) k v m = record { keys = no_targets; all = rw k; mark = refl }

pub record_good : (p : ℕ) (b : Bool) (c : Labelled) → ValidPlaced p c → RecordGood p b c
unfolding packed_labels packed
record_good p b (add_of l v) h =
    record {
      back = λ i. record { place = p; opens = flag_back b i; call = add_of l v };
      facts = λ n prev x y.
          record {
            place = x;
            next = y;
            kind = refl;
            operand = refl;
            multiplier = refl;
            none = refl;
            targets = packed_ok true [] no_targets;
            labels = packed_labels_ok 1 (omega arith) (l ∷ []) (one_good l);
            opens = flag_small b;
            all = refl;
            mark = refl;
          };
      fit = λ s. record { a = omega arith; b = h; targets = packed_fit true [] no_targets; labels = labels_fit (l ∷ []) (omega arith) s };
    }
record_good p b (op_of o) (h, m) = made (fields_good o.act o.held h.act h.held)
  where
    made : FieldsGood o.act o.held (fields_of o.act o.held) → RecordGood p b (op_of o)
    made g =
        let f = fields_of o.act o.held in
        let back = ap targets_in (flags_back (packed_targets o.targets)) ∙ targets_packed o.targets in
        let r = remaining_good p f.kind o.targets g.other h.targets m in
        let few : length o.labels ≤ most_of f.kind = subst (λ (k : ℕ). length o.labels ≤ k) g.most h.few in
        let lg : LabelsGood (most_of f.kind) o.labels = record { named = h.named; few = few } in
        record {
          back =
              (λ i. record { place = p; opens = flag_back b i; call = cond (g.other i) (add_of (get_or (packed_labels o.labels).label 0 0) f.b) (op_of (record { act = g.act i; held = g.held i; targets = back i; labels = labels_of_packed (most_of f.kind) (most_four f.kind) o.labels lg i })) });
          facts = λ n prev x y.
              record {
                place = x;
                next = y;
                kind = g.kind;
                operand = g.operand;
                multiplier = g.multiplier;
                none = rw g.other;
                targets = ap (keys_ok true) (written_left o.targets) ∙ packed_ok true (left_of o.targets) r.keys;
                labels = packed_labels_ok (most_of f.kind) (most_four f.kind) o.labels lg;
                opens = flag_small b;
                all = r.all;
                mark = r.mark;
              };
          fit = λ s.
              record {
                a = g.small_a;
                b = g.small_b;
                targets = subst FitKeys (sym (written_left o.targets)) (packed_fit true (left_of o.targets) r.keys);
                labels = labels_fit o.labels (omega (arith, few, most_four f.kind)) s;
              };
        }
