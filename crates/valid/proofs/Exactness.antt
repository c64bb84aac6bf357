-- Refusal 2, exactly: an image passes the tests exactly where it is the image of a valid session, which is the only one.
-- Assumes nothing.
use mathlib.Core.Path.{◌≡◌, refl, sym, ap, ap₂, subst, ◌∙◌}
use Prim.Native.Nat.{ℕ, zero, suc, ◌+◌, ◌≤◌, ◌<◌, ◌^◌}
use native.Mathlib.Omega.{arith}
use native.Mathlib.Numerals.{add-one}
use mathlib.Core.Bool.{Bool, true, false, ◌&&◌, true≢false}
use mathlib.Core.List.{List, [], ◌∷◌, ◌++◌, map}
use lib.Dec.{eqb, leb, ltb}
use lib.ListN.{length, get_or, length-append, length-map}
use borrow.Author.Tests.{leb-true, le-leb, lt-ltb, ltb-true}
use Rattle.graph.specs.KeyLists.{above, rising}
use Rattle.graph.specs.Nodes.{Node, Result}
use Rattle.graph.specs.Sessions.{Session, labels_of_results}
use Rattle.graph.specs.Valid.{Each, ValidNode, ValidResult, Given, Valid}
use Rattle.graph.proofs.Answers.{and_left, and_right, by_bool}
use Rattle.graph.proofs.Labels.{length_labels}
use Rattle.graph.proofs.Limits.{each_left, each_right, rising_above, each_at}
use Rattle.flat.specs.Flat.{Tagged, Flat, flat}
use Rattle.flat.specs.Inner.Nested.{nest}
use Rattle.flat.specs.Inner.Queues.{ordered, placed, follows, labels_in, queued, adds_queued, live_in}
use Rattle.flat.proofs.Labels.{labels_many}
use Rattle.flat.proofs.Nesting.{KeysUp, Formed, flat_nest, nest_flat, keyed_nest, order_line, keyed_stations}
use Rattle.records.specs.Inner.Numbers.{chunk, tab}
use Rattle.records.specs.declared.node.NodeRecord.{NodeRecord}
use Rattle.records.specs.declared.op.OpRecord.{OpRecord}
use Rattle.records.specs.declared.result.ResultRecord.{ResultRecord}
use Rattle.records.proofs.Codecs.{Bytes, FitNode, FitOp, FitResult, fit_node, fit_op, fit_result}
use Rattle.image.specs.Inner.Regions.{Region, place, record_at, listed_in, blank, Sound, Canonical, view, node_region, op_region, result_region}
use Rattle.image.specs.Layout.{View, image_of}
use Rattle.image.proofs.Parts.{next_place}
use Rattle.image.proofs.Regions.{count_of}
use Rattle.image.proofs.Whole.{chunk_bytes, image_is, Fit, view_is, image_sound, image_canonical}
use Rattle.valid.specs.Inner.Decoded.{decoded_node, decoded_result, tagged_of, flat_of, session_of}
use Rattle.valid.specs.Values.{node_record, result_record, tagged_record, view_of, encode}
use Rattle.valid.specs.Inner.Exact.{Exact}
use Rattle.valid.specs.Inner.Tests.{walk, node_ok, op_ok, result_ok, nodes_ok, ops_ok, results_ok, adds_among, op_labels, result_labels, live_labels, given_once}
use Rattle.valid.proofs.Decoding.{node_key, node_valid, node_there, node_ok_law, node_back, node_fit, result_over, result_valid, result_there, result_ok_law, result_back, result_fit, op_facts, op_passes, call_valid, op_there, op_labels_same, RecordGood, record_good, Small}
use Rattle.valid.proofs.Counting.{Fresh, fresh_of, fresh_ok}
use Rattle.valid.proofs.Facts.{ValidTagged, queue_named, FlatValid, flat_valid, valid_flat}

-- the tests of what an image shows, one by one
pub record Tested (v : View) : Type 0 where
  pub nodes : nodes_ok v.nodes ≡ true
  pub ops : ops_ok (length v.nodes) v.ops ≡ true
  pub results : results_ok v.results ≡ true
  pub room : length v.nodes + adds_among v.ops ≤ 64
  pub live : (leb (length (live_labels v)) 64 && given_once v.last (live_labels v)) ≡ true

pub record Passes (s : List ℕ) : Type 0 where
  pub sound : Sound s
  pub canonical : Canonical s
  pub shown : Tested (view s)

-- LISTS OF RECORDS THAT PASS
module _ {S A B : Type 0} (ok : S → A → Bool) (next : S → A → S) (f : A → B) (FitA : A → Type 0) where
  -- what holds of each
  pub walk_each : (P : B → Type 0) → ((st : S) (x : A) → FitA x → ok st x ≡ true → P (f x)) → (st : S) (xs : List A) → Each FitA xs → walk ok next st xs ≡ true → Each P (map f xs)
  unfolding walk
  walk_each P h st [] a e = tt
  walk_each P h st (x ∷ xs) a e = (h st x a.0 (and_left _ _ e), walk_each P h (next st x) xs a.1 (and_right (ok st x) _ e))

  -- each is given back by what it stands for
  pub walk_there : (g : B → A) → ((st : S) (x : A) → FitA x → ok st x ≡ true → g (f x) ≡ x) → (st : S) (xs : List A) → Each FitA xs → walk ok next st xs ≡ true → map g (map f xs) ≡ xs
  unfolding walk
  walk_there g h st [] a e = refl
  walk_there g h st (x ∷ xs) a e = λ i. h st x a.0 (and_left _ _ e) i ∷ walk_there g h (next st x) xs a.1 (and_right (ok st x) _ e) i

module _ {A : Type 0} (P : A → Type 0) where
  tab_each : (n : ℕ) (f : ℕ → A) → ((i : ℕ) → i < n → P (f i)) → Each P (tab n f)
  unfolding tab
  tab_each zero f h = tt
  tab_each (suc n) f h = (h 0 (omega arith), tab_each n (λ i. f (suc i)) (λ i l. h (suc i) (omega arith)))

module _ {A B : Type 0} (f : A → B) where
  map_each : (P : A → Type 0) (Q : B → Type 0) → ((x : A) → P x → Q (f x)) → (xs : List A) → Each P xs → Each Q (map f xs)
  map_each P Q h [] e = tt
  map_each P Q h (x ∷ xs) e = (h x e.0, map_each P Q h xs e.1)

  map_back : (g : B → A) (P : A → Type 0) → ((x : A) → P x → g (f x) ≡ x) → (xs : List A) → Each P xs → map g (map f xs) ≡ xs
  map_back g P h [] e = refl
  map_back g P h (x ∷ xs) e = λ i. h x e.0 i ∷ map_back g P h xs e.1 i

-- NODES
keys_up : (i : ℕ) (rs : List NodeRecord) → Each FitNode rs → walk node_ok (λ k r. k + 1) i rs ≡ true → KeysUp (suc i) (map decoded_node rs)
unfolding walk
keys_up i [] a e = tt
keys_up i (r ∷ rs) a e = (
  node_key i r a.0 (and_left _ _ e) ∙ add-one i,
  subst (λ (k : ℕ). KeysUp (suc k) (map decoded_node rs)) (add-one i) (keys_up (i + 1) rs a.1 (and_right (node_ok i r) _ e)),
)

nodes_pass : (i : ℕ) (ns : List Node) → KeysUp (suc i) ns → Each ValidNode ns → walk node_ok (λ k r. k + 1) i (map node_record ns) ≡ true
unfolding walk
nodes_pass i [] k v = refl
nodes_pass i (n ∷ ns) k v =
    rw (node_ok_law n v.0 i (k.0 ∙ sym (add-one i))) (nodes_pass (i + 1) ns (subst (λ (m : ℕ). KeysUp (suc m) ns) (sym (add-one i)) k.1) v.1)

-- RESULTS
results_rise : (prev : ℕ) (rs : List ResultRecord) → Each FitResult rs → walk result_ok (λ p r. r.label) prev rs ≡ true → above prev (labels_of_results (map decoded_result rs)) ≡ true
unfolding walk
results_rise prev [] a e = refl
results_rise prev (r ∷ rs) a e = rw (lt-ltb prev r.label (result_over prev r a.0 (and_left _ _ e))) (results_rise r.label rs a.1 (and_right (result_ok prev r) _ e))

results_pass : (prev : ℕ) (rs : List Result) → above prev (labels_of_results rs) ≡ true → Each ValidResult rs → walk result_ok (λ p r. r.label) prev (map result_record rs) ≡ true
unfolding walk
results_pass prev [] a v = refl
results_pass prev (r ∷ rs) a v = rw (result_ok_law r v.0 prev (ltb-true prev r.label (and_left _ _ a))) (results_pass r.label rs (and_right (ltb prev r.label) _ a) v.1)

above_of : (last : ℕ) (ls : List ℕ) → Each (Given last) ls → rising ls ≡ true → above 0 ls ≡ true
above_of last [] g e = refl
above_of last (l ∷ ls) g e = rw (lt-ltb 0 l g.0.0) e

-- THE QUEUE
in_order : (n prev : ℕ) (os : List OpRecord) → walk (op_ok n) (λ p o. o.station) prev os ≡ true → ordered n prev (map tagged_of os) ≡ true
unfolding walk
in_order n prev [] e = refl
in_order n prev (o ∷ os) e =
    let f = op_facts n prev o (and_left _ _ e) in
    rw (f.place, f.next) (in_order n o.station os (and_right (op_ok n prev o) _ e))

ops_pass : (n prev : ℕ) (q : List Tagged) → ordered n prev q ≡ true → Each ValidTagged q → walk (op_ok n) (λ p o. o.station) prev (map tagged_record q) ≡ true
unfolding walk
ops_pass n prev [] e v = refl
ops_pass n prev (x ∷ xs) e v =
    let g : RecordGood x.place x.opens x.call = record_good x.place x.opens x.call v.0 in
    let h = and_left _ _ e in
    let p : placed n (tagged_of (tagged_record x)) ≡ true = ap (placed n) g.back ∙ and_left _ _ h in
    let q : follows prev (tagged_of (tagged_record x)) ≡ true = ap (follows prev) g.back ∙ and_right (placed n x) _ h in
    rw (op_passes n prev (tagged_record x) (g.facts n prev p q))
    (subst (λ (k : ℕ). walk (op_ok n) (λ p o. o.station) k (map tagged_record xs) ≡ true) (ap (λ (y : Tagged). y.place) (sym g.back))
    (ops_pass n x.place xs (and_right (placed n x && follows prev x) _ e) v.1))

-- adds and labels, of records and of what they stand for
adds_of : (os : List OpRecord) → adds_among os ≡ adds_queued (map tagged_of os)
unfolding adds_among
adds_of [] = refl
adds_of (o ∷ os) = by_bool (eqb o.kind 0) (λ q. rw q (ap (λ (k : ℕ). 1 + k) (adds_of os) ∙ omega arith)) (λ q. rw q (omega (arith, adds_of os)))

labels_of_law : (n prev : ℕ) (os : List OpRecord) → Each FitOp os → walk (op_ok n) (λ p o. o.station) prev os ≡ true → op_labels os ≡ queued (map tagged_of os)
unfolding walk op_labels
labels_of_law n prev [] a e = refl
labels_of_law n prev (o ∷ os) a e =
    ap₂ ◌++◌ (sym (op_labels_same n prev o a.0 (and_left _ _ e))) (labels_of_law n o.station os a.1 (and_right (op_ok n prev o) _ e))

result_labels_of : (rs : List ResultRecord) → result_labels rs ≡ labels_of_results (map decoded_result rs)
unfolding result_labels
result_labels_of [] = refl
result_labels_of (r ∷ rs) = ap (λ (l : List ℕ). r.label ∷ l) (result_labels_of rs)

-- SOUND: bytes that pass are the image of their session, which is valid
module _ (s : List ℕ) (y : Bytes s) (p : Passes s) where
  size : length s ≡ 4112
  size = p.sound.size

  -- each record decoded from bytes fits
  region_fits : {A : Type 0} (R : Region A) (FitA : A → Type 0) → ((bs : List ℕ) → Bytes bs → FitA (R.decode bs)) → place R 64 ≤ length s → length (listed_in R s) ≤ 64 → Each FitA (listed_in R s)
  unfolding listed_in record_at
  region_fits R FitA h end few =
      let count : length (listed_in R s) ≡ get_or s R.slot 0 = count_of R s in
      tab_each FitA (get_or s R.slot 0) (record_at R s)
      (λ i l. h (chunk s (place R i) R.size) (chunk_bytes s y (place R i) R.size (omega (arith, next_place R.size i 64 (omega arith)))))

  nodes_fit : Each FitNode (view s).nodes
  nodes_fit = region_fits node_region FitNode (λ bs b. fit_node bs b) (omega (arith, size)) p.sound.nodes

  ops_fit : Each FitOp (view s).ops
  ops_fit = region_fits op_region FitOp (λ bs b. fit_op bs b) (omega (arith, size)) p.sound.ops

  results_fit : Each FitResult (view s).results
  results_fit = region_fits result_region FitResult (λ bs b. fit_result bs b) (omega (arith, size)) p.sound.results

  same_count : length (map decoded_node (view s).nodes) ≡ length (view s).nodes
  same_count = length-map (view s).nodes decoded_node

  live_of : live_labels (view s) ≡ live_in (flat_of (view s))
  live_of = ap₂ ◌++◌ (labels_of_law (length (view s).nodes) 0 (view s).ops ops_fit p.shown.ops) (result_labels_of (view s).results)

  pub shown_valid : FlatValid (flat_of (view s))
  shown_valid =
      let keep = leb (length (live_labels (view s))) 64 in
      record {
        keys = keys_up 0 (view s).nodes nodes_fit p.shown.nodes;
        nodes = walk_each node_ok (λ k r. k + 1) decoded_node FitNode ValidNode (λ k r f e. node_valid k r f e) 0 (view s).nodes nodes_fit p.shown.nodes;
        order = subst (λ (k : ℕ). ordered k 0 (map tagged_of (view s).ops) ≡ true) (sym same_count) (in_order (length (view s).nodes) 0 (view s).ops p.shown.ops);
        queue = walk_each (op_ok (length (view s).nodes)) (λ q o. o.station) tagged_of FitOp ValidTagged (λ q o f e. call_valid (length (view s).nodes) q o f e) 0 (view s).ops ops_fit p.shown.ops;
        results = walk_each result_ok (λ q r. r.label) decoded_result FitResult ValidResult (λ q r f e. result_valid q r f e) 0 (view s).results results_fit p.shown.results;
        room = omega (arith, p.shown.room, same_count, adds_of (view s).ops);
        rise = rising_above 0 (labels_of_results (map decoded_result (view s).results)) (results_rise 0 (view s).results results_fit p.shown.results);
        fresh = subst (λ (ls : List ℕ). Fresh (view s).last ls) live_of (fresh_of (view s).last (live_labels (view s)) (and_right keep _ p.shown.live));
        places = subst (λ (ls : List ℕ). length ls ≤ 64) live_of (leb-true (length (live_labels (view s))) 64 (and_left _ _ p.shown.live));
        labels = omega (arith, y 4, y 5);
      }

  formed : Formed (flat_of (view s))
  formed =
      let few : length (map decoded_node (view s).nodes) ≤ 64 = omega (arith, same_count, p.sound.nodes) in
      record { room = few; keys = shown_valid.keys; line = order_line (length (map decoded_node (view s).nodes)) (map tagged_of (view s).ops) few shown_valid.order }

  shown_back : view_of (flat_of (view s)) ≡ view s
  shown_back =
      λ i.
      record {
        nodes = walk_there node_ok (λ k r. k + 1) decoded_node FitNode node_record (λ k r f e. node_there k r f e) 0 (view s).nodes nodes_fit p.shown.nodes i;
        ops = walk_there (op_ok (length (view s).nodes)) (λ q o. o.station) tagged_of FitOp tagged_record (λ q o f e. op_there (length (view s).nodes) q o f e) 0 (view s).ops ops_fit p.shown.ops i;
        results = walk_there result_ok (λ q r. r.label) decoded_result FitResult result_record (λ q r f e. result_there q r f e) 0 (view s).results results_fit p.shown.results i;
        last = (view s).last;
      }

  pub passes_valid : Valid (session_of s)
  unfolding session_of
  passes_valid = valid_flat (nest (flat_of (view s))) (keyed_nest (flat_of (view s)) formed) (subst FlatValid (sym (flat_nest (flat_of (view s)) formed)) shown_valid)

  pub passes_image : encode (session_of s) ≡ s
  unfolding encode session_of
  passes_image = ap (λ (f : Flat). image_of (view_of f)) (flat_nest (flat_of (view s)) formed) ∙ ap image_of shown_back ∙ image_is s y p.sound p.canonical

-- COMPLETE: the image of a valid session passes, and gives the session back
small_each : (last : ℕ) → last ≤ 65535 → (ls : List ℕ) → Each (Given last) ls → Small ls
small_each last h [] g = tt
small_each last h (l ∷ ls) g = (omega (arith, g.0.1), small_each last h ls g.1)

-- the labels of each call of a queue fit
queue_small : (q : List Tagged) → Small (queued q) → Each (λ x. Small (labels_in x.call)) q
queue_small [] s = tt
queue_small (x ∷ xs) s =
    (each_left (λ l. l < 2 ^ 16) (labels_in x.call) (queued xs) s, queue_small xs (each_right (λ l. l < 2 ^ 16) (labels_in x.call) (queued xs) s))

both : {A : Type 0} (P Q : A → Type 0) (xs : List A) → Each P xs → Each Q xs → Each (λ x. P x × Q x) xs
both P Q [] p q = tt
both P Q (x ∷ xs) p q = ((p.0, q.0), both P Q xs p.1 q.1)

results_small : (rs : List Result) → Small (labels_of_results rs) → Each (λ r. r.label < 2 ^ 16) rs
results_small [] s = tt
results_small (r ∷ rs) s = (s.0, results_small rs s.1)

module _ (f : Flat) (v : FlatValid f) where
  small : Small (live_in f)
  small = small_each f.last v.labels (live_in f) v.fresh.given

  calls_small : Each (λ x. ValidTagged x × Small (labels_in x.call)) f.queue
  calls_small = both ValidTagged (λ x. Small (labels_in x.call)) f.queue v.queue (queue_small f.queue (each_left (λ l. l < 2 ^ 16) (queued f.queue) (labels_of_results f.results) small))

  results_valid : Each (λ r. ValidResult r × (r.label < 2 ^ 16)) f.results
  results_valid = both ValidResult (λ r. r.label < 2 ^ 16) f.results v.results (results_small f.results (each_right (λ l. l < 2 ^ 16) (queued f.queue) (labels_of_results f.results) small))

  both_lists : length (live_in f) ≡ length (queued f.queue) + length (labels_of_results f.results)
  both_lists = length-append (queued f.queue) (labels_of_results f.results)

  pub back : flat_of (view_of f) ≡ f
  back =
      λ i.
      record {
        nodes = map_back node_record decoded_node ValidNode (λ n h. node_back n h) f.nodes v.nodes i;
        queue = map_back tagged_record tagged_of ValidTagged (λ x h. (record_good x.place x.opens x.call h).back) f.queue v.queue i;
        results = map_back result_record decoded_result ValidResult (λ r h. result_back r h) f.results v.results i;
        last = f.last;
      }

  pub fit : Fit (view_of f)
  fit =
      record {
        last = omega (arith, v.labels);
        few_nodes = omega (arith, v.room, length-map f.nodes node_record);
        few_ops = omega (arith, length-map f.queue tagged_record, labels_many f.queue (queue_named f.queue v.queue), both_lists, v.places);
        few_results = omega (arith, length-map f.results result_record, length_labels f.results, both_lists, v.places);
        nodes = each_at FitNode (map node_record f.nodes) (blank node_region) (map_each node_record ValidNode FitNode (λ n h. node_fit n h) f.nodes v.nodes);
        ops = each_at FitOp (map tagged_record f.queue) (blank op_region)
            (map_each tagged_record (λ x. ValidTagged x × Small (labels_in x.call)) FitOp (λ x h. (record_good x.place x.opens x.call h.0).fit h.1) f.queue calls_small);
        results = each_at FitResult (map result_record f.results) (blank result_region)
            (map_each result_record (λ r. ValidResult r × (r.label < 2 ^ 16)) FitResult (λ r h. result_fit r h.0 h.1) f.results results_valid);
      }

  nodes_length : length (map node_record f.nodes) ≡ length f.nodes
  nodes_length = length-map f.nodes node_record

  ops_ok_law : ops_ok (length (map node_record f.nodes)) (map tagged_record f.queue) ≡ true
  ops_ok_law = subst (λ (k : ℕ). ops_ok k (map tagged_record f.queue) ≡ true) (sym nodes_length) (ops_pass (length f.nodes) 0 f.queue v.order v.queue)

  ops_each : Each FitOp (map tagged_record f.queue)
  ops_each = map_each tagged_record (λ x. ValidTagged x × Small (labels_in x.call)) FitOp (λ x h. (record_good x.place x.opens x.call h.0).fit h.1) f.queue calls_small

  live_back : live_labels (view_of f) ≡ live_in f
  live_back =
      ap₂ ◌++◌ (labels_of_law (length (map node_record f.nodes)) 0 (map tagged_record f.queue) ops_each ops_ok_law) (result_labels_of (map result_record f.results))
      ∙ ap live_in back

  pub view_passes : Tested (view_of f)
  view_passes =
      record {
        nodes = nodes_pass 0 f.nodes v.keys v.nodes;
        ops = ops_ok_law;
        results = results_pass 0 f.results (above_of f.last (labels_of_results f.results) (each_right (Given f.last) (queued f.queue) (labels_of_results f.results) v.fresh.given) v.rise) v.results;
        room = omega (arith, v.room, nodes_length, adds_of (map tagged_record f.queue), ap (λ (g : Flat). adds_queued g.queue) back);
        live = rw (live_back, le-leb (length (live_in f)) 64 v.places) (fresh_ok f.last (live_in f) v.fresh);
      }

module _ (x : Session) (h : Valid x) where
  f : FlatValid (flat x)
  f = flat_valid x h

  abbrev w : View
  w = view_of (flat x)

  shown : view (encode x) ≡ w
  unfolding encode
  shown = view_is w (fit (flat x) f)

  pub valid_passes : Passes (encode x)
  unfolding encode
  valid_passes =
      record { sound = image_sound w (fit (flat x) f); canonical = image_canonical w (fit (flat x) f); shown = subst Tested (sym shown) (view_passes (flat x) f) }

  pub valid_back : x ≡ session_of (encode x)
  unfolding session_of
  valid_back = sym (ap (λ (u : View). nest (flat_of u)) shown ∙ ap nest (back (flat x) f) ∙ nest_flat x (keyed_stations x.stations h.falling h.stations) (omega (arith, h.room)))

-- THE ANSWER
pub exactly : (s : List ℕ) (r : Bool) → Bytes s → (r ≡ true → Passes s) → (Passes s → r ≡ true) → Exact s r
exactly s r y to from =
    record {
      implies = λ e. (passes_valid s y (to e), passes_image s y (to e));
      implied = λ x h e. (from (subst Passes e (valid_passes x h)), valid_back x h ∙ ap session_of e);
    }

pub refused : (s : List ℕ) → (Passes s → ⊥) → Exact s false
refused s f = record { implies = λ e. absurd (true≢false (sym e)); implied = λ x h e. absurd (f (subst Passes e (valid_passes x h))) }
