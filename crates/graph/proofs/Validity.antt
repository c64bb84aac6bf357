-- Every step, acceptance and claim keeps a session valid, from every valid session.
-- Assumes nothing.
use mathlib.Core.Path.{◌≡◌, refl, sym, ◌∙◌, ap}
use Prim.Native.Nat.{ℕ, suc, ◌+◌, ◌≤◌, ◌<◌}
use native.Mathlib.Omega.{arith}
use mathlib.Core.Bool.{Bool, true, false, cond, ◌&&◌, true≢false}
use mathlib.Core.List.{List, [], ◌∷◌, ◌++◌}
use lib.Dec.{eqb, leb, ltb, lit≤}
use lib.ListN.{length}
use borrow.Author.Tests.{leb-true, leb-false, le-leb, ltb-true, ne_eqb, eqb-true, not-false}
use Rattle.graph.specs.declared.act.Act.{Act}
use Rattle.graph.specs.Refusals.{Answer, refused, done, map_done, Test, unless}
use Rattle.graph.specs.Words.{modulus, are_words}
use Rattle.graph.specs.KeyLists.{is_key, are_keys, above, rising, contains, count}
use Rattle.graph.specs.Targets.{To, named, whole, keys_listed, untouched, is_marked}
use Rattle.graph.specs.Calls.{Call, add, map, link, unlink, sum, top, pick, near, unmap, numbers_of, operands_of, to_of, listed_of, lacks_inverse, form_tests}
use Rattle.graph.specs.OneAtATime.{is_add, Labelled, add_of, op_of, operation, labelled}
use Rattle.graph.specs.Nodes.{Op, Result, add_result}
use Rattle.graph.specs.Sessions.{Station, Session, fresh, insert, store, labels_of_stations, labels_of_calls, labels_of_results, pending, live, adds_in}
use Rattle.graph.specs.Steps.{Step, Change, enter, admitted, changed, admit_head, step_at, step}
use Rattle.graph.specs.Acceptance.{call_tests, accepted, accept, Claimed, take_result, claim, keeping}
use Rattle.graph.specs.Valid.{Each, ValidKeys, ValidTargets, ValidAct, ValidHeld, most_labels, ValidOp, ValidUnit, ValidStation, ValidCall, ValidResult, KeysFall, Given, Valid}
use Rattle.graph.proofs.Answers.{Holds, refuses, holds, holds_map, holds_cond, by_bool, and_left, and_right, and_both, test_most}
use Rattle.graph.proofs.Inverses.{inverse_fits}
use Rattle.graph.proofs.Effects.{Effect, realised, moved, finished, reshaped, further, effect_at, effect_size, by_station}
use Rattle.graph.proofs.Limits.{each_append, above_lower, rising_above, ValidChange, valid_effect, valid_stored, valid_new_node, valid_add_result}
use Rattle.graph.proofs.Outcome.{sum as sum_of}
use Rattle.graph.proofs.Labels.{total, by_label, is, one, stray, total_append, total_is, total_one, total_results, given_stray, stray_given, SameLabels, step_labels, store_rising}

pub valid_fresh : Valid fresh
valid_fresh = record {
  falling = tt;
  stations = tt;
  top_stream = tt;
  results = tt;
  room = omega arith;
  order = refl;
  given = tt;
  once = λ l. omega arith;
  places = omega arith;
  labels = omega arith;
}

-- STEPS
-- what is local in a valid session: all but the live labels
record Local (s : Session) : Type 0 where
  falling : KeysFall s.stations
  stations : Each ValidStation s.stations
  top_stream : Each ValidCall s.top_stream
  results : Each ValidResult s.results
  room : length s.stations + adds_in s.top_stream ≤ 64

effect_falling : {k : ℕ} {ss : List Station} {c : Change} → Effect k ss c → KeysFall ss → KeysFall c.now
effect_falling (realised n pre o post us ss e h) g = g
effect_falling (moved n u us s ss e) g = g
effect_falling (finished n pre o post us ss e) g = g
effect_falling (reshaped n ss h) g = g
effect_falling (further s h) g = (g.0 ∙ sym (ap suc (effect_size h)), effect_falling h g.1)

each_insert : (r : Result) (rs : List Result) → ValidResult r → Each ValidResult rs → Each ValidResult (insert r rs)
each_insert r [] g h = (g, tt)
each_insert r (q ∷ qs) g h = go (ltb r.label q.label) (each_insert r qs g h.1)
  where
    go : (b : Bool) → Each ValidResult (insert r qs) → Each ValidResult (cond b (r ∷ q ∷ qs) (q ∷ insert r qs))
    go true x = (g, h)
    go false x = (h.0, x)

each_store : (new rs : List Result) → Each ValidResult new → Each ValidResult rs → Each ValidResult (store new rs)
each_store [] rs g h = h
each_store (r ∷ new) rs g h = each_store new (insert r rs) g.1 (each_insert r rs g.0 h)

local_at : (k : ℕ) (t : Step) (s : Session) → Valid s → Holds Local (step_at k t s)
local_at k t s g = holds_map _ (λ c h.
    let x = valid_effect h g.stations in
    record {
      falling = effect_falling h g.falling;
      stations = x.now;
      top_stream = g.top_stream;
      results = each_store c.new_results s.results x.new_results g.results;
      room = omega (arith, effect_size h, g.room);
    }) (effect_at k t s.stations)

-- a valid operation enters
record Entered (ss : List Station) (c : Change) : Type 0 where
  falling : KeysFall c.now
  change : ValidChange c
  size : length c.now ≡ length ss

entered : (o : Op) (ss : List Station) → ValidOp o → KeysFall ss → Each ValidStation ss → Entered ss (enter o ss)
entered o [] v f g = record { falling = tt; change = record { now = tt; new_results = valid_stored o v }; size = refl }
entered o (s ∷ ss) v f g = record {
  falling = f;
  change = record {
    now = (record { node = g.0.node; units = each_append ValidUnit s.units ((o ∷ []) ∷ []) g.0.units (record { some = omega arith; ops = (v, tt) }, tt) }, g.1);
    new_results = tt;
  };
  size = refl;
}

local_admit : (s : Session) (cs : List Labelled) → Each ValidCall cs → length s.stations + adds_in cs ≤ 64 → Valid s → Holds Local (admit_head s cs)
local_admit s [] v r g = refuses
local_admit s (add_of l x ∷ cs) v r g = holds {a = changed s cs (admitted (add_of l x) s.stations)} (record {
  falling = (refl, g.falling);
  stations = (record { node = valid_new_node (length s.stations) x v.0; units = tt }, g.stations);
  top_stream = v.1;
  results = each_insert (add_result l (length s.stations)) s.results (valid_add_result l (length s.stations) (omega arith)) g.results;
  room = omega arith;
})
local_admit s (op_of o ∷ cs) v r g =
    let x = entered o s.stations v.0.op g.falling g.stations in
    holds {a = changed s cs (enter o s.stations)} (record {
      falling = x.falling;
      stations = x.change.now;
      top_stream = v.1;
      results = each_store (enter o s.stations).new_results s.results x.change.new_results g.results;
      room = omega (arith, x.size);
    })

step_local : (t : Step) (s : Session) → Valid s → Holds Local (step t s)
step_local t s g = by_station (λ t. Local) s (local_admit s s.top_stream g.top_stream g.room g) (λ k t. local_at k t s g) t

-- what a step stores, and the last label, which no step changes
record Stores (s t : Session) : Type 0 where
  new : List Result
  kept : t.results ≡ store new s.results
  last : t.last ≡ s.last

admit_stores : (s : Session) (cs : List Labelled) → Holds (Stores s) (admit_head s cs)
admit_stores s [] = refuses
admit_stores s (c ∷ cs) = holds {a = changed s cs (admitted c s.stations)} (record { new = (admitted c s.stations).new_results; kept = refl; last = refl })

at_stores : (k : ℕ) (t : Step) (s : Session) → Holds (Stores s) (step_at k t s)
at_stores k t s = holds_map _ (λ c h. record { new = c.new_results; kept = refl; last = refl }) (effect_at k t s.stations)

step_stores : (t : Step) (s : Session) → Holds (Stores s) (step t s)
step_stores t s = by_station (λ t. Stores s) s (admit_stores s s.top_stream) (λ k t. at_stores k t s) t

-- the results' own labels are live
count_results : (l : ℕ) (s : Session) → count l (labels_of_results s.results) ≤ count l (live s)
count_results l s = omega (arith, total_append (is l) (pending s) (labels_of_results s.results), total_is l (live s), total_is l (labels_of_results s.results))

same_count : (l : ℕ) (s t : Session) → SameLabels s t → count l (live t) ≡ count l (live s)
same_count l s t h = sym (total_is l (live t)) ∙ h.labels (is l) ∙ total_is l (live s)

pub record Stepped (s t : Session) : Type 0 where
  pub valid : Valid t
  pub last : t.last ≡ s.last

pub step_valid : (t : Step) (s : Session) → Valid s → Holds (Stepped s) (step t s)
step_valid t s g = go (step t s) (step_local t s g) (step_labels t s) (step_stores t s)
  where
    made : (u : Session) → Local u → SameLabels s u → Stores s u → Valid u
    made u a b c =
        let once : (l : ℕ) → count l (live u) ≤ 1 = λ l. omega (arith, g.once l, same_count l s u b) in
        let stored : (l : ℕ) → count l (labels_of_results (store c.new s.results)) ≤ 1 = λ l. omega (arith, once l, count_results l u, ap (λ (rs : List Result). count l (labels_of_results rs)) c.kept) in
        record {
          falling = a.falling;
          stations = a.stations;
          top_stream = a.top_stream;
          results = a.results;
          room = a.room;
          order = rw c.kept (store_rising c.new s.results stored g.order);
          given = rw c.last (stray_given s.last (live u) (b.labels (stray s.last) ∙ given_stray s.last (live s) g.given));
          once = once;
          places = omega (arith, b.labels one, total_one (live u), total_one (live s), g.places);
          labels = omega (arith, c.last, g.labels);
        }

    go : (x : Answer Session) → Holds Local x → Holds (SameLabels s) x → Holds (Stores s) x → Holds (Stepped s) x
    go (refused r) a b c = refuses
    go (done u) (holds a) (holds b) (holds c) = holds {a = u} (record { valid = made u a b c; last = c.last })

-- CLAIMS
-- the results that stay, of those that were there
record Fewer (rs : List Result) (c : Claimed) : Type 0 where
  found : (w : Result → ℕ) → sum_of w rs ≡ w c.result + sum_of w c.others
  each : Each ValidResult rs → Each ValidResult c.others
  lower : (d : ℕ) → above d (labels_of_results rs) ≡ true → above d (labels_of_results c.others) ≡ true
  order : rising (labels_of_results rs) ≡ true → rising (labels_of_results c.others) ≡ true

take_fewer : (l : ℕ) (rs : List Result) → Holds (Fewer rs) (take_result l rs)
take_fewer l [] = refuses
take_fewer l (r ∷ rs) =
    holds_cond (eqb r.label l)
    (λ e. holds {a = record { result = r; others = rs }} (record {
      found = λ w. refl;
      each = λ h. h.1;
      lower = λ d h. above_lower d r.label (labels_of_results rs) (omega (arith, ltb-true d r.label (and_left _ _ h))) (and_right (ltb d r.label) _ h);
      order = λ h. rising_above r.label (labels_of_results rs) h;
    }))
    (λ e. holds_map _ (λ c h. record {
      found = λ w. omega (arith, h.found w);
      each = λ x. (x.0, h.each x.1);
      lower = λ d x. and_both (and_left (ltb d r.label) _ x) (h.lower r.label (and_right (ltb d r.label) _ x));
      order = λ x. h.lower r.label x;
    }) (take_fewer l rs))

-- what a claim gives, and that the session without it is valid
pub record ValidClaim (s : Session) (c : Claimed) : Type 0 where
  pub found : (w : Result → ℕ) → sum_of w s.results ≡ w c.result + sum_of w c.others
  pub valid : Valid (keeping s c.others)

claimed_valid : (s : Session) (c : Claimed) → Valid s → Fewer s.results c → ValidClaim s c
claimed_valid s c g h =
    let t : Session = keeping s c.others in
    let less : (v : ℕ → ℕ) → total v (live t) ≤ total v (live s) = λ v. omega (
      arith,
      h.found (by_label v),
      total_results v s.results,
      total_results v c.others,
      total_append v (pending s) (labels_of_results s.results),
      total_append v (pending s) (labels_of_results c.others),
    ) in
    record {
      found = h.found;
      valid = record {
        falling = g.falling;
        stations = g.stations;
        top_stream = g.top_stream;
        results = h.each g.results;
        room = g.room;
        order = h.order g.order;
        given = stray_given s.last (live t) (omega (arith, less (stray s.last), given_stray s.last (live s) g.given));
        once = λ l. omega (arith, less (is l), total_is l (live s), total_is l (live t), g.once l);
        places = omega (arith, less one, total_one (live s), total_one (live t), g.places);
        labels = g.labels;
      };
    }

pub claim_valid : (l : ℕ) (s : Session) → Valid s → Holds (ValidClaim s) (claim l s)
claim_valid l s g =
    holds_cond (leb 1 l && leb l s.last) (λ e. holds_cond (contains l (pending s)) (λ f. refuses) (λ f. go (take_result l s.results) (take_fewer l s.results))) (λ e. refuses)
  where
    go : (x : Answer Claimed) → Holds (Fewer s.results) x → Holds (ValidClaim s) x
    go (refused r) h = refuses
    go (done c) (holds h) = holds {a = c} (claimed_valid s c g h)

-- a claim is refused with a number, 31 only where the label is pending; or it gives a result with the label
abbrev pub Fine : ℕ → Session → Answer Claimed → Type 0
Fine l s (refused n) = (1 ≤ n) × (n ≡ 31 → contains l (pending s) ≡ true)
Fine l s (done c) = (c.result.label ≡ l) × ValidResult c.result

take_fine : (l : ℕ) (s : Session) (rs : List Result) → Each ValidResult rs → Fine l s (take_result l rs)
take_fine l s [] h = (omega arith, λ e. absurd (omega arith))
take_fine l s (r ∷ rs) h = go (eqb r.label l) refl (take_result l rs) (take_fine l s rs h.1)
  where
    go : (b : Bool) → eqb r.label l ≡ b → (a : Answer Claimed) → Fine l s a → Fine l s (cond b (done (record { result = r; others = rs })) (map_done (λ (c : Claimed). record { result = c.result; others = r ∷ c.others }) a))
    go true e a ih = (eqb-true r.label l e, h.0)
    go false e (refused n) ih = ih
    go false e (done c) ih = ih

pub claim_fine : (l : ℕ) (s : Session) → Valid s → Fine l s (claim l s)
claim_fine l s v = go (leb 1 l && leb l s.last) (contains l (pending s)) refl (take_result l s.results) (take_fine l s s.results v.results)
  where
    go : (a b : Bool) → contains l (pending s) ≡ b → (x : Answer Claimed) → Fine l s x → Fine l s (cond a (cond b (refused 31) x) (refused 30))
    go true true p x h = (omega arith, λ e. p)
    go true false p x h = h
    go false b p x h = (omega arith, λ e. absurd (omega arith))

-- CALLS
-- the facts of a call whose form passes its tests
pub record FormFits (c : Call) : Type 0 where
  pub words : are_words (numbers_of c ++ (operands_of c ++ listed_of c)) ≡ true
  pub keys : are_keys (operands_of c ++ listed_of c) ≡ true
  pub few : length (listed_of c) ≤ 8
  pub rise : rising (listed_of c) ≡ true
  pub invertible : lacks_inverse c ≡ false

-- the facts of a call that is accepted: no test applied
pub record Fits (c : Call) (s : Session) : Type 0 where
  pub form : FormFits c
  pub room : is_add c ≡ true → length s.stations + adds_in s.top_stream < 64
  pub free : length (live s) < 64
  pub more : s.last < 65535

holds_unless : {A : Type 0} {P : A → Type 0} (ts : List Test) (a : A) → (Each (λ t. t.applies ≡ false) ts → P a) → Holds P (unless ts a)
holds_unless [] a f = holds (f tt)
holds_unless (t ∷ ts) a f = holds_cond t.applies (λ e. refuses) (λ e. holds_unless ts a (λ h. f (e, h)))

and_room : (a : Bool) (n : ℕ) → (a && leb 64 n) ≡ false → a ≡ true → n < 64
and_room true n e h = leb-false 64 n e
and_room false n e h = absurd (true≢false (sym h))

pub form_passes : (c : Call) → Each (λ (t : Test). t.applies ≡ false) (form_tests c) → FormFits c
form_passes c h =
    let targets : (leb (length (listed_of c)) 8 && rising (listed_of c)) ≡ true = not-false _ h.1.1.0 in
    record {
      words = not-false _ h.0;
      keys = not-false _ h.1.0;
      few = leb-true (length (listed_of c)) 8 (and_left _ _ targets);
      rise = and_right (leb (length (listed_of c)) 8) _ targets;
      invertible = h.1.1.1.0;
    }

accept_fits : (c : Call) (s : Session) → Holds (λ t. Fits c s × (t ≡ accepted c s)) (accept c s)
accept_fits c s = holds_unless (call_tests c s) (accepted c s) (λ h. (
  record {
    form = form_passes c (h.0, (h.1.0, (h.1.1.0, (h.1.1.1.0, tt))));
    room = and_room (is_add c) _ h.1.1.1.1.0;
    free = leb-false 64 (length (live s)) h.1.1.1.1.1.0;
    more = leb-false 65535 s.last h.1.1.1.1.1.1.0;
  },
  refl,
))

word : (v : ℕ) (vs : List ℕ) → are_words (v ∷ vs) ≡ true → v < modulus
word v vs e = ltb-true v modulus (and_left _ _ e)

valid_untouched : (to : To) → ValidKeys (keys_listed to) → ValidTargets (untouched to)
valid_untouched (named ts) h = h
valid_untouched whole h = tt

untouched_unmarked : (to : To) → is_marked (untouched to) ≡ false
untouched_unmarked (named ts) = refl
untouched_unmarked whole = refl

valid_operation : (a : Act) (h : ℕ) (to : To) (l : ℕ) → ValidAct a → ValidHeld a h → 1 ≤ most_labels a → are_keys (keys_listed to) ≡ true → length (keys_listed to) ≤ 8 → rising (keys_listed to) ≡ true → ValidCall (operation a h to l)
valid_operation a h to l va vh m k f r = record {
  op = record { act = va; held = vh; targets = valid_untouched to (record { few = f; keys = k; rise = r }); named = omega arith; few = m };
  unmarked = untouched_unmarked to;
}

valid_labelled : (c : Call) (l : ℕ) → FormFits c → ValidCall (labelled c l)
valid_labelled (add v) l f = word v [] f.words
valid_labelled (map a b to) l f = valid_operation _ 0 to l (word a (b ∷ keys_listed to) f.words, word b (keys_listed to) (and_right (ltb a modulus) _ f.words)) refl (omega arith) f.keys f.few f.rise
valid_labelled (link k to) l f = valid_operation _ 0 to l (and_left _ _ f.keys) (lit≤ tt) (omega arith) (and_right (is_key k) _ f.keys) f.few f.rise
valid_labelled (unlink k to) l f = valid_operation _ 0 to l (and_left _ _ f.keys) (lit≤ tt) (omega arith) (and_right (is_key k) _ f.keys) f.few f.rise
valid_labelled (sum x to) l f = valid_operation _ x to l tt (word x (keys_listed to) f.words) (omega arith) f.keys f.few f.rise
valid_labelled (top x to) l f = valid_operation _ x to l tt (word x (keys_listed to) f.words) (omega arith) f.keys f.few f.rise
valid_labelled (pick x to) l f = valid_operation _ x to l tt (word x (keys_listed to) f.words) (omega arith) f.keys f.few f.rise
valid_labelled (near k x to) l f = valid_operation _ x to l (and_left _ _ f.keys) (word x (k ∷ keys_listed to) f.words) (omega arith) (and_right (is_key k) _ f.keys) f.few f.rise
valid_labelled (unmap a b to) l f =
    let i = inverse_fits (record { a = a; b = b }) in
    valid_operation _ 0 to l (i.scale, i.shift) refl (omega arith) f.keys f.few f.rise

-- a call with its label is an add, or an operation with that label alone
pub data Sort (c : Call) (l : ℕ) : Type 0 where
  adds : (v : ℕ) → is_add c ≡ true → labelled c l ≡ add_of l v → Sort c l
  operates : (a : Act) (h : ℕ) → is_add c ≡ false → labelled c l ≡ operation a h (to_of c) l → Sort c l

pub sort : (c : Call) (l : ℕ) → Sort c l
sort (add v) l = adds v refl refl
sort (map a b to) l = operates _ 0 refl refl
sort (link k to) l = operates _ 0 refl refl
sort (unlink k to) l = operates _ 0 refl refl
sort (sum x to) l = operates _ x refl refl
sort (top x to) l = operates _ x refl refl
sort (pick x to) l = operates _ x refl refl
sort (near k x to) l = operates _ x refl refl
sort (unmap a b to) l = operates _ 0 refl refl

labels_one : (v : ℕ → ℕ) (c : Call) (l : ℕ) → total v (labels_of_calls (labelled c l ∷ [])) ≡ v l
labels_one v c l = go (sort c l)
  where
    go : Sort c l → total v (labels_of_calls (labelled c l ∷ [])) ≡ v l
    go (adds x i e) = rw e (omega arith)
    go (operates a h i e) = rw e (omega arith)

labels_last : (v : ℕ → ℕ) (cs : List Labelled) (c : Call) (l : ℕ) → total v (labels_of_calls (cs ++ (labelled c l ∷ []))) ≡ total v (labels_of_calls cs) + v l
labels_last v [] c l = omega (arith, labels_one v c l)
labels_last v (add_of k x ∷ cs) c l = omega (arith, labels_last v cs c l)
labels_last v (op_of o ∷ cs) c l = omega (arith, labels_last v cs c l, total_append v o.labels (labels_of_calls (cs ++ (labelled c l ∷ []))), total_append v o.labels (labels_of_calls cs))

adds_one : (c : Call) (l n : ℕ) → n ≤ 64 → (is_add c ≡ true → n < 64) → n + adds_in (labelled c l ∷ []) ≤ 64
adds_one c l n h f = go (sort c l)
  where
    go : Sort c l → n + adds_in (labelled c l ∷ []) ≤ 64
    go (adds x i e) = rw e (omega (arith, f i))
    go (operates a x i e) = rw e (omega arith)

adds_append : (cs ds : List Labelled) → adds_in (cs ++ ds) ≡ adds_in cs + adds_in ds
adds_append [] ds = omega arith
adds_append (add_of k v ∷ cs) ds = omega (arith, adds_append cs ds)
adds_append (op_of o ∷ cs) ds = adds_append cs ds

total_accepted : (v : ℕ → ℕ) (c : Call) (s : Session) → total v (live (accepted c s)) ≡ total v (live s) + v (suc s.last)
total_accepted v c s =
    let new = labels_of_calls (s.top_stream ++ (labelled c (suc s.last) ∷ [])) in
    omega (
      arith,
      labels_last v s.top_stream c (suc s.last),
      total_append v (labels_of_stations s.stations) new,
      total_append v (labels_of_stations s.stations) (labels_of_calls s.top_stream),
      total_append v (labels_of_stations s.stations ++ new) (labels_of_results s.results),
      total_append v (pending s) (labels_of_results s.results),
    )

-- no live label is above the last given
fresh_label : (s : Session) (ls : List ℕ) (l : ℕ) → s.last < l → Each (Given s.last) ls → count l ls ≡ 0
fresh_label s [] l h g = refl
fresh_label s (x ∷ xs) l h g = rw (ne_eqb l x (λ (e : l ≡ x). omega (arith, g.0.1))) (omega (arith, fresh_label s xs l h g.1))

each_given : (m n : ℕ) (ls : List ℕ) → m ≤ n → Each (Given m) ls → Each (Given n) ls
each_given m n [] h g = tt
each_given m n (x ∷ xs) h g = ((g.0.0, omega (arith, g.0.1)), each_given m n xs h g.1)

pub accepted_valid : (c : Call) (s : Session) → Valid s → Fits c s → Valid (accepted c s)
accepted_valid c s g f =
    let l : ℕ = suc s.last in
    let t : Session = accepted c s in
    let none : total (stray l) (live s) ≡ 0 = given_stray l (live s) (each_given s.last l (live s) (omega arith) g.given) in
    let mine : stray l l ≡ 0 = rw (le-leb 1 l (omega arith), le-leb l l (omega arith)) in
    record {
      falling = g.falling;
      stations = g.stations;
      top_stream = each_append ValidCall s.top_stream (labelled c l ∷ []) g.top_stream (valid_labelled c l f.form, tt);
      results = g.results;
      room = omega (arith, adds_append s.top_stream (labelled c l ∷ []), adds_one c l (length s.stations + adds_in s.top_stream) g.room f.room);
      order = g.order;
      given = stray_given l (live t) (omega (arith, total_accepted (stray l) c s));
      once = λ k. by_bool (eqb k l)
          (λ e. omega (arith, total_accepted (is k) c s, total_is k (live t), total_is k (live s), test_most (eqb k l), fresh_label s (live s) k (omega (arith, eqb-true k l e)) g.given))
          (λ e. omega (arith, total_accepted (is k) c s, total_is k (live t), total_is k (live s), g.once k, ap {B = ℕ} (λ (b : Bool). cond b 1 0) e));
      places = omega (arith, total_accepted one c s, total_one (live t), total_one (live s), f.free);
      labels = f.more;
    }

pub record Accepts (c : Call) (s t : Session) : Type 0 where
  pub is : t ≡ accepted c s
  pub fits : Fits c s
  pub valid : Valid t

pub accept_valid : (c : Call) (s : Session) → Valid s → Holds (Accepts c s) (accept c s)
accept_valid c s g = go (accept c s) (accept_fits c s)
  where
    go : (x : Answer Session) → Holds (λ t. Fits c s × (t ≡ accepted c s)) x → Holds (Accepts c s) x
    go (refused r) h = refuses
    go (done t) (holds h) = holds {a = t} (record { is = h.1; fits = h.0; valid = rw h.1 (accepted_valid c s g h.0) })
