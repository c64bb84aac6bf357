-- Every list of bytes is decided: it is the image of a valid session, or of none.
-- Assumes nothing.
use mathlib.Core.Path.{◌≡◌, refl, ap, subst, ◌∙◌}
use Prim.Native.Nat.{ℕ, suc, ◌+◌, ◌≤◌, ◌<◌}
use mathlib.Core.Bool.{Bool, true, false, not, false≢true}
use mathlib.Core.List.{List, [], ◌∷◌}
use lib.Dec.{eqb, leb, ltb}
use lib.ListN.{length}
use borrow.Author.Tests.{leb-true, le-leb, ltb-true, lt-ltb, eqb-true, eq-eqb, not-true}
use Rattle.graph.specs.declared.act.Act.{Act}
use Rattle.graph.specs.declared.act.Act.TheVariants.{Map, Link, Unlink, Sum, Top, Pick, Near}
use Rattle.graph.specs.Words.{modulus}
use Rattle.graph.specs.KeyLists.{is_key, are_keys, rising}
use Rattle.graph.specs.Targets.{Targets, these, all, is_marked}
use Rattle.graph.specs.Nodes.{Node, Op, Result}
use Rattle.graph.specs.OneAtATime.{Labelled, add_of, op_of}
use Rattle.graph.specs.Sessions.{Station, Session, live, adds_in, labels_of_results}
use Rattle.graph.specs.Valid.{Each, ValidKeys, ValidTargets, ValidNode, ValidAct, ValidHeld, most_labels, ValidOp, ValidUnit, ValidStation, ValidCall, ValidResult, KeysFall, Valid}
use Rattle.lines.proofs.Decided.{Decision, is, is_not, Decided, one, none, same_bytes}
use Rattle.valid.specs.Inner.Tests.{given_once}
use Rattle.valid.specs.Values.{encode}
use Rattle.valid.specs.Inner.Decoded.{session_of}
use Rattle.valid.proofs.Counting.{Fresh, fresh_of, fresh_ok}
use Rattle.valid.proofs.Exactness.{valid_back}
use Rattle.host.specs.Entries.{ImageOf}

module _ {P Q : Type 0} where
  both : Decision P → Decision Q → Decision (P × Q)
  both (is p) (is q) = is (p, q)
  both (is p) (is_not n) = is_not (λ h. n h.1)
  both (is_not n) d = is_not (λ h. n h.0)

  by : (P → Q) → (Q → P) → Decision P → Decision Q
  by to from (is p) = is (to p)
  by to from (is_not n) = is_not (λ q. n (from q))

by_test : (b : Bool) → Decision (b ≡ true)
by_test true = is refl
by_test false = is_not false≢true

at_most : (m n : ℕ) → Decision (m ≤ n)
at_most m n = by (leb-true m n) (le-leb m n) (by_test (leb m n))

below : (m n : ℕ) → Decision (m < n)
below m n = by (ltb-true m n) (lt-ltb m n) (by_test (ltb m n))

equal : (m n : ℕ) → Decision (m ≡ n)
equal m n = by (eqb-true m n) (eq-eqb m n) (by_test (eqb m n))

each : {A : Type 0} (P : A → Type 0) → ((x : A) → Decision (P x)) → (xs : List A) → Decision (Each P xs)
each P d [] = is tt
each P d (x ∷ xs) = both (d x) (each P d xs)

-- ---- valid sessions, fact by fact

targets : (ts : List ℕ) → Decision (ValidKeys ts)
targets ts =
    by (λ h. record { few = h.0; keys = h.1.0; rise = h.1.1 }) (λ v. (v.few, (v.keys, v.rise)))
    (both (at_most (length ts) 8) (both (by_test (are_keys ts)) (by_test (rising ts))))

remaining : (t : Targets) → Decision (ValidTargets t)
remaining (these ts) = targets ts
remaining (all mark) = is tt

node : (n : Node) → Decision (ValidNode n)
node n =
    by (λ h. record { value = h.0; few = h.1.0; keys = h.1.1 }) (λ v. (v.value, (v.few, v.keys)))
    (both (below n.value modulus) (both (at_most (length n.links) 8) (by_test (are_keys n.links))))

act : (a : Act) → Decision (ValidAct a)
act (Map m) = both (below m.a modulus) (below m.b modulus)
act (Link k) = by_test (is_key k)
act (Unlink k) = by_test (is_key k)
act Sum = is tt
act Top = is tt
act Pick = is tt
act (Near k) = by_test (is_key k)

held : (a : Act) (h : ℕ) → Decision (ValidHeld a h)
held (Map m) h = equal h 0
held (Link k) h = below h modulus
held (Unlink k) h = below h modulus
held Sum h = below h modulus
held Top h = below h modulus
held Pick h = below h modulus
held (Near k) h = below h modulus

operation : (o : Op) → Decision (ValidOp o)
operation o =
    by (λ h. record { act = h.0; held = h.1.0; targets = h.1.1.0; named = h.1.1.1.0; few = h.1.1.1.1 }) (λ v. (v.act, (v.held, (v.targets, (v.named, v.few)))))
    (both (act o.act) (both (held o.act o.held) (both (remaining o.targets) (both (at_most 1 (length o.labels)) (at_most (length o.labels) (most_labels o.act))))))

unit : (u : List Op) → Decision (ValidUnit u)
unit u = by (λ h. record { some = h.0; ops = h.1 }) (λ v. (v.some, v.ops)) (both (at_most 1 (length u)) (each ValidOp operation u))

station : (s : Station) → Decision (ValidStation s)
station s = by (λ h. record { node = h.0; units = h.1 }) (λ v. (v.node, v.units)) (both (node s.node) (each ValidUnit unit s.units))

call : (c : Labelled) → Decision (ValidCall c)
call (add_of l v) = below v modulus
call (op_of o) =
    by (λ h. record { op = h.0; unmarked = not-true (is_marked o.targets) h.1 }) (λ v. (v.op, ap not v.unmarked)) (both (operation o) (by_test (not (is_marked o.targets))))

result : (r : Result) → Decision (ValidResult r)
result r = by (λ h. record { value = h.0; left = h.1 }) (λ v. (v.value, v.left)) (both (below r.value modulus) (targets r.left))

falling : (ss : List Station) → Decision (KeysFall ss)
falling [] = is tt
falling (s ∷ ss) = both (equal s.node.key (suc (length ss))) (falling ss)

fresh : (last : ℕ) (ls : List ℕ) → Decision (Fresh last ls)
fresh last ls = by (fresh_of last ls) (fresh_ok last ls) (by_test (given_once last ls))

record Rows (s : Session) : Type 0 where
  falling : KeysFall s.stations
  stations : Each ValidStation s.stations
  top_stream : Each ValidCall s.top_stream
  results : Each ValidResult s.results

record Limits (s : Session) : Type 0 where
  room : length s.stations + adds_in s.top_stream ≤ 64
  order : rising (labels_of_results s.results) ≡ true
  fresh : Fresh s.last (live s)
  places : length (live s) ≤ 64
  labels : s.last ≤ 65535

rows : (s : Session) → Decision (Rows s)
rows s =
    by (λ h. record { falling = h.0; stations = h.1.0; top_stream = h.1.1.0; results = h.1.1.1 }) (λ v. (v.falling, (v.stations, (v.top_stream, v.results))))
    (both (falling s.stations) (both (each ValidStation station s.stations) (both (each ValidCall call s.top_stream) (each ValidResult result s.results))))

limits : (s : Session) → Decision (Limits s)
limits s =
    by (λ h. record { room = h.0; order = h.1.0; fresh = h.1.1.0; places = h.1.1.1.0; labels = h.1.1.1.1 }) (λ v. (v.room, (v.order, (v.fresh, (v.places, v.labels)))))
    (both (at_most (length s.stations + adds_in s.top_stream) 64)
    (both (by_test (rising (labels_of_results s.results))) (both (fresh s.last (live s)) (both (at_most (length (live s)) 64) (at_most s.last 65535)))))

pub valid_decided : (s : Session) → Decision (Valid s)
valid_decided s =
    by
    (λ h.
    record {
      falling = h.0.falling;
      stations = h.0.stations;
      top_stream = h.0.top_stream;
      results = h.0.results;
      room = h.1.room;
      order = h.1.order;
      given = h.1.fresh.given;
      once = h.1.fresh.once;
      places = h.1.places;
      labels = h.1.labels;
    })
    (λ v. (
      record { falling = v.falling; stations = v.stations; top_stream = v.top_stream; results = v.results },
      record { room = v.room; order = v.order; fresh = record { given = v.given; once = v.once }; places = v.places; labels = v.labels },
    ))
    (both (rows s) (limits s))

-- IMAGES: the session that the bytes show is the only one that they may be the image of
pub image_decided : (image : List ℕ) → Decided (ImageOf image)
image_decided image = go (valid_decided (session_of image)) (same_bytes (encode (session_of image)) image)
  where
    shown : (s : Session) → ImageOf image s → s ≡ session_of image
    shown s h = valid_back s h.valid ∙ ap session_of h.same

    go : Decision (Valid (session_of image)) → Decision (encode (session_of image) ≡ image) → Decided (ImageOf image)
    go (is v) (is e) = one (session_of image) (record { valid = v; same = e })
    go (is v) (is_not n) = none (λ s h. n (subst (λ (x : Session). encode x ≡ image) (shown s h) h.same))
    go (is_not n) d = none (λ s h. n (subst Valid (shown s h) h.valid))
