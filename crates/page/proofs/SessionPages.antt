-- The nodes of a valid session keep a page's limits, so its page reads back as them.
-- Assumes nothing.
use Prim.Native.Nat.{ℕ, ◌+◌, ◌≤◌, ◌<◌}
use mathlib.Core.Path.{◌≡◌, refl}
use mathlib.Core.Bool.{Bool, true, false, cond}
use mathlib.Core.List.{List, [], ◌∷◌}
use native.Mathlib.Omega.{arith}
use lib.Dec.{eqb}
use lib.ListN.{length}
use borrow.Author.Tests.{eqb-true, ne_eqb, le-leb}
use Rattle.graph.specs.KeyLists.{is_key, count}
use Rattle.graph.specs.Sessions.{Station, Session, graph_of}
use Rattle.graph.specs.Valid.{Each, ValidStation, KeysFall, Valid}
use Rattle.graph.proofs.Answers.{and_both}
use Rattle.graph.proofs.Demand3.{graph_length}
use Rattle.pagelines.specs.Page.{page_text, PageNode, keys_of, PageOf}

few_stations : (s : Session) → Valid s → length s.stations ≤ 64
few_stations s v = omega (arith, v.room)

-- ---- keys 1 to 64

is_key_law : (k : ℕ) → 1 ≤ k → k ≤ 64 → is_key k ≡ true
is_key_law k low high = and_both (le-leb 1 k low) (le-leb k 64 high)

stations_nodes : (ss : List Station) → length ss ≤ 64 → KeysFall ss → Each ValidStation ss → Each PageNode (graph_of ss)
stations_nodes [] h k v = tt
stations_nodes (s ∷ ss) h k v =
    let low : 1 ≤ s.node.key = omega (arith, k.0) in
    let high : s.node.key ≤ 64 = omega (arith, h, k.0) in
    (record { key = is_key_law s.node.key low high; node = v.0.node }, stations_nodes ss (omega (arith, h)) k.1 v.1)

pub session_nodes : (s : Session) → Valid s → Each PageNode (graph_of s.stations)
session_nodes s v = stations_nodes s.stations (few_stations s v) v.falling v.stations

-- ---- and each once, since they fall

none_above : (k : ℕ) (ss : List Station) → KeysFall ss → length ss < k → count k (keys_of (graph_of ss)) ≡ 0
none_above k [] f h = refl
none_above k (s ∷ ss) f h = rw (ne_eqb k s.node.key (λ e. omega (arith, f.0, h, e))) (omega (arith, none_above k ss f.1 (omega (arith, h))))

keys_once : (k : ℕ) (ss : List Station) → KeysFall ss → count k (keys_of (graph_of ss)) ≤ 1
keys_once k [] f = omega arith
keys_once k (s ∷ ss) f = go (eqb k s.node.key) refl (keys_once k ss f.1)
  where
    go : (b : Bool) → eqb k s.node.key ≡ b → count k (keys_of (graph_of ss)) ≤ 1 → cond b 1 0 + count k (keys_of (graph_of ss)) ≤ 1
    go true q ih = omega (arith, none_above k ss f.1 (omega (arith, f.0, eqb-true k s.node.key q)))
    go false q ih = omega (arith, ih)

pub page_back : (s : Session) → Valid s → PageOf (page_text (graph_of s.stations)) (graph_of s.stations)
page_back s v =
    record {
      few = omega (arith, few_stations s v, graph_length s.stations);
      nodes = session_nodes s v;
      distinct = λ k. keys_once k s.stations v.falling;
      same = refl;
    }
