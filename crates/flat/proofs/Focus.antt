-- A step at one station, whatever stands around it: what the flat and the nested step have to agree on.
-- Assumes nothing.
use mathlib.Core.Path.{◌≡◌, refl, sym, ◌∙◌, ap}
use Prim.Native.Nat.{ℕ, suc, ◌≤◌}
use native.Mathlib.Omega.{arith}
use mathlib.Core.Bool.{Bool, true, false, cond, ◌&&◌}
use mathlib.Core.List.{List, [], ◌∷◌, ◌++◌, append_assoc, append-nil}
use lib.Dec.{eqb, leb}
use lib.ListN.{length}
use borrow.Author.Tests.{eqb-true, eqb-false, ne_eqb, leb-true, leb-false}
use Rattle.graph.specs.Refusals.{Answer, refused, done, map_done}
use Rattle.graph.specs.Nodes.{Node, Result}
use Rattle.graph.specs.Sessions.{Station, Session, store}
use Rattle.graph.specs.Steps.{Change, behind, at, changed}
use Rattle.graph.proofs.Answers.{by_bool}
use Rattle.flat.specs.Flat.{Tagged, Flat, tag_units, queue_of, nodes_of, waiting, flat}
use Rattle.flat.specs.Inner.Nested.{at_place, Keyed}
use Rattle.flat.proofs.Places.{No, no_append, no_units, Beyond, beyond_below, no_waits, length_nodes}
use Rattle.flat.proofs.Nesting.{flat_session}
use Rattle.flat.specs.Inner.FlatSteps.{at_key}

-- THE FOCUS: stations from some place on, with what stands around their nodes and operations
abbrev pub put : List Node → List Tagged → List Result → ℕ → List Station → Flat
put N A rs l ss = flat_session (nodes_of ss ++ N) (queue_of ss ++ A) rs l

abbrev pub back : List Node → List Tagged → List Result → ℕ → Change → Flat
back N A rs l c = put N A (store c.new_results rs) l c.now

pub put_cons : (N : List Node) (A : List Tagged) (rs : List Result) (l : ℕ) (s : Station) (ss : List Station) → put N A rs l (s ∷ ss) ≡ put (s.node ∷ N) (tag_units s.node.key s.units ++ A) rs l ss
put_cons N A rs l s ss i = flat_session (append_assoc (nodes_of ss) (s.node ∷ []) N i) (append_assoc (queue_of ss) (tag_units s.node.key s.units) A i) rs l

module _ (k : ℕ) (g : Flat → Answer Flat) (f : Station → List Station → Answer Change) (rs : List Result) (l : ℕ) where
  -- the two steps agree at the station with key k, whatever stands around it
  abbrev pub Agrees : Type 0
  Agrees = (N : List Node) (A : List Tagged) (s : Station) (ss : List Station) → s.node.key ≡ k → Keyed (s ∷ ss) → No (at_place k) A → g (put N A rs l (s ∷ ss)) ≡ map_done (back N A rs l) (f s ss)

  map_back : (N : List Node) (A : List Tagged) (s : Station) (x : Answer Change) → map_done (back (s.node ∷ N) (tag_units s.node.key s.units ++ A) rs l) x ≡ map_done (back N A rs l) (map_done (behind s) x)
  map_back N A s (refused r) = refl
  map_back N A s (done c) = ap done (sym (put_cons N A (store c.new_results rs) l s c.now))

  pub at_focus : Agrees → (N : List Node) (A : List Tagged) (ss : List Station) → Keyed ss → No (at_place k) A → 1 ≤ k → k ≤ length ss → g (put N A rs l ss) ≡ map_done (back N A rs l) (at k f ss)
  at_focus h N A [] K E lo hi = absurd (omega arith)
  at_focus h N A (s ∷ ss) K E lo hi = go (eqb s.node.key k) refl (λ E' hi'. at_focus h (s.node ∷ N) (tag_units s.node.key s.units ++ A) ss (K.0.1, K.1.1) E' lo hi')
    where
      other : (s.node.key ≡ k → ⊥) → k ≤ length ss
      other x = by_bool (leb k (length ss)) (leb-true k (length ss)) (λ y. absurd (x (K.0.0 ∙ omega (arith, leb-false k (length ss) y))))

      go : (b : Bool) → eqb s.node.key k ≡ b
          → (No (at_place k) (tag_units s.node.key s.units ++ A) → k ≤ length ss → g (put (s.node ∷ N) (tag_units s.node.key s.units ++ A) rs l ss) ≡ map_done (back (s.node ∷ N) (tag_units s.node.key s.units ++ A) rs l) (at k f ss))
          → g (put N A rs l (s ∷ ss)) ≡ map_done (back N A rs l) (cond b (f s ss) (map_done (behind s) (at k f ss)))
      go true e r = h N A s ss (eqb-true _ _ e) K E
      go false e r =
          ap g (put_cons N A rs l s ss)
          ∙ r (no_append (at_place k) (tag_units s.node.key s.units) A (no_units s.node.key k s.units e) E) (other (eqb-false s.node.key k e))
          ∙ map_back N A s (at k f ss)

  pub at_absent : (ss : List Station) → Keyed ss → Beyond k ss → at k f ss ≡ refused 20
  at_absent [] K h = refl
  at_absent (s ∷ ss) K h =
      let e : eqb s.node.key k ≡ false = ne_eqb s.node.key k (λ d. h (suc (length ss)) (omega arith) (omega arith) (sym K.0.0 ∙ d)) in
      rw (e, at_absent ss (K.0.1, K.1.1) (λ j a b. h j a (omega arith)))

-- a whole session
flat_put : (s : Session) → flat s ≡ put [] (waiting s.top_stream) s.results s.last s.stations
flat_put s i = flat_session (sym (append-nil (nodes_of s.stations)) i) (queue_of s.stations ++ waiting s.top_stream) s.results s.last

map_after : (s : Session) (x : Answer Change) → map_done (back [] (waiting s.top_stream) s.results s.last) x ≡ map_done flat (map_done (changed s s.top_stream) x)
map_after s (refused r) = refl
map_after s (done c) = ap done (sym (flat_put (changed s s.top_stream c)))

pub step_focus : (k : ℕ) (g : Flat → Answer Flat) (f : Station → List Station → Answer Change) (s : Session) → Keyed s.stations → length s.stations ≤ 64 → Agrees k g f s.results s.last → at_key k g (flat s) ≡ map_done flat (map_done (changed s s.top_stream) (at k f s.stations))
step_focus k g f s K room h = rw (length_nodes s.stations) (go (leb 1 k) (leb k (length s.stations)) refl refl)
  where
    go : (a b : Bool) → leb 1 k ≡ a → leb k (length s.stations) ≡ b → cond (a && b) (g (flat s)) (refused 20) ≡ map_done flat (map_done (changed s s.top_stream) (at k f s.stations))
    go true true x y = ap g (flat_put s) ∙ at_focus k g f s.results s.last h [] (waiting s.top_stream) s.stations K (no_waits k s.top_stream (omega (arith, leb-true k (length s.stations) y))) (leb-true 1 k x) (leb-true k (length s.stations) y) ∙ map_after s (at k f s.stations)
    go true false x y = sym (ap (λ (z : Answer Change). map_done flat (map_done (changed s s.top_stream) z)) (at_absent k g f s.results s.last s.stations K (beyond_below k s.stations (leb-false k (length s.stations) y))))
    go false b x y = sym (ap (λ (z : Answer Change). map_done flat (map_done (changed s s.top_stream) z)) (at_absent k g f s.results s.last s.stations K (λ j m n e. omega (arith, leb-false 1 k x))))
