-- A map and its unmap restore the value of every target present at both (S-6), of every list of lines sent to a fresh session: whatever
-- the schedules of two lists that end with none pending, of which the one accepts the calls before the pair, and the other these, the
-- pair, and calls between and after that do not act on the target's value.
-- Assumes nothing.
use mathlib.Core.Path.{◌≡◌, refl, sym, ◌∙◌, ap, subst}
use Prim.Native.Nat.{ℕ, ◌<◌}
use mathlib.Core.Bool.{Bool, true, false, cond}
use mathlib.Core.List.{List, [], ◌∷◌, ◌++◌}
use mathlib.Core.Option.{some, none-ne-some, some-injective}
use lib.Dec.{eqb}
use borrow.Author.Tests.{not-false}
use Rattle.graph.specs.Words.{modulus}
use Rattle.graph.specs.Affine.{is_odd}
use Rattle.graph.specs.Calls.{Call}
use Rattle.graph.specs.Nodes.{Node}
use Rattle.graph.specs.Sessions.{Station, Session, graph_of}
use Rattle.graph.specs.Valid.{Each, ValidStation}
use Rattle.graph.specs.CallResults.{nodes_after}
use Rattle.graph.specs.TakenBack.{MapAndUnmapCalls, map_call_first, unmap_call_first, value_at, with_pair, TakenBack}
use Rattle.graph.proofs.Limits.{each_right}
use Rattle.graph.proofs.Validity.{FormFits}
use Rattle.graph.proofs.TakenBack.{restores}
use Rattle.host.proofs.Determined.{same_session}
use Rattle.runs.specs.Runs.{Sent, Runs, opening, after, accepted_lines, TextsOf, GraphOf}
use Rattle.runs.specs.Demand.{NonePending}
use Rattle.runs.proofs.Demand3.{demand3}
use Rattle.runs.proofs.SameEnd.{texts_same}
use Rattle.runs.proofs.AcceptedForms.{lines_formed}

-- an image has one graph, that of one-at-a-time processing where none is pending
graph_is : (es : List Sent) → Runs opening es → NonePending es → (cs : List Call) → TextsOf (accepted_lines es) cs → (ns : List Node) → GraphOf (after opening es) ns → ns ≡ nodes_after cs
graph_is es h p cs t ns g =
    let m = (demand3 es h).graph p in
    sym g.graph
    ∙ ap (λ (s : Session). graph_of s.stations) (same_session g.holds m.holds)
    ∙ m.graph
    ∙ ap nodes_after (texts_same refl (demand3 es h).texts t)

-- a node's value is a 32-bit number
value_small : (k v : ℕ) (ss : List Station) → Each ValidStation ss → value_at k (graph_of ss) ≡ some v → v < modulus
value_small k v [] h e = absurd (none-ne-some v e)
value_small k v (s ∷ ss) h e = go (eqb s.node.key k) e (value_small k v ss h.1)
  where
    go : (b : Bool) → cond b (some s.node.value) (value_at k (graph_of ss)) ≡ some v → (value_at k (graph_of ss) ≡ some v → v < modulus) → v < modulus
    go true f ih = subst (λ (x : ℕ). x < modulus) (some-injective s.node.value v f) h.0.node.value
    go false f ih = ih f

-- an unmap that was accepted has an odd a
odd_accepted : (a : ℕ) (before : List Call) (c : Call) (between : List Call) (d : Call) (later : List Call) → MapAndUnmapCalls a c d → Each FormFits (with_pair before c between d later) → is_odd a ≡ true
odd_accepted a before c between d later p all =
    let from = each_right FormFits before (c ∷ (between ++ (d ∷ later))) all in
    go p from.0 (each_right FormFits between (d ∷ later) from.1).0
  where
    go : {c d : Call} → MapAndUnmapCalls a c d → FormFits c → FormFits d → is_odd a ≡ true
    go map_call_first f g = not-false (is_odd a) g.invertible
    go unmap_call_first f g = not-false (is_odd a) f.invertible

module _ (es fs : List Sent) (h : Runs opening es) (g : Runs opening fs) (p : NonePending es) (q : NonePending fs) where
  pub values_restored : (before : List Call) (c : Call) (between : List Call) (d : Call) (later : List Call) →
      TextsOf (accepted_lines es) before → TextsOf (accepted_lines fs) (with_pair before c between d later) →
      (a k : ℕ) → TakenBack a k c between d later → (ns ms : List Node) → GraphOf (after opening es) ns → GraphOf (after opening fs) ms →
      (v : ℕ) → value_at k ns ≡ some v → value_at k ms ≡ some v
  values_restored before c between d later t u a k pair ns ms x y v e =
      let small : v < modulus = value_small k v x.session.stations x.holds.valid.stations (ap (value_at k) x.graph ∙ e) in
      let odd : is_odd a ≡ true = odd_accepted a before c between d later pair.pair (lines_formed fs g (with_pair before c between d later) u) in
      ap (value_at k) (graph_is fs g q (with_pair before c between d later) u ms y)
      ∙ restores a k before c between d later odd pair v small (ap (value_at k) (sym (graph_is es h p before t ns x)) ∙ e)
