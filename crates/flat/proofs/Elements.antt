-- What holds of each element of a valid session's queue: a valid operation at a node's key, or a valid call of the top stream.
-- Assumes nothing.
use Prim.Native.Nat.{ℕ, ◌≤◌}
use native.Mathlib.Omega.{arith}
use mathlib.Core.Bool.{Bool, true, false}
use mathlib.Core.List.{List, [], ◌∷◌}
use lib.ListN.{length}
use Rattle.graph.specs.Nodes.{Op}
use Rattle.graph.specs.OneAtATime.{Labelled}
use Rattle.graph.specs.Sessions.{Station, Session}
use Rattle.graph.specs.Valid.{Each, ValidOp, ValidUnit, ValidStation, ValidCall, KeysFall, Valid}
use Rattle.graph.proofs.Limits.{each_append}
use Rattle.flat.specs.Flat.{Tagged, standing, tag_unit, tag_units, queue_of, waiting, flat}
use Rattle.flat.proofs.Places.{length_nodes}

module _ (P : Tagged → Type 0) (n : ℕ) (stands : (k : ℕ) (b : Bool) (o : Op) → 1 ≤ k → k ≤ n → ValidOp o → P (standing k b o)) where
  each_unit : (k : ℕ) → 1 ≤ k → k ≤ n → (b : Bool) (u : List Op) → Each ValidOp u → Each P (tag_unit k b u)
  each_unit k l h b [] v = tt
  each_unit k l h b (o ∷ os) v = (stands k b o l h v.0, each_unit k l h false os v.1)

  each_units : (k : ℕ) → 1 ≤ k → k ≤ n → (us : List (List Op)) → Each ValidUnit us → Each P (tag_units k us)
  each_units k l h [] v = tt
  each_units k l h (u ∷ us) v = each_append P (tag_unit k true u) (tag_units k us) (each_unit k l h true u v.0.ops) (each_units k l h us v.1)

  each_station : (ss : List Station) → length ss ≤ n → KeysFall ss → Each ValidStation ss → Each P (queue_of ss)
  each_station [] h f v = tt
  each_station (s ∷ ss) h f v =
      each_append P (queue_of ss) (tag_units s.node.key s.units) (each_station ss (omega arith) f.1 v.1) (each_units s.node.key (omega (arith, f.0)) (omega (arith, f.0)) s.units v.0.units)

module _ (P : Tagged → Type 0) (waits : (c : Labelled) → ValidCall c → P (record { place = 65; opens = true; call = c })) where
  each_waiting : (cs : List Labelled) → Each ValidCall cs → Each P (waiting cs)
  each_waiting [] v = tt
  each_waiting (c ∷ cs) v = (waits c v.0, each_waiting cs v.1)

  pub each_queued : (s : Session) → Valid s → ((k : ℕ) (b : Bool) (o : Op) → 1 ≤ k → k ≤ length (flat s).nodes → ValidOp o → P (standing k b o)) → Each P (flat s).queue
  each_queued s v stands =
      each_append P (queue_of s.stations) (waiting s.top_stream) (each_station P (length (flat s).nodes) stands s.stations (omega (arith, length_nodes s.stations)) v.falling v.stations) (each_waiting s.top_stream v.top_stream)
