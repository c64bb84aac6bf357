-- The queue that a proper image holds: what its readers find, and what its writers show.
-- Assumes nothing.
use mathlib.Core.Path.{◌≡◌, refl, sym, ap, ◌∙◌, subst}
use Prim.Native.Nat.{ℕ, zero, suc, ◌<◌}
use native.Mathlib.Omega.{arith}
use mathlib.Core.List.{List, [], ◌∷◌, ◌++◌}
use lib.ListN.{length, get_or, set}
use Rattle.flat.specs.Flat.{Tagged}
use Rattle.flat.specs.Inner.Queues.{remove_at}
use Rattle.flat.specs.Inner.FlatSteps.{alter, no_op, with_queue}
use Rattle.records.specs.declared.op.OpRecord.{OpRecord}
use Rattle.image.specs.Inner.Regions.{view, op_region, blank, ViewWritten, view_with_ops}
use Rattle.valid.specs.Inner.Decoded.{tagged_of}
use Rattle.valid.specs.Values.{tagged_record}
use Rattle.state.specs.Inner.State.{flat_in, Proper, Shows}
use Rattle.state.specs.Inner.Operations.{RecordFor}
use Rattle.state.proofs.Holding.{queue_stands, queue_shown, stands_length, stands_at, clean_at, stands_set, stands_append, stands_remove}

-- LISTS
module _ {A : Type 0} where
  alter_set : (f : A → A) (l : List A) (i : ℕ) (d : A) → i < length l → set l i (f (get_or l i d)) ≡ alter i f l
  alter_set f [] i d h = absurd (omega arith)
  alter_set f (x ∷ l) zero d h = refl
  alter_set f (x ∷ l) (suc i) d h = ap (λ (r : List A). x ∷ r) (alter_set f l i d (omega arith))

-- THE IMAGE s, READ
module _ (s : List ℕ) (proper : Proper s) where
  pub queue_length : length (view s).ops ≡ length (flat_in s).queue
  queue_length = stands_length tagged_of tagged_record (queue_stands s proper)

  module _ (i : ℕ) (h : i < length (flat_in s).queue) where
    pub in_view : i < length (view s).ops
    in_view = rw queue_length h

    pub reads_at : RecordFor (get_or (flat_in s).queue i no_op) (get_or (view s).ops i (blank op_region))
    reads_at =
        record {
          is = stands_at tagged_of tagged_record (queue_stands s proper) i (blank op_region) no_op in_view;
          clean = clean_at tagged_of tagged_record (queue_stands s proper) i (blank op_region) in_view;
        }

  -- AND WRITTEN: t is the image after
  module _ (t : List ℕ) where
    pub put_shown : (i : ℕ) (r : OpRecord) → tagged_record (tagged_of r) ≡ r → ViewWritten (view_with_ops (view s) (set (view s).ops i r)) s t
        → Shows (with_queue (flat_in s) (set (flat_in s).queue i (tagged_of r))) t
    put_shown i r e w = queue_shown s proper t (stands_set tagged_of tagged_record (queue_stands s proper) i r e) w

    pub append_shown : (r : OpRecord) → tagged_record (tagged_of r) ≡ r → ViewWritten (view_with_ops (view s) ((view s).ops ++ (r ∷ []))) s t
        → Shows (with_queue (flat_in s) ((flat_in s).queue ++ (tagged_of r ∷ []))) t
    append_shown r e w = queue_shown s proper t (stands_append tagged_of tagged_record (queue_stands s proper) r e) w

    pub remove_shown : (i : ℕ) → ViewWritten (view_with_ops (view s) (remove_at i (view s).ops)) s t → Shows (with_queue (flat_in s) (remove_at i (flat_in s).queue)) t
    remove_shown i w = queue_shown s proper t (stands_remove tagged_of tagged_record (queue_stands s proper) i) w

    -- the queue that is shown, said another way
    pub shown_as : {l m : List Tagged} → l ≡ m → Shows (with_queue (flat_in s) l) t → Shows (with_queue (flat_in s) m) t
    shown_as e w = subst (λ (l : List Tagged). Shows (with_queue (flat_in s) l) t) e w

    pub alter_shown : (f : Tagged → Tagged) (i : ℕ) (x : Tagged) → i < length (flat_in s).queue → get_or (flat_in s).queue i no_op ≡ x
        → Shows (with_queue (flat_in s) (set (flat_in s).queue i (f x))) t → Shows (with_queue (flat_in s) (alter i f (flat_in s).queue)) t
    alter_shown f i x h e w = shown_as (ap (λ (y : Tagged). set (flat_in s).queue i (f y)) (sym e) ∙ alter_set f (flat_in s).queue i no_op h) w
