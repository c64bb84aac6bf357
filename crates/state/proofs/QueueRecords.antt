-- The records of the queue's operations: what they stand for, and which are clean.
-- Assumes nothing.
use mathlib.Core.Path.{◌≡◌, refl, sym, ap, ◌∙◌}
use Prim.Native.Nat.{ℕ}
use mathlib.Core.Bool.{Bool, cond, not}
use mathlib.Core.List.{List, []}
use lib.Dec.{eqb}
use Rattle.graph.specs.OneAtATime.{Labelled, add_of, op_of, is_op}
use Rattle.graph.specs.Packed.{targets_in, packed_targets}
use Rattle.graph.specs.Targets.{Targets, these, all, without_mark}
use Rattle.graph.specs.Nodes.{onward}
use Rattle.graph.proofs.PackedTargets.{targets_packed, normal_targets}
use Rattle.graph.proofs.Answers.{by_bool}
use Rattle.flat.specs.Flat.{Tagged}
use Rattle.flat.specs.Inner.Nested.{of_op}
use Rattle.flat.specs.Inner.FlatSteps.{move_on, open_as}
use Rattle.records.specs.declared.op.OpRecord.{OpRecord}
use Rattle.valid.specs.Values.{Fields, fields_of, op_record, call_record, tagged_record}
use Rattle.valid.specs.Inner.Decoded.{act_of, held_of, read_targets, remaining_of, decoded_call, tagged_of, labels_of}
use Rattle.valid.proofs.Decoding.{flag_back, flags_back}
use Rattle.state.specs.Inner.Operations.{TargetsHeld, RecordFor}

-- RECORDS READ
module _ (r : OpRecord) where
  pub is_add_law : {x : Tagged} → RecordFor x r → eqb r.kind 0 ≡ not (is_op x.call)
  is_add_law h = by_bool (eqb r.kind 0) (λ e. rw e refl) (λ e. rw e refl) ∙ ap (λ (x : Tagged). not (is_op x.call)) (sym h.is)

  module _ (clean : tagged_record (tagged_of r) ≡ r) where
    -- an add has no targets, and its record none
    pub targets_of : TargetsHeld (of_op (these []) (λ o. o.targets) (decoded_call r)) (remaining_of r)
    targets_of =
        by_bool (eqb r.kind 0)
        (λ e.
        let none : remaining_of r ≡ packed_targets (these []) = sym (ap remaining_of (rw e at clean)) in
        record { is = rw e (ap targets_in none ∙ targets_packed (these [])); normal = normal_targets (these []) none })
        (λ e. record { is = rw e refl; normal = sym (ap remaining_of (rw e at clean)) ∙ flags_back (packed_targets (targets_in (remaining_of r))) })

-- RECORDS MADE
pub reads : (x : Tagged) (r : OpRecord) → x ≡ tagged_of r → tagged_record x ≡ r → RecordFor x r
reads x r e f = record { is = e; clean = ap tagged_record (sym e) ∙ f }

-- a record that moves to another station, and one that opens its unit or no longer does
abbrev with : ℕ → ℕ → ℕ → OpRecord → OpRecord
with k opens mark r =
    record { station = k; opens = opens; kind = r.kind; key = r.key; a = r.a; b = r.b; targets = r.targets; labels = r.labels; all = r.all; mark = mark }

abbrev pub moved_on : ℕ → OpRecord → OpRecord
moved_on k r = with k r.opens 0 r

abbrev pub opened : ℕ → OpRecord → OpRecord
opened n r = with r.station n r.mark r

call_opened : (p : ℕ) (b d : Bool) (c : Labelled) → call_record p d c ≡ opened (cond d 1 0) (call_record p b c)
call_opened p b d (add_of l v) = refl
call_opened p b d (op_of o) = refl

-- as a move takes it: its mark is cleared
record_moved : (k p : ℕ) (b : Bool) (f : Fields) (t : Targets) (ls : List ℕ) → op_record k b f (without_mark t) ls ≡ moved_on k (op_record p b f t ls)
record_moved k p b f (these ts) ls = refl
record_moved k p b f (all mark) ls = refl

call_moved : (k p : ℕ) (b : Bool) (c : Labelled) → call_record k b (of_op c (λ o. op_of (onward o)) c) ≡ moved_on k (call_record p b c)
call_moved k p b (add_of l v) = refl
call_moved k p b (op_of o) = record_moved k p b (fields_of o.act o.held) o.targets o.labels

without_read : (r : OpRecord) → without_mark (targets_in (remaining_of r)) ≡ targets_in (read_targets r.targets r.all 0)
without_read r = by_bool (eqb r.all 1) (λ e. rw e refl) (λ e. rw e refl)

moved_read : (r : OpRecord) (k : ℕ) → of_op (decoded_call r) (λ o. op_of (onward o)) (decoded_call r) ≡ decoded_call (moved_on k r)
moved_read r k =
    by_bool (eqb r.kind 0) (λ e. rw e refl)
    (λ e. rw e (λ i. op_of (record { act = act_of r.kind r.key r.a r.b; held = held_of r.kind r.b; targets = without_read r i; labels = labels_of r.labels })))

module _ (r : OpRecord) (clean : tagged_record (tagged_of r) ≡ r) where
  pub reads_moved : (k : ℕ) → RecordFor (move_on k (tagged_of r)) (moved_on k r)
  reads_moved k =
      reads (move_on k (tagged_of r)) (moved_on k r) (λ i. record { place = k; opens = eqb r.opens 1; call = moved_read r k i })
      (call_moved k r.station (eqb r.opens 1) (decoded_call r) ∙ ap (moved_on k) clean)

  pub reads_opened : (b : Bool) → RecordFor (open_as b (tagged_of r)) (opened (cond b 1 0) r)
  reads_opened b =
      reads (open_as b (tagged_of r)) (opened (cond b 1 0) r)
      (λ i. record { place = r.station; opens = sym (flag_back b) i; call = decoded_call r })
      (call_opened r.station (eqb r.opens 1) b (decoded_call r) ∙ ap (opened (cond b 1 0)) clean)
