-- Drain's loop: what is counted, with what is still to be taken, is what the whole drain takes.
-- Assumes nothing.
use mathlib.Core.Path.{◌≡◌, sym, ◌∙◌, ap, subst}
use Prim.Native.Nat.{ℕ, ◌+◌, ◌*◌, ◌≤◌, ◌<◌}
use native.Mathlib.Omega.{arith}
use mathlib.Core.Bool.{Bool, true, false, cond}
use mathlib.Core.List.{List, [], ◌∷◌}
use lib.Dec.{eqb}
use lib.ListN.{length}
use Rattle.graph.specs.Sessions.{Session}
use Rattle.graph.specs.Steps.{Step, admit, realise, move, finish, join, split, swap, fuse}
use Rattle.graph.specs.Drain.{drain}
use Rattle.graph.specs.Valid.{Valid}
use Rattle.graph.specs.Counts.{tally_place, of_kind, quoted_steps}
use Rattle.graph.proofs.Weights.{weight_of}
use Rattle.graph.proofs.Drains.{drain_drains, weight_bound}
use Rattle.flat.specs.Inner.FlatEvents.{flat_drain_step}
use Rattle.flat.specs.Inner.Nested.{nest}
use Rattle.records.proofs.Codecs.{Bytes}
use Rattle.valid.specs.Values.{encode}
use Rattle.valid.specs.Inner.Decoded.{session_of}
use Rattle.state.specs.Inner.State.{flat_in}
use Rattle.state.specs.Inner.ValidImage.{ValidImage}
use Rattle.state.proofs.Serving.{session_held, shows_encode}
use Rattle.session.specs.declared.drain.Counts.{Counts}
use Rattle.session.specs.declared.drain.StepTaken.{StepTaken}
use Rattle.session.specs.Inner.DrainStep.{IsKind, DrainsOne, raised_counts}
use Rattle.session.specs.Inner.Drained.{Drains}
use Rattle.session.proofs.DrainSteps.{none_waits}
use Rattle.session.proofs.DrainTurns.{Turn, drain_turn, Rests, drain_stops}

abbrev pub steps_of : List ℕ → List Step
steps_of image = (drain (session_of image)).took

abbrev Sums : ℕ → List ℕ → List ℕ → ℕ → Type 0
Sums own first image n = n + of_kind own (steps_of image) ≡ of_kind own (steps_of first)

pub record Loop (first image : List ℕ) (c : Counts) : Type 0 where
  pub image_valid_law : ValidImage image
  pub size : length image ≡ length first
  pub bytes : Bytes image
  pub end : (drain (session_of image)).end ≡ (drain (session_of first)).end
  pub admits : Sums 0 first image c.admit
  pub realises : Sums 1 first image c.realise
  pub moves : Sums 2 first image c.moved
  pub finishes : Sums 3 first image c.finish

-- a count, by whether the step that was taken is of its own kind
abbrev raised_if : ℕ → Step → ℕ → ℕ
raised_if own t n = cond (eqb own (tally_place t)) (n + 1) n

sums_next : (own n : ℕ) (first image after : List ℕ) (t : Step) → steps_of image ≡ t ∷ steps_of after → Sums own first image n → Sums own first after (raised_if own t n)
sums_next own n first image after t q h =
    go (eqb own (tally_place t)) (of_kind own (steps_of image)) (of_kind own (steps_of after)) (of_kind own (steps_of first)) (ap (of_kind own) q) h
  where
    go : (b : Bool) (x y z : ℕ) → x ≡ cond b 1 0 + y → n + x ≡ z → cond b (n + 1) n + y ≡ z
    go true x y z f h = omega arith
    go false x y z f h = omega arith

abbrev counts_after : Counts → Step → Counts
counts_after c t = record { admit = raised_if 0 t c.admit; realise = raised_if 1 t c.realise; moved = raised_if 2 t c.moved; finish = raised_if 3 t c.finish }

kind_counts : (c : Counts) (t : Step) (r : StepTaken) → IsKind t r → counts_after c t ≡ raised_counts c r
kind_counts c admit r e = ap (raised_counts c) (sym e)
kind_counts c (realise k) r e = ap (raised_counts c) (sym e)
kind_counts c (move k) r e = ap (raised_counts c) (sym e)
kind_counts c (finish k) r e = ap (raised_counts c) (sym e)
kind_counts c (join k i) r e = absurd e
kind_counts c (split k i j) r e = absurd e
kind_counts c (swap k i) r e = absurd e
kind_counts c (fuse k i) r e = absurd e

-- where a step was taken the loop goes on, with less to do
pub record Goes (first image after : List ℕ) (c : Counts) (r : StepTaken) : Type 0 where
  pub loop : Loop first after (raised_counts c r)
  pub lighter : weight_of (session_of after) < weight_of (session_of image)

pub loop_next : (first image after : List ℕ) (c : Counts) (r : StepTaken) → Loop first image c → DrainsOne (flat_drain_step (flat_in image)) after r → length after ≡ length image → Bytes after → Goes first image after c r
loop_next first image after c r h d size bytes =
    let t : Step = d.taken.what in
    let u : Turn image after t = drain_turn image after t d.taken.to h.image_valid_law d.did d.shows in
    let loop : Loop first after (counts_after c t) =
    record {
      image_valid_law = u.image_valid_law;
      size = size ∙ h.size;
      bytes = bytes;
      end = sym u.end ∙ h.end;
      admits = sums_next 0 c.admit first image after t u.took h.admits;
      realises = sums_next 1 c.realise first image after t u.took h.realises;
      moves = sums_next 2 c.moved first image after t u.took h.moves;
      finishes = sums_next 3 c.finish first image after t u.took h.finishes;
    } in
    record { loop = subst (Loop first after) (kind_counts c t r d.kind) loop; lighter = u.lighter }

-- where none was, drain has ended here
sums_done : (own n : ℕ) (first image : List ℕ) → steps_of image ≡ [] → Sums own first image n → n ≡ of_kind own (steps_of first)
sums_done own n first image e h = omega (arith, ap (of_kind own) e, h)

valid_bytes : (image : List ℕ) → ValidImage image → Bytes image → image ≡ encode (session_of image)
valid_bytes image l b =
    subst (λ (s : Session). image ≡ encode s) (sym (session_held image)) (shows_encode (nest (flat_in image)) image b (record { proper = l.proper; shows = sym l.flat }))

pub loop_done : (first image : List ℕ) (c : Counts) → Loop first image c → length (flat_in image).queue ≡ 0 → Drains first image c
loop_done first image c h e =
    let s : Rests image = drain_stops image 21 h.image_valid_law (none_waits image e) in
    record {
      image = valid_bytes image h.image_valid_law h.bytes ∙ ap encode (sym s.end ∙ h.end);
      counts = record {
        admits = sums_done 0 c.admit first image s.took h.admits;
        realises = sums_done 1 c.realise first image s.took h.realises;
        moves = sums_done 2 c.moved first image s.took h.moves;
        finishes = sums_done 3 c.finish first image s.took h.finishes;
      };
    }

-- the counts stay far below 32 bits
pub counts_fit : (first image : List ℕ) (c : Counts) → ValidImage first → Loop first image c → (c.admit < 4294967295) × (c.realise < 4294967295) × (c.moved < 4294967295) × (c.finish < 4294967295)
counts_fit first image c l h =
    let s : Session = session_of first in
    let v : Valid (session_of first) = subst Valid (sym (session_held first)) l.valid in
    let total : quoted_steps (steps_of first) ≤ 129 * 64 = omega (arith, (drain_drains s v).lighter, weight_bound s v) in
    (omega (arith, h.admits), omega (arith, h.realises), omega (arith, h.moves), omega (arith, h.finishes))
