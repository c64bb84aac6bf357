-- What it holds now, and its targets after the act; a map still holds 0.
-- Assumes nothing.
use mathlib.Core.Path.{◌≡◌, sym, ap, ◌∙◌}
use Rattle.graph.specs.Targets.{struck}
use Rattle.graph.specs.OneAtATime.{op_of}
use Rattle.graph.specs.Packed.{listed, targets_in}
use Rattle.graph.proofs.PackedTargets.{targets_packed, normal_targets}
use Rattle.valid.specs.Inner.Decoded.{labels_of}
use Rattle.headsteps.proofs.Parts.{map_holds}
use Rattle.headsteps.proofs.acted.Goals as goal

pub returns : goal.returns
returns c =
    let o = c.args.o in
    let n = c.args.n in
    let targets : struck n.key (targets_in o.targets) ≡ targets_in c.struck.result = sym (ap targets_in c.struck.ensures ∙ targets_packed _) in
    record {
      is = λ i. op_of (record { act = o.act; held = sym c.held_after.ensures i; targets = targets i; labels = labels_of o.labels });
      normal =
          record {
            targets = normal_targets (struck n.key (targets_in o.targets)) c.struck.ensures;
            names = c.requires.names;
            map_held = λ m. c.held_after.ensures ∙ map_holds o.act o.held n.value (listed n.links) m ∙ c.requires.map_held m;
          };
    }
