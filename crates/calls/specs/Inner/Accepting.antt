-- Acceptance of a call whose form is good, stated of the call with its label.
-- Assumes nothing.
use Rattle.std.specs.Prelude.{not, List}
use Rattle.graph.specs.declared.remaining.Remaining.{Remaining}
use Rattle.graph.specs.declared.remaining.Remaining.TheVariants.{All, Listed}
use Rattle.graph.specs.Packed.{listed}
use Rattle.graph.specs.Targets.{To, named, whole}
use Rattle.graph.specs.OneAtATime.{Labelled, is_op}
use Rattle.graph.specs.Refusals.{Answer, Test, unless}
use Rattle.graph.specs.Acceptance.{live_tests, room_tests}
use Rattle.flat.specs.Flat.{Flat}
use Rattle.flat.specs.Inner.FlatEvents.{flat_room, accepted_as}

-- what the line named after `to=`, by the targets that a call holds
abbrev pub named_in : Remaining → To
named_in (All done) = whole
named_in (Listed keys) = named (listed keys)

-- the tests of any call: 14, 15
abbrev pub flat_live_tests : Flat → List Test
flat_live_tests f = live_tests (flat_room f)

abbrev pub flat_accept_rest : Labelled → Flat → Answer Flat
flat_accept_rest x f = unless (room_tests (not (is_op x)) (flat_room f)) (accepted_as x f)
