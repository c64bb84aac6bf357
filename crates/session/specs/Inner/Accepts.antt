-- A call that was read and not refused: its form is good, and the targets are those that its line named.
-- Assumes nothing.
use Rattle.std.specs.Prelude.{◌≡◌}
use Rattle.graph.specs.Calls.{Call, form_tests}
use Rattle.graph.specs.declared.remaining.Remaining.{Remaining}
use Rattle.graph.specs.Packed.{packed_targets}
use Rattle.graph.specs.Targets.{untouched}
use Rattle.graph.specs.RefusalOrder.{first_of}
use Rattle.lines.specs.declared.call.Call.{Call as CallLine}
use Rattle.lines.specs.Inner.Answers.{call_form}
use Rattle.calls.specs.Inner.Accepting.{named_in}

-- the call that was read, in the terms of the rules
abbrev pub call_of : CallLine → Call
call_of c = call_form c.kind c.x c.y (named_in c.to)

pub record Good (f : Call) (to : Remaining) : Type 0 where
  pub form : first_of (form_tests f) ≡ 0
  pub targets : to ≡ packed_targets (untouched (named_in to))
