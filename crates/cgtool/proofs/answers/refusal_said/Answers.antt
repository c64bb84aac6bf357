-- The number after its name, and a newline.
-- Assumes nothing.
use Rattle.std.proofs.Common.{rules}
use Rattle.text.specs.Text.{ascii}
use Rattle.text.proofs.Pasting.{front_fits, written_room, written_then}
use Rattle.print.specs.Printed.{numbered, newline}
use Rattle.cgtool.proofs.Saying.{refusal_fits, refusal_written}
use Rattle.cgtool.proofs.answers.refusal_said.Goals as goal

pub put_field-p-requires : goal.put_field-p-requires
unfolding ascii
put_field-p-requires c =
    front_fits 0 (numbered (ascii "refused=") c.number.result) newline (refusal_fits c.number.result (search rules) c.args.out.now c.requires)

pub put_bytes-n-requires : goal.put_bytes-n-requires
unfolding ascii
put_bytes-n-requires c =
    written_room c.put_field-p.ensures newline (refusal_fits c.number.result (search rules) c.args.out.now c.requires)

pub returns : goal.returns
unfolding ascii
returns c =
    let room = refusal_fits c.number.result (search rules) c.args.out.now c.requires in
    refusal_written c.number.result c.number.ensures room (written_then c.put_field-p.ensures c.put_bytes-n.ensures room)
