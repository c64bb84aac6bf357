-- `longlines::longline::read_long` meets its contract: below 256 bytes all of the line is known, by its front and its list.
-- Assumes nothing.
use Prim.Native.Nat.{◌<◌}
use mathlib.Core.Path.{refl}
use lib.ListN.{length}
use Rattle.keylists.proofs.ListsBegun.{breaks_end}
use Rattle.longlines.proofs.Answers.{too_long, no_list, read_with}
use native.Mathlib.Omega.{arith}
use Rattle.longlines.proofs.longline.read_long.Goals as goal

pub returns-then-l-gt255 : goal.returns-then-l-gt255
returns-then-l-gt255 c = λ line g. too_long line (omega (arith, g.size)) refl

pub returns-in_default : goal.returns-in_default
returns-in_default c = λ line g.
    let k = g.kept (omega (arith, g.size)) in
    no_list line c.args.l k g.long (breaks_end k.rest (rw c.in_default.is at k.list)) refl

pub returns-in_default-ended : goal.returns-in_default-ended
returns-in_default-ended c = λ line g.
    let k = g.kept (omega (arith, g.size)) in
    no_list line c.args.l k g.long (c.in_default-ended.ensures k.rest (rw c.in-Some.is at k.list)) refl

pub returns : goal.returns
returns c = λ line g.
    let short : length line < 256 = omega (arith, g.size) in
    let k = g.kept short in
    let t = c.in-Some-ended.ensures k.rest (rw c.in-Some.is at k.list) in
    read_with line c.args.l k g.long short t.0 t.1 t.2 (c.with_targets.ensures t.0 t.3)
