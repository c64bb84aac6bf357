-- `write::insert_result` meets its contract.
-- Assumes nothing.
use mathlib.Core.Path.{refl, ap, ◌∙◌}
use lib.ListN.{length, length-set}
use Rattle.records.proofs.Codecs.{result_size}
use Rattle.image.specs.Inner.Regions.{result_region}
use Rattle.image.proofs.Writers.{insert_change, results_fit, results_written}
use Rattle.image.proofs.write.insert_result.Goals as goal

pub shape_of-image : goal.shape_of-image
shape_of-image c = simp length-set (c.put.auto.image ∙ c.move_up.ensures.size)

pub returns : goal.returns
returns c =
    let e = c.put.ensures in
    let m = c.result_count-m in
    let b = c.result_bytes in
    let up = c.move_up.ensures in
    let a = c.args in
    let sound = c.requires.0 in
    rw (e, m.ensures)
    (results_written a.image.now sound _ _
    (insert_change result_region a.image.now (results_fit a.image.now sound) b.result a.r (ap length b.ensures.bytes ∙ result_size a.r) b.ensures.back _ a.p c.requires.1 c.requires.2 (rw m.ensures at up) _ refl))
