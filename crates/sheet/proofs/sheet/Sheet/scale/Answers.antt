use Rattle.std.proofs.Common.{length, ◌∙◌, arith, w64, SFits, rules}
use Rattle.std.proofs.lemmas.Int.{to_z-of_z}
use Rattle.std.proofs.lemmas.Result.{err_from_is_err_and}
use Rattle.std.proofs.lemmas.Bool.{le-ltb}
use Rattle.sheet.specs.Faults.{answer_refusal}
use Rattle.sheet.specs.Contents.{contents}
use Rattle.sheet.proofs.Answering.{scale_refused, list_next, scaled_here}
use Rattle.sheet.proofs.sheet.Sheet.scale.Goals as goal

pub returns-in_err-marks : goal.returns-in_err-marks
returns-in_err-marks c =
    let s = c.args.self.now in
    let row = c.args.row.now in
    let list = c.args.list.now in
    let p = err_from_is_err_and c.from_residual.result c.from_residual.ensures.1 in
    rw (p.1, p.2) (scale_refused (contents s) row list (answer_refusal c.in_err-marks.field-0.0)
    (list_next (contents s) row list (le-ltb (length list) s.units.count (omega arith)) ∙ c.in_err-marks.ensures))

pub returns : goal.returns
returns c =
    let s = c.args.self.now in
    let list = c.args.list.now in
    let m = c.in_ok-marks.ensures in
    let fits : SFits w64 c.unwrap.result = search rules in
    rw (to_z-of_z w64 c.unwrap.result fits)
    (scaled_here s c.in_ok-marks.marks m.1 c.args.row.now m.0 list c.coordinates.new.list c.unwrap.result
    (le-ltb (length list) s.units.count (omega arith)) (rw c.unwrap.ensures at c.coordinates.ensures))
