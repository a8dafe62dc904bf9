use Rattle.std.proofs.lemmas.Result.{err_from_is_err_and}
use Rattle.sheet.specs.Faults.{answer_refusal}
use Rattle.sheet.specs.Contents.{contents}
use Rattle.sheet.proofs.Answering.{check_refused, compared_here}
use Rattle.sheet.proofs.sheet.Sheet.check.Goals as goal

pub returns-in_err-marks : goal.returns-in_err-marks
returns-in_err-marks c =
    let p = err_from_is_err_and c.from_residual.result c.from_residual.ensures.1 in
    rw (p.1, p.2) (check_refused (contents c.args.self.now) c.args.row.now (answer_refusal c.in_err-marks.field-0.0) c.in_err-marks.ensures)

pub returns : goal.returns
returns c =
    let m = c.in_ok-marks.ensures in
    compared_here c.args.self.now c.in_ok-marks.marks m.1 c.args.row.now m.0 c.unwrap-kept.result (rw c.unwrap-kept.ensures at c.comparisons.ensures)
