use Rattle.std.proofs.Common.{take, sym, ap, ◌∙◌}
use Rattle.std.proofs.lemmas.Result.{err_from_is_err_and}
use Rattle.rules.specs.Calls.{accepted}
use Rattle.rules.specs.Sheets.{numbers}
use Rattle.rules.specs.Ranking.{total}
use Rattle.yardsticks.specs.Merits.{merit_of}
use Rattle.sheet.specs.Faults.{answer_refusal}
use Rattle.sheet.specs.Contents.{contents}
use Rattle.sheet.proofs.Answering.{row_stop, ties_broken, ties_kept, keeps_same, total_same}
use Rattle.sheet.proofs.sheet.Sheet.score.Goals as goal

pub returns-in_err-marks : goal.returns-in_err-marks
returns-in_err-marks g c =
    let s = c.args.self.now in
    let p = err_from_is_err_and c.from_residual.result c.from_residual.ensures.1 in
    rw (p.1, p.2) (record { answer = row_stop (contents s) c.args.row.now _ (answer_refusal c.in_err-marks.field-0.0) c.in_err-marks.ensures })

pub returns-then-not-keeps : goal.returns-then-not-keeps
returns-then-not-keeps g c =
    let s = c.args.self.now in
    record { answer = ties_broken (contents s) c.args.row.now _ c.in_ok-marks.ensures.0 (sym (keeps_same s c.args.row.now) ∙ sym c.if-not-keeps.ensures.test) }

pub returns : goal.returns
returns g c =
    let s = c.args.self.now in
    let row = c.args.row.now in
    let y = merit_of g.Y.Yardstick in
    let m = c.in_ok-marks.ensures in
    let n = s.units.count in
    let there = rw c.unwrap.ensures at c.total.ensures in
    record {
      answer = ap accepted (there.1 ∙ total_same y s c.in_ok-marks.marks m.1 row)
          ∙ ties_kept (contents s) row (total y (numbers (contents s)) n 0 (take n row)) m.0 (sym (keeps_same s row) ∙ sym c.if-not-keeps.ensures.test);
    }
