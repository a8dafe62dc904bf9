use Rattle.std.proofs.lemmas.Result.{err_from_is_err_and}
use Rattle.yardsticks.specs.Merits.{merit_of}
use Rattle.moves.specs.Kinds.{moves_of}
use Rattle.rules.specs.Calls.{improve_answer}
use Rattle.sheet.specs.Faults.{answer_refusal}
use Rattle.sheet.specs.Contents.{contents}
use Rattle.sheet.proofs.Answering.{row_stop, improve_refused, improve_against, improved_here}
use Rattle.sheet.proofs.sheet.Sheet.improve.Goals as goal

pub returns-in_err-marks : goal.returns-in_err-marks
returns-in_err-marks g c =
    let s = c.args.self.now in
    let row = c.args.row.now in
    let k = moves_of g.M.MoveKind in
    let y = merit_of g.Y.Yardstick in
    let r = answer_refusal c.in_err-marks.field-0.0 in
    let p = err_from_is_err_and c.from_residual.result c.from_residual.ensures.1 in
    rw (p.1, p.2) (improve_refused (contents s) k y c.args.limit row r
    (row_stop (contents s) row (improve_answer (contents s) k y c.args.limit row) r c.in_err-marks.ensures))

pub returns-in_err-improve : goal.returns-in_err-improve
returns-in_err-improve g c =
    let m = c.in_ok-marks.ensures in
    let f = c.in_err-improve.ensures in
    let p = err_from_is_err_and c.from_residual-in_err-improve.result c.from_residual-in_err-improve.ensures.1 in
    rw (p.1, p.2) (improve_against c.args.self.now c.in_ok-marks.marks m.1 c.args.row.now m.0 (moves_of g.M.MoveKind) (merit_of g.Y.Yardstick)
    c.args.limit c.improve.new.row c.in_err-improve.field-0.0 f.0 f.1)

pub returns : goal.returns
returns g c =
    let m = c.in_ok-marks.ensures in
    improved_here c.args.self.now c.in_ok-marks.marks m.1 c.args.row.now m.0 (moves_of g.M.MoveKind) (merit_of g.Y.Yardstick)
    c.args.limit c.improve.new.row g.Y.Yardstick.numbers c.in_ok-improve.field-0 c.in_ok-improve.ensures
