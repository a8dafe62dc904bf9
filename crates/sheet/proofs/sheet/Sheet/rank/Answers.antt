use Rattle.std.proofs.Common.{arith}
use Rattle.std.proofs.lemmas.Result.{err_from_is_err_and}
use Rattle.rules.specs.Calls.{short}
use Rattle.yardsticks.specs.Merits.{merit_of}
use Rattle.search.specs.Best.{Lent}
use Rattle.sheet.specs.Faults.{answer_refusal}
use Rattle.sheet.specs.Contents.{contents}
use Rattle.sheet.specs.Answers.{in_numbers}
use Rattle.sheet.proofs.Ranking.{stopped, short_first, gap_next, lacking, enough, has_room, totals_room, counts_room, ranked_fault, ranked_found}
use Rattle.sheet.proofs.sheet.Sheet.rank.Goals as goal

pub returns-then-lacks_room : goal.returns-then-lacks_room
returns-then-lacks_room g c =
    let s = c.args.self.now in
    let b : Lent g.row.Y-Total.Denot = record { totals = c.args.totals.now; counts = c.args.counts.now; row = c.args.row.now } in
    let y = merit_of g.Y.Yardstick in
    stopped (contents s) y c.args.k (in_numbers g.Y.Yardstick.numbers b) short
    (short_first (contents s) y c.args.k (in_numbers g.Y.Yardstick.numbers b) (lacking g.Y.Yardstick.numbers y s c.args.k b c.if-lacks_room.ensures))

pub returns-in_err-marks : goal.returns-in_err-marks
returns-in_err-marks g c =
    let s = c.args.self.now in
    let b : Lent g.row.Y-Total.Denot = record { totals = c.args.totals.now; counts = c.args.counts.now; row = c.args.row.now } in
    let y = merit_of g.Y.Yardstick in
    let r = answer_refusal c.in_err-marks.field-0.0 in
    let room = has_room g.Y.Yardstick.numbers y s c.args.k b (enough g.Y.Yardstick.numbers y s c.args.k b c.if-lacks_room.ensures) in
    let p = err_from_is_err_and c.from_residual.result c.from_residual.ensures.1 in
    rw (p.1, p.2) (stopped (contents s) y c.args.k (in_numbers g.Y.Yardstick.numbers b) r
    (gap_next (contents s) y c.args.k (in_numbers g.Y.Yardstick.numbers b) room r c.in_err-marks.ensures))

pub returns-in_err-best : goal.returns-in_err-best
returns-in_err-best g c =
    let s = c.args.self.now in
    let b : Lent g.row.Y-Total.Denot = record { totals = c.args.totals.now; counts = c.args.counts.now; row = c.args.row.now } in
    let a : Lent g.row.Y-Total.Denot = record { totals = c.best.new.totals; counts = c.best.new.counts; row = c.best.new.row } in
    let y = merit_of g.Y.Yardstick in
    let room = enough g.Y.Yardstick.numbers y s c.args.k b c.if-lacks_room.ensures in
    let lt = totals_room g.Y.Yardstick.numbers y s c.args.k b room in
    let lc = counts_room g.Y.Yardstick.numbers y s c.args.k b room in
    let marks = c.in_ok-marks.ensures in
    let f = c.in_err-best.ensures in
    let p = err_from_is_err_and c.from_residual-in_err-best.result c.from_residual-in_err-best.ensures.1 in
    rw (p.1, p.2) (ranked_fault g.Y.Yardstick.numbers y s c.args.k b c.in_ok-marks.marks marks.1 a room marks.0 c.in_err-best.field-0.0
    f.0 f.1 (omega (arith, lt, c.best.auto.totals)) (omega (arith, lc, c.best.auto.counts)))

pub returns : goal.returns
returns g c =
    let s = c.args.self.now in
    let b : Lent g.row.Y-Total.Denot = record { totals = c.args.totals.now; counts = c.args.counts.now; row = c.args.row.now } in
    let a : Lent g.row.Y-Total.Denot = record { totals = c.best.new.totals; counts = c.best.new.counts; row = c.best.new.row } in
    let y = merit_of g.Y.Yardstick in
    let room = enough g.Y.Yardstick.numbers y s c.args.k b c.if-lacks_room.ensures in
    let lt = totals_room g.Y.Yardstick.numbers y s c.args.k b room in
    let lc = counts_room g.Y.Yardstick.numbers y s c.args.k b room in
    let marks = c.in_ok-marks.ensures in
    ranked_found g.Y.Yardstick.numbers y s c.args.k b c.in_ok-marks.marks marks.1 a room marks.0 c.in_ok-best.field-0
    c.in_ok-best.ensures (omega (arith, lt, c.best.auto.totals)) (omega (arith, lc, c.best.auto.counts))
