use Rattle.std.proofs.Common.{rules, ◌-◌, ◌^◌, ◌<◌, ◌∙◌, drop-set-lt}
use Rattle.marks.specs.Numbers.{units_of, numbers_of}
use Rattle.marks.specs.Tied.{tied_of}
use Rattle.yardsticks.specs.Merits.{merit_of}
use Rattle.search.proofs.Filling.{one_filled}
use Rattle.search.proofs.fill.fill.Goals as goal

pub loop-set-preserved : goal.loop-set-preserved
loop-set-preserved g c =
    let m = c.args.sheet.marks.now in
    let below : c.loop-set.set - 1 < 2 ^ units_of c.args.sheet.marks.now = search rules in (
      one_filled g.Y.Yardstick.numbers (merit_of g.Y.Yardstick) (numbers_of m) (tied_of c.args.sheet.ties.now) (units_of m)
          c.loop-set.totals c.loop-set.counts (c.loop-set.set - 1) _ _ below (search rules) (search rules) c.cell-total.ensures.total c.cell-total.ensures.count,
      drop-set-lt (2 ^ units_of m) c.loop-set.totals (c.loop-set.set - 1) _ below ∙ c.loop-set.invariant.1,
      drop-set-lt (2 ^ units_of m) c.loop-set.counts (c.loop-set.set - 1) _ below ∙ c.loop-set.invariant.2,
    )
