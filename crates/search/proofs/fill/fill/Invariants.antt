use Rattle.std.proofs.Common.{◌≡◌, ◌^◌, drop}
use Rattle.marks.specs.Numbers.{units_of, numbers_of}
use Rattle.marks.specs.Tied.{tied_of}
use Rattle.yardsticks.specs.Merits.{merit_of}
use Rattle.search.specs.Above.{FilledFrom}
use Rattle.search.proofs.fill.fill.Given as goal

abbrev pub invariant-loop-set : goal.invariant-loop-set
invariant-loop-set g l =
    let y = g.Y.Yardstick in
    let n = units_of l.sheet.marks.now in
    FilledFrom y.numbers (merit_of y) (numbers_of l.sheet.marks.now) (tied_of l.sheet.ties.now) n l.set l.totals l.counts
    × (drop (2 ^ n) l.totals ≡ drop (2 ^ n) l.initial.totals)
    × (drop (2 ^ n) l.counts ≡ drop (2 ^ n) l.initial.counts)
