use Rattle.std.proofs.Common.{◌-◌}
use Rattle.yardsticks.specs.Merits.{merit_of}
use Rattle.search.proofs.Walking.{Walked}
use Rattle.search.proofs.tables.Tables.nth.Given as goal

abbrev pub invariant-loop-place : goal.invariant-loop-place
invariant-loop-place g l =
    Walked (merit_of g.Y.Yardstick) l.self.sheet.marks.now l.self.sheet.ties.now (l.k - 1) l.place-index l.placed l.left l.row
