use Rattle.std.proofs.Common.{◌-◌}
use Rattle.yardsticks.specs.Merits.{merit_of}
use Rattle.search.proofs.Cells.{Found}
use Rattle.search.proofs.tables.Stage.cell.Given as goal

abbrev pub invariant-loop-unit : goal.invariant-loop-unit
invariant-loop-unit g l =
    Found g.Y.Yardstick.numbers (merit_of g.Y.Yardstick) l.self.tables.sheet.marks.now l.self.tables.sheet.ties.now l.self.placed (l.unit - 1) l.found
