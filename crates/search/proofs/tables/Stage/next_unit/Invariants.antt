use Rattle.std.proofs.Common.{◌≡◌, ◌-◌, drop}
use Rattle.rules.specs.Units.{labels}
use Rattle.rules.specs.Recurrence.{turn}
use Rattle.marks.specs.Numbers.{units_of}
use Rattle.yardsticks.specs.Merits.{merit_of}
use Rattle.search.specs.Listing.{ways_with, next_turn}
use Rattle.search.proofs.tables.Stage.next_unit.Given as goal

abbrev pub invariant-loop-unit : goal.invariant-loop-unit
invariant-loop-unit g l =
    let m = l.self.tables.sheet.marks.now in
    let t = l.self.tables.sheet.ties.now in
    next_turn (merit_of g.Y.Yardstick) m t l.self.placed l.k
    ≡ turn (ways_with (merit_of g.Y.Yardstick) m t l.self.placed) (drop (l.unit - 1) (labels (units_of m))) l.left
