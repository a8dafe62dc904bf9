use Rattle.std.proofs.Common.{◌+◌, ◌-◌, sym, ◌∙◌, arith}
use Rattle.rules.specs.Units.{labels}
use Rattle.rules.specs.Orders.{ready}
use Rattle.rules.specs.Recurrence.{led_count}
use Rattle.marks.specs.Numbers.{units_of, numbers_of}
use Rattle.marks.specs.Tied.{tied_of}
use Rattle.yardsticks.specs.Merits.{merit_of}
use Rattle.search.specs.Listing.{ways_with}
use Rattle.search.proofs.Turns.{turn_kept, turn_here, turn_past, turn_end}
use Rattle.search.proofs.tables.Stage.next_unit.Goals as goal

pub loop-unit-init : goal.loop-unit-init
loop-unit-init g c =
    let s = c.args.self.now in
    let m = s.tables.sheet.marks.now in
    let t = s.tables.sheet.ties.now in
    turn_kept (ready (tied_of t) (units_of m) s.placed)
    (led_count (merit_of g.Y.Yardstick) (numbers_of m) (tied_of t) (units_of m) s.placed) (labels (units_of m)) c.args.k

pub returns-then-left-ways : goal.returns-then-left-ways
returns-then-left-ways g c =
    let s = c.args.self.now in
    let f = ways_with (merit_of g.Y.Yardstick) s.tables.sheet.marks.now s.tables.sheet.ties.now s.placed in
    sym (c.loop-unit.invariant ∙ turn_here f (units_of s.tables.sheet.marks.now) c.loop-unit.unit c.loop-unit.left (omega arith) (omega arith) (omega (arith, c.ways_with-ways.ensures)))

pub loop-unit-preserved : goal.loop-unit-preserved
loop-unit-preserved g c =
    let s = c.args.self.now in
    let f = ways_with (merit_of g.Y.Yardstick) s.tables.sheet.marks.now s.tables.sheet.ties.now s.placed in
    c.loop-unit.invariant ∙ turn_past f (units_of s.tables.sheet.marks.now) c.loop-unit.unit c.loop-unit.left (omega arith) (omega arith) c.ways_with-ways.ensures (omega arith)

pub returns : goal.returns
returns g c =
    let s = c.args.self.now in
    let f = ways_with (merit_of g.Y.Yardstick) s.tables.sheet.marks.now s.tables.sheet.ties.now s.placed in
    sym (c.loop-unit.invariant ∙ turn_end f (units_of s.tables.sheet.marks.now) (c.loop-unit.unit - 1) c.loop-unit.left (omega arith))

pub returns-else-left-ways : goal.returns-else-left-ways
returns-else-left-ways g c =
    let s = c.args.self.now in
    let f = ways_with (merit_of g.Y.Yardstick) s.tables.sheet.marks.now s.tables.sheet.ties.now s.placed in
    sym (c.loop-unit.invariant
    ∙ turn_past f (units_of s.tables.sheet.marks.now) c.loop-unit.unit c.loop-unit.left (omega arith) (omega arith) c.ways_with-ways.ensures (omega arith)
    ∙ turn_end f (units_of s.tables.sheet.marks.now) (c.loop-unit.unit + 1 - 1) (c.loop-unit.left - c.ways_with-ways.result) (omega arith))
