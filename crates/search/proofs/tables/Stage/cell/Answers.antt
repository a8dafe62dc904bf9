use Rattle.std.proofs.Common.{rules, ◌≡◌, ◌+◌, ◌-◌, true, arith}
use Rattle.rules.specs.Units.{label}
use Rattle.marks.specs.Numbers.{units_of}
use Rattle.yardsticks.specs.Merits.{merit_of}
use Rattle.yardsticks.proofs.Laws.{lawful}
use Rattle.search.proofs.Cells as cells
use Rattle.search.proofs.Cells.{Found}
use Rattle.search.proofs.Stages as stages
use Rattle.search.proofs.tables.Stage.cell.Goals as goal
use Rattle.search.proofs.tables.Stage.cell.Goals.{else-loop-unit-test, then-loop-unit-test+else-unit-unit-end, in-Some, in_default}

pub better-requires : goal.better-requires
better-requires g c =
    let h = stages.here (lawful g.met.Y.Yardstick) c.args.self.now in
    cells.has_room h g.Y.Yardstick.numbers _ (search rules) _ c.loop-unit.invariant _ c.in-Some.ensures

pub loop-unit-preserved : goal.loop-unit-preserved
loop-unit-preserved g c =
    let h = stages.here (lawful g.met.Y.Yardstick) c.args.self.now in
    let l : label (units_of c.args.self.now.tables.sheet.marks.now) c.loop-unit.unit ≡ true = search rules in
    elim c.match-way.branch [
      | in-Some w ↦ cells.taken_in h g.Y.Yardstick.numbers _ l _ c.loop-unit.invariant _ w.in-Some.ensures _ _ w.better.ensures w.found-is
      | in_default w ↦ cells.passed_over h g.Y.Yardstick.numbers _ l _ c.loop-unit.invariant _ w.in_default.ensures w.found-is
    ]

pub returns : goal.returns
returns g c =
    let y = g.Y.Yardstick in
    let h = stages.here (lawful g.met.Y.Yardstick) c.args.self.now in
    elim c.loop-unit-test.branch [
      | else-loop-unit-test w ↦ cells.ended h y.numbers (c.loop-unit.unit - 1) (omega arith) _ _ c.loop-unit.invariant w.found-is _ c.zero.ensures _ c.unwrap_or.ensures
      | then-loop-unit-test+else-unit-unit-end w ↦ (
          let l : label (units_of c.args.self.now.tables.sheet.marks.now) c.loop-unit.unit ≡ true = search rules in
          let s : Found y.numbers (merit_of y) c.args.self.now.tables.sheet.marks.now c.args.self.now.tables.sheet.ties.now c.args.self.now.placed
          (c.loop-unit.unit + 1 - 1) w.match-way.found = elim w.match-way.branch [
            | in-Some v ↦ cells.taken_in h y.numbers _ l _ c.loop-unit.invariant _ v.in-Some.ensures _ _ v.better.ensures v.found-is
            | in_default v ↦ cells.passed_over h y.numbers _ l _ c.loop-unit.invariant _ v.in_default.ensures v.found-is
          ] in
          cells.ended h y.numbers (c.loop-unit.unit + 1 - 1) (omega arith) _ _ s w.found-is _ c.zero.ensures _ c.unwrap_or.ensures)
    ]
