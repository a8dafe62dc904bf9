use Rattle.std.proofs.Common.{arith}
use Rattle.yardsticks.proofs.Laws.{lawful}
use Rattle.search.proofs.Stages as stages
use Rattle.search.proofs.tables.Stage.way.Goals as goal

pub offset_bounds-totals-larger : goal.offset_bounds-totals-larger
offset_bounds-totals-larger g c = omega (arith, stages.in_totals (lawful g.met.Y.Yardstick) c.args.self.now c.args.unit c.requires c.if-not-ready.ensures c.with_unit-larger.ensures)

pub bounds-totals-larger : goal.bounds-totals-larger
bounds-totals-larger g c = stages.in_totals (lawful g.met.Y.Yardstick) c.args.self.now c.args.unit c.requires c.if-not-ready.ensures c.with_unit-larger.ensures

pub bounds-counts-larger : goal.bounds-counts-larger
bounds-counts-larger g c = stages.in_counts (lawful g.met.Y.Yardstick) c.args.self.now c.args.unit c.requires c.if-not-ready.ensures c.with_unit-larger.ensures

pub add-total-requires : goal.add-total-requires
add-total-requires g c =
    stages.adds (lawful g.met.Y.Yardstick) c.args.self.now c.args.unit c.requires c.if-not-ready.ensures c.with_unit-larger.ensures
    c.step-step.ensures c.index-totals-larger.is

pub returns : goal.returns
returns g c =
    stages.led (lawful g.met.Y.Yardstick) c.args.self.now c.args.unit c.requires c.if-not-ready.ensures c.with_unit-larger.ensures
    c.step-step.ensures c.index-totals-larger.is c.add-total.ensures
