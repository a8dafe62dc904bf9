use Rattle.std.proofs.Common.{arith}
use Rattle.yardsticks.proofs.Laws.{lawful}
use Rattle.yardsticks.proofs.Adding as adding
use Rattle.yardsticks.proofs.total.sum.Goals as goal

pub add-sum-requires : goal.add-sum-requires
add-sum-requires g c =
    adding.adding_asks (lawful g.met.Y.Yardstick) c.requires c.loop-label.invariant c.loop-label-test.true _ c.step.ensures

pub loop-label-init : goal.loop-label-init
loop-label-init g c = adding.none_yet (lawful g.met.Y.Yardstick) c.requires _ c.zero-sum.ensures

pub loop-label-preserved : goal.loop-label-preserved
loop-label-preserved g c =
    adding.one_more (lawful g.met.Y.Yardstick) c.requires c.loop-label.invariant c.loop-label-test.true _ _ _ c.with_unit-placed.ensures c.step.ensures c.add-sum.ensures

pub returns : goal.returns
returns g c = adding.none_left (lawful g.met.Y.Yardstick) c.requires c.loop-label.invariant (omega arith)
