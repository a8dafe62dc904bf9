use Rattle.std.proofs.Common.{ℕ, ◌+◌, ap, arith}
use Rattle.yardsticks.proofs.Laws.{lawful}
use Rattle.search.proofs.Filling.{from_filled}
use Rattle.search.proofs.Walking as walking
use Rattle.search.proofs.tables.Tables.nth.Goals as goal

pub loop-place-init : goal.loop-place-init
loop-place-init g c = walking.none_yet (lawful g.met.Y.Yardstick) c.args.self.now.sheet.sound (omega (arith, c.requires.number))

pub invariant_of-stage : goal.invariant_of-stage
invariant_of-stage g c = record {
  within = c.loop-place.invariant.below;
  shut = c.loop-place.invariant.is_closed;
  above = from_filled (c.loop-place.placed + 1) c.requires.filled;
}

pub overflow_cast-place : goal.overflow_cast-place
overflow_cast-place g c =
    let h = walking.next_low (lawful g.met.Y.Yardstick) c.args.self.now.sheet.sound c.loop-place.invariant (omega arith) in
    omega (arith, ap (λ (v : ℕ × ℕ). v.0) c.next_unit-unit.ensures)

pub loop-place-preserved : goal.loop-place-preserved
loop-place-preserved g c =
    walking.step_on (lawful g.met.Y.Yardstick) c.args.self.now.sheet.sound c.loop-place.invariant (omega arith) (omega arith)
    c.next_unit-unit.ensures c.with_unit-placed.ensures

pub returns : goal.returns
returns g c = walking.all_written (lawful g.met.Y.Yardstick) c.args.self.now.sheet.sound c.loop-place.invariant (omega arith) (omega arith)
