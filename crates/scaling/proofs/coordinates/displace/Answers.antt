use Rattle.std.proofs.Common.{◌≡◌, ℕ, ◌*◌, nat_abs, ap, ◌∙◌, arith, w64, to_z, of_z}
use Rattle.std.proofs.lemmas.Int.{ints}
use Rattle.rules.specs.Units.{displacement}
use Rattle.rules.proofs.Rows.{is_order_means}
use Rattle.marks.specs.Numbers.{units_of, numbers_of}
use Rattle.scaling.proofs.Displacing.{near, none_yet, next_few, next_unit}
use Rattle.scaling.proofs.coordinates.displace.Goals as goal

pub loop-i-init : goal.loop-i-init
loop-i-init c = none_yet c.args.marks.now c.args.order.now c.requires.order c.args.list.now

pub squared-squares-requires : goal.squared-squares-requires
squared-squares-requires c =
    let m = c.args.marks.now in
    let j = c.from-unit.result in
    let d : to_z w64 (of_z w64 c.displacement-far.result) ≡ displacement (numbers_of m) (units_of m) c.loop-i.placed j = omega (arith, ints) in
    omega (arith, c.unsigned_abs.ensures.value ∙ ap nat_abs d, near m c.loop-i.placed j)

pub overflow_add-squares : goal.overflow_add-squares
overflow_add-squares c =
    let m = c.args.marks.now in
    let j = c.from-unit.result in
    let d : to_z w64 (of_z w64 c.displacement-far.result) ≡ displacement (numbers_of m) (units_of m) c.loop-i.placed j = omega (arith, ints) in
    let r = c.squared-squares.ensures ∙ ap (λ (x : ℕ). x * x) c.unsigned_abs.ensures.value in
    omega (arith, next_few m c.args.order.now c.requires.order c.args.list.now _ _ _ _ c.loop-i.invariant c.loop-i-test.true _ c.from-unit.ensures _ _ d r)

pub loop-i-preserved : goal.loop-i-preserved
loop-i-preserved c =
    let m = c.args.marks.now in
    let j = c.from-unit.result in
    let d : to_z w64 (of_z w64 c.displacement-far.result) ≡ displacement (numbers_of m) (units_of m) c.loop-i.placed j = omega (arith, ints) in
    let r = c.squared-squares.ensures ∙ ap (λ (x : ℕ). x * x) c.unsigned_abs.ensures.value in
    next_unit m c.args.order.now c.requires.order c.args.list.now _ _ _ _ c.loop-i.invariant c.loop-i-test.true _ c.from-unit.ensures _ _ d r _ c.with_unit-placed.ensures
    (omega (arith, c.loop-i.auto.list, c.requires.room, (is_order_means (units_of m) c.args.order.now c.requires.order).as_many))
