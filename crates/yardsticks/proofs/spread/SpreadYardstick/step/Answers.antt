use Rattle.std.proofs.Common.{◌≡◌, ℕ, ◌*◌, nat_abs, ap, ◌∙◌, arith, w64, to_z, of_z}
use Rattle.std.proofs.lemmas.Int.{ints}
use Rattle.rules.specs.Units.{displacement}
use Rattle.marks.specs.Numbers.{units_of, numbers_of}
use Rattle.yardsticks.proofs.Steps.{square_low}
use Rattle.yardsticks.proofs.spread.SpreadYardstick.step.Goals as goal

pub overflow_mul-result : goal.overflow_mul-result
overflow_mul-result c =
    let m = c.args.marks.now in
    let d = displacement (numbers_of m) (units_of m) c.args.placed c.args.unit in
    let same : to_z w64 (of_z w64 c.displacement.result) ≡ d = omega (arith, ints) in
    let far : c.unsigned_abs-far.result ≡ nat_abs d = c.unsigned_abs-far.ensures.value ∙ ap nat_abs same in
    omega (arith, ap (λ (x : ℕ). x * x) far, square_low m c.args.placed c.args.unit c.requires.0 c.requires.1.0 c.requires.1.1)
