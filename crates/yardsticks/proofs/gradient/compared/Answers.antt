use Rattle.std.proofs.Common.{◌≡◌, pos, ◌-ℤ◌, ap, ◌∙◌, arith, w32, to_z, of_z}
use Rattle.std.proofs.lemmas.Int.{ints}
use Rattle.std.specs.Int.{int_signum}
use Rattle.yardsticks.proofs.Sums.{sign_is}
use Rattle.yardsticks.proofs.gradient.compared.Goals as goal

pub returns : goal.returns
returns c =
    let first : to_z w32 (of_z w32 c.rise-first.result) ≡ pos c.args.outer -ℤ pos c.args.left = omega (arith, ints) in
    let second : to_z w32 (of_z w32 c.rise-second.result) ≡ pos c.args.outer -ℤ pos c.args.right = omega (arith, ints) in
    let left = c.signum.ensures.value ∙ (ap int_signum first ∙ sign_is (pos c.args.outer -ℤ pos c.args.left)) in
    let right = c.signum-2.ensures.value ∙ (ap int_signum second ∙ sign_is (pos c.args.outer -ℤ pos c.args.right)) in
    (omega (arith, ints, left, right), omega (arith, ints))
