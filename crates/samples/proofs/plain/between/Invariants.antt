use Rattle.std.proofs.Common.{◌*◌, ◌≤◌, nat_abs}
use Rattle.samples.proofs.plain.between.Given as goal

abbrev pub invariant-loop-middle : goal.invariant-loop-middle
invariant-loop-middle l = (nat_abs l.sum.signs ≤ 2 * l.middle-index) × (nat_abs l.sum.rises ≤ 131070 * l.middle-index)
