use Rattle.std.proofs.Common.{◌*◌, ◌≤◌, nat_abs}
use Rattle.samples.proofs.plain.up_to.Given as goal

abbrev pub invariant-loop-i : goal.invariant-loop-i
invariant-loop-i l = (nat_abs l.sum.signs ≤ 40 * l.i) × (nat_abs l.sum.rises ≤ 2621400 * l.i)
