use Rattle.std.proofs.Common.{◌*◌, ◌≤◌, nat_abs}
use Rattle.samples.proofs.plain.GradientPlain.plain_total.Given as goal

abbrev pub invariant-loop-i : goal.invariant-loop-i
invariant-loop-i l = (nat_abs l.sum.signs ≤ 800 * l.i) × (nat_abs l.sum.rises ≤ 52428000 * l.i)
