use Rattle.std.proofs.Common.{◌*◌, ◌≤◌, nat_abs}
use Rattle.samples.proofs.plain.displacement.Given as goal

abbrev pub invariant-loop-i : goal.invariant-loop-i
invariant-loop-i l = nat_abs l.sum ≤ 65535 * l.i-counter
