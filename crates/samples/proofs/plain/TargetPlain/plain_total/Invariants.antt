use Rattle.std.proofs.Common.{◌*◌, ◌≤◌, nat_abs}
use Rattle.samples.proofs.plain.TargetPlain.plain_total.Given as goal

abbrev pub invariant-loop-place : goal.invariant-loop-place
invariant-loop-place l = nat_abs l.sum ≤ 26214000 * l.place
