use Rattle.std.proofs.Common.{◌*◌, ◌≤◌}
use Rattle.samples.proofs.plain.SpreadPlain.plain_total.Given as goal

abbrev pub invariant-loop-place : goal.invariant-loop-place
invariant-loop-place l = l.sum ≤ 1717934490000 * l.place
