use Rattle.std.proofs.Common.{◌≡◌, ℕ, ◌+◌, ◌<◌, get_or}
use Rattle.marks.specs.Numbers.{numbers_of}
use Rattle.yardsticks.proofs.gradient.row_of.Given as goal

abbrev pub invariant-loop-k : goal.invariant-loop-k
invariant-loop-k l = (k : ℕ) → k < l.k → get_or l.mark-items k 0 ≡ numbers_of l.marks l.unit (k + 1)
