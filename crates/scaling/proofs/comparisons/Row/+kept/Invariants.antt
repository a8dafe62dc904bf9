use Rattle.std.proofs.Common.{length}
use Rattle.scaling.proofs.comparisons.Row.+kept.Given as goal

abbrev pub decreases-kept : goal.decreases-kept
decreases-kept l = length l.self.labels.now
