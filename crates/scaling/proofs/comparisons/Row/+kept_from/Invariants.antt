use Rattle.std.proofs.Common.{length}
use Rattle.scaling.proofs.comparisons.Row.+kept_from.Given as goal

abbrev pub decreases-kept_from : goal.decreases-kept_from
decreases-kept_from l = length l.self.labels.now
