use Rattle.rules.proofs.check_counts.Goals as goal
use Rattle.rules.proofs.Comparisons.{comparisons, unbroken}

pub returns : goal.returns
returns c = (comparisons, unbroken)
