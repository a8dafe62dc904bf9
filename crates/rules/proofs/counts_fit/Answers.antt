use Rattle.rules.proofs.counts_fit.Goals as goal
use Rattle.rules.proofs.Counts.{few_ways}

pub returns : goal.returns
returns c = few_ways
