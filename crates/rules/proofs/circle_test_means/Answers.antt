use Rattle.rules.proofs.circle_test_means.Goals as goal
use Rattle.rules.proofs.Closed.{no_circle}

pub returns : goal.returns
returns c = no_circle
