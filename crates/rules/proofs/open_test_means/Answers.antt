use Rattle.rules.proofs.open_test_means.Goals as goal
use Rattle.rules.proofs.Rows.{opens}

pub returns : goal.returns
returns c = opens
