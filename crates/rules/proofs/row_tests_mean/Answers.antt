use Rattle.rules.proofs.row_tests_mean.Goals as goal
use Rattle.rules.proofs.Rows.{row_tests_mean}

pub returns : goal.returns
returns c = row_tests_mean
