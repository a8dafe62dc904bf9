use Rattle.rules.proofs.yardsticks_lawful.Goals as goal
use Rattle.rules.proofs.Lawfulness.{yardsticks_lawful}

pub returns : goal.returns
returns c = yardsticks_lawful
