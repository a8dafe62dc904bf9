use Rattle.rules.proofs.improving_stands.Goals as goal
use Rattle.rules.proofs.Improving.{improving_stands}

pub returns : goal.returns
returns c = improving_stands
