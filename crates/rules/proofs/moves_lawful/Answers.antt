use Rattle.rules.proofs.moves_lawful.Goals as goal
use Rattle.rules.proofs.Moving.{moves_lawful}

pub returns : goal.returns
returns c = moves_lawful
