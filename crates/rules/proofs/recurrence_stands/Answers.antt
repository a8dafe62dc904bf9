use Rattle.rules.proofs.recurrence_stands.Goals as goal
use Rattle.rules.proofs.Recurrence.{recurrence}

pub returns : goal.returns
returns c = recurrence
