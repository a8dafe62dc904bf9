use Rattle.rules.proofs.promise_stands.Goals as goal
use Rattle.rules.proofs.Promise.{promise}

pub returns : goal.returns
returns c = promise
