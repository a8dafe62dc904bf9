use Rattle.rules.proofs.line_and_loss.Goals as goal
use Rattle.rules.proofs.Line.{line, loss_exact}

pub returns : goal.returns
returns c = (line, loss_exact)
