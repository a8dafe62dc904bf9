use Rattle.rules.proofs.Cells.{cells_mean}
use Rattle.rules.proofs.cells_mean.Goals as goal

pub returns : goal.returns
returns c = cells_mean
