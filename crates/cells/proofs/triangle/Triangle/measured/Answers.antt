use Rattle.std.proofs.Common.{arith}
use Rattle.cells.proofs.Copying.{more, all_copied}
use Rattle.cells.proofs.triangle.Triangle.measured.Goals as goal

pub loop-a-preserved : goal.loop-a-preserved
loop-a-preserved c = more c.loop-a.invariant c.copy_row.ensures

pub returns : goal.returns
returns c = all_copied c.loop-a.invariant (omega arith)
