use Rattle.std.proofs.Common.{arith}
use Rattle.cells.proofs.Copying.{row_more, row_whole}
use Rattle.cells.proofs.triangle.Triangle.copy_row.Goals as goal

pub loop-b-preserved : goal.loop-b-preserved
loop-b-preserved c =
    row_more c.loop-b.invariant c.put.ensures c.mark.ensures c.low_value.ensures.is c.low_value.ensures.low
    c.requires.least (omega arith) (omega arith)

pub returns-2 : goal.returns-2
returns-2 c =
    row_whole
    (row_more c.loop-b.invariant c.put.ensures c.mark.ensures c.low_value.ensures.is c.low_value.ensures.low
    c.requires.least (omega arith) (omega arith))
    (omega arith)
