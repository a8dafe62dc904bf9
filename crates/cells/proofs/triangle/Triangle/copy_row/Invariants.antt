use Rattle.cells.proofs.Copying.{RowSoFar}
use Rattle.cells.proofs.triangle.Triangle.copy_row.Given as goal

abbrev pub invariant-loop-b : goal.invariant-loop-b
invariant-loop-b l = RowSoFar l.self l.a l.b l.initial.marks l.marks
