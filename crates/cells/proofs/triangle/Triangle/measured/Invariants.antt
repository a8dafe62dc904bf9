use Rattle.cells.proofs.Copying.{SoFar}
use Rattle.cells.proofs.triangle.Triangle.measured.Given as goal

abbrev pub invariant-loop-a : goal.invariant-loop-a
invariant-loop-a l = SoFar l.self l.fn.units.count l.a l.marks
