use Rattle.std.proofs.Common.{◌≡◌}
use Rattle.rules.specs.Units.{displacement}
use Rattle.marks.specs.Numbers.{numbers_of}
use Rattle.marks.proofs.marks.Marks.displacement.Given as goal

abbrev pub invariant-loop-i : goal.invariant-loop-i
invariant-loop-i l = l.sum ≡ displacement (numbers_of l.self) l.i l.placed l.unit
