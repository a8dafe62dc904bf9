use Rattle.yardsticks.specs.Merits.{merit_of}
use Rattle.yardsticks.proofs.Adding.{Sofar}
use Rattle.yardsticks.proofs.total.sum.Given as goal

abbrev pub invariant-loop-label : goal.invariant-loop-label
invariant-loop-label g l =
    Sofar (merit_of g.Y.Yardstick) l.marks l.order l.label-index l.placed (g.Y.Yardstick.numbers l.sum)
