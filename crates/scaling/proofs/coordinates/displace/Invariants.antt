use Rattle.scaling.proofs.Displacing.{Sofar}
use Rattle.scaling.proofs.coordinates.displace.Given as goal

abbrev pub invariant-loop-i : goal.invariant-loop-i
invariant-loop-i l = Sofar l.marks l.order l.initial.list l.i l.placed l.squares l.list
